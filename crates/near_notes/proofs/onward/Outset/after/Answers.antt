use Rattle.std.proofs.Common.{◌<◌, ℕ, sym, subst}
use Rattle.desk_data.specs.Situation.{airports_of}
use Rattle.near_notes.proofs.OutsetLaws.{dest-there, place-there}
use Rattle.near_notes.proofs.onward.Outset.after.Goals as goal

pub returns : goal.returns
returns c =
    let I = c.args.inst.now in
    let valid = c.parts-rows.ensures.valid in
    record {
      from = c.start_after-earliest.ensures.place;
      earliest = c.start_after-earliest.ensures.ready;
      to = c.booked.ensures.dest;
      until = c.due_before.ensures;
      from_there = subst (λ (a : ℕ). a < airports_of I) (sym c.start_after-earliest.ensures.place) (place-there I c.args.res.0 c.args.stem.now valid c.requires.res c.requires.stem);
      to_there = subst (λ (a : ℕ). a < airports_of I) (sym c.booked.ensures.dest) (dest-there I c.args.res.0 valid c.requires.res);
    }
