use Rattle.std.proofs.Common.{◌≡◌, [], false, sym, ap, subst, ◌∙◌}
use Rattle.std.specs.Prelude.{replicate}
use Rattle.desk_data.specs.Situation.{planes_of}
use Rattle.ferry_legs.specs.Steps.{AreTaken}
use Rattle.ferry_legs.proofs.ListLaws.{none_taken, none_added}
use Rattle.ferry_legs.proofs.SoundLaws.{sound_at_first}
use Rattle.ferry_legs.proofs.kept.Kept.of.Goals as goal

pub returns : goal.returns
returns c =
    let I = c.args.inst.now in
    let P = c.args.plan.now in
    let marks : c.in_ok-taken.taken.items ≡ replicate (planes_of I) false = c.in_ok-taken.ensures ∙ ap (λ n. replicate n false) c.planes.ensures.count in
    record {
      taken = subst (AreTaken I []) (sym marks) (none_taken I);
      prices = c.in_ok-prices.ensures;
      times = c.in_ok-times.ensures;
      added = none_added I P;
      sound = sound_at_first I P c.parts-rows.ensures.valid c.requires.plan.legs c.requires.feasible;
    }
