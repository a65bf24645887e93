use Rattle.std.proofs.Common.{◌++◌, ◌∷◌, [], sym, ap, ◌∙◌, subst, refl}
use Rattle.std.specs.List.{All}
use Rattle.std.proofs.lemmas.List.Elements.{All-nil, All-cons, All-append}
use Rattle.added_legs.specs.Hours.{IsTaken}
use Rattle.added_legs.proofs.HourLaws.{extra-taken, extra-none}
use Rattle.added_legs.proofs.slots.add_slots.Goals as goal
use Rattle.added_legs.proofs.slots.add_slots.Goals.{in-Some+in_ok-push, in_default}

pub loop-p-preserved : goal.loop-p-preserved
loop-p-preserved c =
    let I = c.args.inst.now in
    let movement = c.args.movement in
    let flights = c.args.flights.now in
    let p = c.loop-p.p in
    let old = c.args.taken.now.items in
    elim c.match-slot_of_flight.branch [
      | in-Some+in_ok-push w ↦
          let slot = w.in-Some.slot in
          let pushed = ap (λ v. v.items) w.taken-is ∙ w.in_ok-push.ensures.items in
          record {
            taken = pushed
                ∙ ap (λ ts. ts ++ slot ∷ []) c.loop-p.invariant.taken
                ∙ sym (extra-taken I movement flights old p slot w.in-Some.ensures.slot);
            ranges = subst (All (IsTaken I movement)) (sym pushed)
                (All-append (IsTaken I movement) c.loop-p.taken.items (slot ∷ []) c.loop-p.invariant.ranges
                (All-cons (IsTaken I movement) slot [] (w.in-Some.ensures.ranges slot refl) (All-nil (IsTaken I movement))));
          }
      | in_default w ↦
          let kept = ap (λ v. v.items) w.taken-is in
          record {
            taken = kept ∙ c.loop-p.invariant.taken ∙ sym (extra-none I movement flights old p (sym w.in_default.is ∙ c.slot_of_flight.ensures.slot));
            ranges = subst (All (IsTaken I movement)) (sym kept) c.loop-p.invariant.ranges;
          }
    ]
