use Rattle.std.proofs.Common.{sym, ap, ◌∙◌, ◌++◌, ◌∷◌, [], subst, refl}
use Rattle.std.specs.List.{All}
use Rattle.std.proofs.lemmas.List.Elements.{All-nil, All-cons, All-append}
use Rattle.plan_checks.proofs.TakenLaws.{slots-taken, slots-none}
use Rattle.added_legs.specs.Hours.{IsTaken}
use Rattle.added_legs.proofs.slots.plan_slots.Goals as goal
use Rattle.added_legs.proofs.slots.plan_slots.Goals.{in-Some+in_ok-push, in_default}

pub loop-x-preserved : goal.loop-x-preserved
loop-x-preserved c =
    let inst = c.args.inst.now in
    let plan = c.args.plan.now in
    let movement = c.args.movement in
    let x = c.loop-x.x in
    elim c.match-slot_of_leg.branch [
      | in-Some+in_ok-push w ↦
          let slot = w.in-Some.slot in
          let pushed = ap (λ v. v.items) w.taken-is ∙ w.in_ok-push.ensures.items in
          record {
            taken = pushed
                ∙ ap (λ ts. ts ++ slot ∷ []) c.loop-x.invariant.taken
                ∙ sym (slots-taken inst plan movement x slot w.in-Some.ensures.slot);
            ranges = subst (All (IsTaken inst movement)) (sym pushed)
                (All-append (IsTaken inst movement) c.loop-x.taken.items (slot ∷ []) c.loop-x.invariant.ranges
                (All-cons (IsTaken inst movement) slot [] (w.in-Some.ensures.ranges slot refl) (All-nil (IsTaken inst movement))));
          }
      | in_default w ↦
          let kept = ap (λ v. v.items) w.taken-is in
          record {
            taken = kept ∙ c.loop-x.invariant.taken ∙ sym (slots-none inst plan movement x (sym w.in_default.is ∙ c.slot_of_leg.ensures.slot));
            ranges = subst (All (IsTaken inst movement)) (sym kept) c.loop-x.invariant.ranges;
          }
    ]
