use Rattle.std.proofs.Common.{ℕ, List, Bor, sym, subst}
use Rattle.desk_units.specs.declared.numbers.Leg.{Leg}
use Rattle.near_moves.proofs.ListLaws.{for_some}
use Rattle.near_draft.specs.declared.kept.PlaneLegs.{PlaneLegs}
use Rattle.near_draft.specs.Legs.{AreLegsOf, numbers_of}
use Rattle.near_draft.proofs.kept.kept_legs.Goals as goal

pub returns-then-list-plane : goal.returns-then-list-plane
returns-then-list-plane c = λ I P kept.
    let list = c.list-item.result in
    let p = c.args.plane.0 in
    let own : AreLegsOf I P list.plane.0 (numbers_of list.legs.items) =
    subst (λ (l : PlaneLegs). AreLegsOf I P l.plane.0 (numbers_of l.legs.items)) (sym c.list-item.is) (kept c.loop-list.list-index list c.loop-list-test.true) in
    let are : AreLegsOf I P p (numbers_of list.legs.items) = subst (λ (q : ℕ). AreLegsOf I P q (numbers_of list.legs.items)) c.if-list-plane.true own in
    for_some (λ (legs : Bor (List Leg)). AreLegsOf I P p (numbers_of legs.now)) c.as_slice.result
    (subst (λ (legs : List Leg). AreLegsOf I P p (numbers_of legs)) (sym c.as_slice.ensures.value) are)
