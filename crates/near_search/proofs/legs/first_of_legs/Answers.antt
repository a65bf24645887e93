use Rattle.std.proofs.Common.{◌≡◌, ◌∷◌, List, sym, ap, subst, ◌∙◌}
use Rattle.std.specs.Prelude.{find, All}
use Rattle.plan_moves.specs.Fits.{Fits}
use Rattle.near_moves.specs.Units.{MoveUnit}
use Rattle.near_moves.specs.Near.{unit_moves, moves_of}
use Rattle.near_moves.specs.Descent.{is_better}
use Rattle.near_legs.specs.Choices.{unit_of}
use Rattle.near_legs.specs.Walk.{units_left}
use Rattle.near_search.proofs.PassedLaws.{find-before, find-after, all-back}
use Rattle.near_search.proofs.VainLaws.{given-is}
use Rattle.near_search.proofs.legs.first_of_legs.Goals as goal

pub returns-in-Some-2-clause-ok : goal.returns-in-Some-2-clause-ok
returns-in-Some-2-clause-ok g c =
    let I = c.args.eval.now.inst in
    let P = c.args.eval.now.rows in
    let u = c.in-Some.unit in
    let at = rw (c.instance.ensures, c.plan.ensures.rows, c.loop-unit.invariant.eval) at c.in_ok-unit.ensures.ok in
    let units_after = units_left I P c.next.new.self in
    let next : units_left I P c.loop-unit.units ≡ unit_of u ∷ units_after = given-is _ (λ v. units_left I P c.loop-unit.units ≡ unit_of v ∷ units_after) c.in_ok-unit.field-0 u at c.in-Some.is in
    let found = rw c.loop-unit.invariant.eval at c.in_ok-m.ensures.ok in
    sym (ap (λ (us : List MoveUnit). find (is_better I P) (moves_of I P us)) next
    ∙ find-before (is_better I P) (unit_moves I P (unit_of u)) (moves_of I P units_after) c.in-Some-2.m (sym found ∙ c.in-Some-2.is))
    ∙ c.loop-unit.invariant.same

pub loop-unit-preserved : goal.loop-unit-preserved
loop-unit-preserved g c =
    let I = c.args.eval.now.inst in
    let P = c.args.eval.now.rows in
    let u = c.in-Some.unit in
    let at = rw (c.instance.ensures, c.plan.ensures.rows, c.loop-unit.invariant.eval) at c.in_ok-unit.ensures.ok in
    let units_after = units_left I P c.next.new.self in
    let next : units_left I P c.loop-unit.units ≡ unit_of u ∷ units_after = given-is _ (λ v. units_left I P c.loop-unit.units ≡ unit_of v ∷ units_after) c.in_ok-unit.field-0 u at c.in-Some.is in
    let found = rw c.loop-unit.invariant.eval at c.in_ok-m.ensures.ok in
    record {
      walk = rw (c.instance.ensures, c.plan.ensures.rows, c.loop-unit.invariant.eval) at c.in_ok-unit.ensures.walk;
      eval = c.first_of_unit.ensures.eval ∙ c.loop-unit.invariant.eval;
      notes = rw c.loop-unit.invariant.eval at c.in_ok-m.ensures.notes;
      same = sym (ap (λ (us : List MoveUnit). find (is_better I P) (moves_of I P us)) next
          ∙ find-after (is_better I P) (unit_moves I P (unit_of u)) (moves_of I P units_after) (sym found ∙ c.in_default-2.is))
          ∙ c.loop-unit.invariant.same;
      fits = all-back (Fits I) (unit_moves I P (unit_of u)) (moves_of I P units_after) (subst (λ (us : List MoveUnit). All (Fits I) (moves_of I P us)) next c.loop-unit.invariant.fits);
    }
