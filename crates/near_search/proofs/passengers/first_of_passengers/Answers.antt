use Rattle.std.proofs.Common.{◌≡◌, false, List, sym, ap, subst, ◌∙◌}
use Rattle.std.specs.Prelude.{find, All}
use Rattle.plan_moves.specs.declared.moves.Move.{Move}
use Rattle.plan_moves.specs.Fits.{Fits}
use Rattle.near_moves.specs.Units.{MoveUnit}
use Rattle.near_moves.specs.Near.{moves_of}
use Rattle.near_moves.specs.Descent.{is_better}
use Rattle.near_pax.specs.Left.{unit_left, units_left}
use Rattle.near_search.specs.Passed.{GoesOn}
use Rattle.near_search.proofs.PassedLaws.{find-before, find-after, all-front, all-back, none_found}
use Rattle.near_search.proofs.passengers.first_of_passengers.Goals as goal

-- the path at hand, before any other
pub returns-in-Some-clause-ok : goal.returns-in-Some-clause-ok
returns-in-Some-clause-ok g c =
    let I = c.args.eval.now.inst in
    let P = c.args.eval.now.rows in
    let moves = c.args.moves.now in
    sym (find-before (is_better I P) (unit_left I P moves) (moves_of I P (units_left I P moves)) c.in-Some.m (sym c.in_ok-m.ensures.ok ∙ c.in-Some.is))

pub loop-res-init : goal.loop-res-init
loop-res-init g c =
    let I = c.args.eval.now.inst in
    let P = c.args.eval.now.rows in
    let front = unit_left I P c.args.moves.now in
    let back = moves_of I P (units_left I P c.args.moves.now) in
    let stay : units_left I P c.first_of.new.moves ≡ units_left I P c.args.moves.now = c.first_of.ensures.units_after in
    record {
      of = c.first_of.ensures.moves;
      notes = c.requires.notes;
      eval = c.first_of.ensures.eval;
      same = ap (λ (us : List MoveUnit). find (is_better I P) (moves_of I P us)) stay ∙ sym (find-after (is_better I P) front back (sym c.in_ok-m.ensures.ok ∙ c.in_default.is));
      fits = subst (λ (us : List MoveUnit). All (Fits I) (moves_of I P us)) (sym stay) (all-back (Fits I) front back c.requires.fits);
    }

-- the path to which it goes on
pub first_of-requires-in-Some-go_on-clause-fits : goal.first_of-requires-in-Some-go_on-clause-fits
first_of-requires-in-Some-go_on-clause-fits g c =
    let I = c.args.eval.now.inst in
    let P = c.args.eval.now.rows in
    let moves = c.go_on.new.moves in
    let goes : GoesOn I P (units_left I P c.loop-res.moves) c.in-Some-go_on.res.0 c.in-Some-go_on.place moves = rw c.loop-res.invariant.eval at c.in-Some-go_on.ensures.more in
    rw c.loop-res.invariant.eval (all-front (Fits I) (unit_left I P moves) (moves_of I P (units_left I P moves)) (goes.fits c.loop-res.invariant.fits))

pub returns-in-Some-2-clause-ok : goal.returns-in-Some-2-clause-ok
returns-in-Some-2-clause-ok g c =
    let I = c.args.eval.now.inst in
    let P = c.args.eval.now.rows in
    let moves = c.go_on.new.moves in
    let goes : GoesOn I P (units_left I P c.loop-res.moves) c.in-Some-go_on.res.0 c.in-Some-go_on.place moves = rw c.loop-res.invariant.eval at c.in-Some-go_on.ensures.more in
    let found = rw c.loop-res.invariant.eval at c.in_ok-m-2.ensures.ok in
    sym (find-before (is_better I P) (unit_left I P moves) (moves_of I P (units_left I P moves)) c.in-Some-2.m (sym found ∙ c.in-Some-2.is))
    ∙ sym goes.same
    ∙ c.loop-res.invariant.same

pub note-requires-clause-vain : goal.note-requires-clause-vain
note-requires-clause-vain g c =
    let I = c.args.eval.now.inst in
    let P = c.args.eval.now.rows in
    let moves = c.go_on.new.moves in
    let goes : GoesOn I P (units_left I P c.loop-res.moves) c.in-Some-go_on.res.0 c.in-Some-go_on.place moves = rw c.loop-res.invariant.eval at c.in-Some-go_on.ensures.more in
    let found = rw c.loop-res.invariant.eval at c.in_ok-m-2.ensures.ok in
    rw (c.first_of-in-Some-go_on.ensures.eval, c.loop-res.invariant.eval)
    (subst (All (λ (m : Move). is_better I P m ≡ false)) goes.unit (none_found (is_better I P) (unit_left I P moves) (sym found ∙ c.in_default-2.is)))

pub loop-res-preserved : goal.loop-res-preserved
loop-res-preserved g c =
    let I = c.args.eval.now.inst in
    let P = c.args.eval.now.rows in
    let moves = c.go_on.new.moves in
    let goes : GoesOn I P (units_left I P c.loop-res.moves) c.in-Some-go_on.res.0 c.in-Some-go_on.place moves = rw c.loop-res.invariant.eval at c.in-Some-go_on.ensures.more in
    let found = rw c.loop-res.invariant.eval at c.in_ok-m-2.ensures.ok in
    let front = unit_left I P moves in
    let back = moves_of I P (units_left I P moves) in
    let stay : units_left I P c.first_of-in-Some-go_on.new.moves ≡ units_left I P moves = rw c.loop-res.invariant.eval at c.first_of-in-Some-go_on.ensures.units_after in
    record {
      of = rw c.loop-res.invariant.eval at c.first_of-in-Some-go_on.ensures.moves;
      notes = rw (c.first_of-in-Some-go_on.ensures.eval, c.loop-res.invariant.eval) at c.note.ensures;
      eval = c.first_of-in-Some-go_on.ensures.eval ∙ c.loop-res.invariant.eval;
      same = ap (λ (us : List MoveUnit). find (is_better I P) (moves_of I P us)) stay
          ∙ sym (find-after (is_better I P) front back (sym found ∙ c.in_default-2.is))
          ∙ sym goes.same
          ∙ c.loop-res.invariant.same;
      fits = subst (λ (us : List MoveUnit). All (Fits I) (moves_of I P us)) (sym stay) (all-back (Fits I) front back (goes.fits c.loop-res.invariant.fits));
    }
