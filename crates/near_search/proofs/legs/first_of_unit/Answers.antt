use Rattle.std.proofs.Common.{subst, sym, ◌∙◌}
use Rattle.near_legs.specs.Choices.{unit_of}
use Rattle.near_notes.proofs.OutLaws.{rows-out}
use Rattle.near_search.specs.Out.{AreMovesOut, AreMovesOutByRows}
use Rattle.near_search.proofs.OutLaws.{all-out, all-out-by-rows, begins-flown, hands-out, unit-none}
use Rattle.near_search.proofs.VainLaws.{worse-none}
use Rattle.near_search.proofs.legs.first_of_unit.Goals as goal

pub returns-then-is_noted_out-clause-ok : goal.returns-then-is_noted_out-clause-ok
returns-then-is_noted_out-clause-ok g c =
    sym (worse-none c.args.eval.now.inst c.args.eval.now.rows (unit_of c.args.unit) (c.is_noted_out.ensures c.if-is_noted_out.true))

pub note_by_rows-requires-clause-out : goal.note_by_rows-requires-clause-out
note_by_rows-requires-clause-out g c =
    hands-out c.args.eval.now.inst c.args.eval.now.rows (unit_of c.args.unit) c.requires.fits (c.is_in_vain.ensures c.if-is_in_vain.true)

pub returns-then-is_in_vain-clause-ok : goal.returns-then-is_in_vain-clause-ok
returns-then-is_in_vain-clause-ok g c =
    let I = c.args.eval.now.inst in
    let P = c.args.eval.now.rows in
    let u = unit_of c.args.unit in
    sym (worse-none I P u (unit-none I P u (rows-out I P u (hands-out I P u c.requires.fits (c.is_in_vain.ensures c.if-is_in_vain.true)))))

pub note_by_rows-requires-then-by_rows-clause-out : goal.note_by_rows-requires-then-by_rows-clause-out
note_by_rows-requires-then-by_rows-clause-out g c =
    let I = c.args.eval.now.inst in
    let P = c.args.eval.now.rows in
    let u = unit_of c.args.unit in
    let made = c.of-moves.ensures ∙ (rw (c.instance.ensures, c.plan.ensures.rows) at c.in_ok-made.ensures) in
    rw c.try_all.ensures.eval (all-out-by-rows I P u (begins-flown I P c.args.unit c.requires.unit) c.requires.fits (subst (AreMovesOutByRows I P) made (c.in_ok-found.ensures.by_rows c.if-by_rows.true)))

pub note_out-requires-clause-out : goal.note_out-requires-clause-out
note_out-requires-clause-out g c =
    let I = c.args.eval.now.inst in
    let P = c.args.eval.now.rows in
    let u = unit_of c.args.unit in
    let made = c.of-moves.ensures ∙ (rw (c.instance.ensures, c.plan.ensures.rows) at c.in_ok-made.ensures) in
    rw c.try_all.ensures.eval (all-out I P u (begins-flown I P c.args.unit c.requires.unit) c.requires.fits (subst (AreMovesOut I P) made (c.in_ok-found.ensures.out c.if-out.true)))
