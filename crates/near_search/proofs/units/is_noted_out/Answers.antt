use Rattle.std.proofs.Common.{sym, subst}
use Rattle.desk_data.specs.PlanRows.{PlanRows}
use Rattle.near_legs.specs.Choices.{IsLegUnit, unit_of}
use Rattle.near_notes.specs.Notes.{AreUnitNotesAt, IsUnitOut}
use Rattle.near_search.specs.Noted.{AreUnitsNotedAt}
use Rattle.near_search.proofs.OutLaws.{unit-none}
use Rattle.near_search.proofs.units.is_noted_out.Goals as goal

pub knows-requires-clause-notes : goal.knows-requires-clause-notes
knows-requires-clause-notes c =
    let I = c.args.eval.now.inst in
    let P = c.args.eval.now.rows in
    let at : AreUnitNotesAt I P c.in-Some.notes = subst (AreUnitsNotedAt I P) c.in-Some.is c.requires.notes in
    rw c.instance.ensures at.notes

pub knows-requires-clause-unit : goal.knows-requires-clause-unit
knows-requires-clause-unit c =
    let I = c.args.eval.now.inst in
    let P = c.args.eval.now.rows in
    let at : AreUnitNotesAt I P c.in-Some.notes = subst (AreUnitsNotedAt I P) c.in-Some.is c.requires.notes in
    rw c.instance.ensures (subst (λ (R : PlanRows). IsLegUnit I R c.args.unit) (sym at.plan) c.requires.unit)

pub returns-in-Some : goal.returns-in-Some
returns-in-Some c = λ known.
    (let I = c.args.eval.now.inst in
    let P = c.args.eval.now.rows in
    let at : AreUnitNotesAt I P c.in-Some.notes = subst (AreUnitsNotedAt I P) c.in-Some.is c.requires.notes in
    let out : IsUnitOut I c.in-Some.notes.plan (unit_of c.args.unit) = (rw c.instance.ensures at c.knows.ensures) known in
    unit-none I P (unit_of c.args.unit) (subst (λ (R : PlanRows). IsUnitOut I R (unit_of c.args.unit)) at.plan out))
