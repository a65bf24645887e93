use Rattle.std.proofs.Common.{sym, ◌∙◌}
use Rattle.near_legs.specs.Choices.{unit_of}
use Rattle.near_notes.proofs.OutLaws.{rows-out}
use Rattle.near_notes.proofs.notes.UnitNotes.knows.Goals as goal

pub returns-then-has : goal.returns-then-has
returns-then-has c = λ known.
    rows-out c.args.inst.now c.args.self.now.plan (unit_of c.args.unit)
    (c.requires.notes.by_rows.known c.args.unit c.requires.unit (sym c.has.ensures ∙ c.if-has.true))

pub returns-else-has : goal.returns-else-has
returns-else-has c = λ known. c.requires.notes.out.known c.args.unit c.requires.unit (sym c.has-else-has.ensures ∙ known)
