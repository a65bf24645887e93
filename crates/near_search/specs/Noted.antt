-- What is noted at the plan at hand, if anything is.
use Rattle.std.specs.Prelude.{Option, Some, None}
use Rattle.desk_data.specs.Situation.{Situation}
use Rattle.desk_data.specs.PlanRows.{PlanRows}
use Rattle.near_notes.specs.declared.notes_of_day.Notes.{Notes}
use Rattle.near_notes.specs.Later.{AreNotesAt}
use Rattle.near_notes.specs.declared.notes.UnitNotes.{UnitNotes}
use Rattle.near_notes.specs.Notes.{AreUnitNotesAt}

-- notes, if there are any, are true of the day, and are of plan P
abbrev pub AreNotedAt : Situation → PlanRows → Option Notes → Type 0
AreNotedAt I P None = Unit {0}
AreNotedAt I P (Some notes) = AreNotesAt I P notes

-- so are notes of units of legs
abbrev pub AreUnitsNotedAt : Situation → PlanRows → Option UnitNotes → Type 0
AreUnitsNotedAt I P None = Unit {0}
AreUnitsNotedAt I P (Some notes) = AreUnitNotesAt I P notes
