-- What a finder keeps.
use Rattle.desk_data.specs.Situation.{Situation}
use Rattle.near_notes.specs.DayNotes.{AreNotesIfAny}
use Rattle.near_notes.specs.Notes.{AreUnitNotesIfAny}
use Rattle.near_search.specs.declared.finder.Finder.{Finder}

-- a finder serves a day: what it noted, if anything, is true of that day, each at the plan at which it was noted
pub record IsFinderOf (I : Situation) (finder : Finder) : Type 0 where
  pub notes : AreNotesIfAny I finder.notes
  pub units : AreUnitNotesIfAny I finder.units
