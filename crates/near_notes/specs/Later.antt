-- Notes of the plan as it stands.
use Rattle.std.specs.Prelude.{◌≡◌, ℕ, ◌<◌, List, length, slice_index, slice_index_or}
use Rattle.desk_data.specs.declared.row.Group.{Group}
use Rattle.desk_data.specs.Situation.{Situation}
use Rattle.desk_data.specs.PlanRows.{PlanRows, groups_at}
use Rattle.near_notes.specs.declared.notes_of_day.Notes.{Notes}
use Rattle.near_notes.specs.DayNotes.{AreNotes, IsInVain}

-- notes are true of the day, and are of plan P
pub record AreNotesAt (I : Situation) (P : PlanRows) (given : Notes) : Type 0 where
  pub notes : AreNotes I given
  pub plan : given.plan ≡ P

-- of each of the first n reservations no rebooking of the first so many groups is better at plan P
pub record AreKnown (I : Situation) (P : PlanRows) (n : ℕ) (known : List ℕ) : Type 0 where
  pub all : length known ≡ n
  pub vain : (r k : ℕ) (none : Group) → k < slice_index known r → k < length (groups_at P r) → IsInVain I P r (slice_index_or (groups_at P r) k none)
