-- What notes say of a day.
use Rattle.std.specs.Prelude.{◌≡◌, ℕ, ◌<◌, false, List, length, All, Option, Some, None, slice_index, slice_index_or}
use Rattle.desk_units.specs.declared.numbers.Cabin.{Cabin}
use Rattle.desk_units.specs.declared.numbers.Seats.{Seats}
use Rattle.desk_data.specs.declared.row.Group.{Group}
use Rattle.desk_data.specs.Situation.{Situation, reservations_of}
use Rattle.desk_data.specs.PlanRows.{PlanRows, groups_at}
use Rattle.desk_data.specs.Valid.{IsPlanFor}
use Rattle.desk_rules.specs.Least.{least}
use Rattle.desk_rules.specs.Passengers.{aboard, seats_in}
use Rattle.near_moves.specs.Descent.{is_better}
use Rattle.near_moves.specs.Near.{unit_moves}
use Rattle.near_moves.specs.Units.{rebooked}
use Rattle.near_notes.specs.declared.notes_of_day.Notes.{Notes}

-- no rebooking of a group of reservation r is better at plan P, however many go and wherever they do
abbrev pub IsInVain : Situation → PlanRows → ℕ → Group → Type 0
IsInVain I P r group = All (λ m. is_better I P m ≡ false) (unit_moves I P (rebooked r group.path))

-- so many are aboard each leg of plan P in each cabin
pub record HaveAboard (P : PlanRows) (seats : List Seats) : Type 0 where
  pub legs : length seats ≡ length P.rows
  pub each : (x : ℕ) (none : Seats) (c : Cabin) → x < length seats → seats_in (slice_index_or seats x none) c ≡ aboard P x c

-- notes are true of the day: their plan is a feasible plan for it, so many are aboard its legs, and at it no rebooking of the first so many groups of each reservation is better
pub record AreNotes (I : Situation) (notes : Notes) : Type 0 where
  pub valid : IsPlanFor I notes.plan
  pub feasible : least I notes.plan ≡ None
  pub aboard : HaveAboard notes.plan notes.aboard.items
  pub reservations : length notes.known.items ≡ reservations_of I
  pub vain : (r k : ℕ) (none : Group) → k < slice_index notes.known.items r → k < length (groups_at notes.plan r) → IsInVain I notes.plan r (slice_index_or (groups_at notes.plan r) k none)

-- if there are any
abbrev pub AreNotesIfAny : Situation → Option Notes → Type 0
AreNotesIfAny I None = Unit {0}
AreNotesIfAny I (Some notes) = AreNotes I notes
