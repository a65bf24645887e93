-- Where the number of a unit stands.
use Rattle.std.specs.Prelude.{ℕ, ◌+◌, ◌*◌, ◌&&◌, nat_le, if◌then◌else◌, Option, Some, None, List}
use Rattle.near_notes.specs.declared.place.Place.{Place}
use Rattle.near_legs.specs.declared.unit.LegUnit.{LegUnit}
use Rattle.near_legs.specs.declared.unit.LegUnit.TheVariants.{Retimed, Swapped, Dropped, Restored, Handed}
use Rattle.near_notes.specs.Rows.{number_at}

abbrev pub at : ℕ → ℕ → Place
at row column = record { row = row; column = column }

-- that of a run of k legs from leg x on which goes to aircraft q: of one to four legs
abbrev pub handed_place : ℕ → ℕ → ℕ → Option Place
handed_place x k q = if nat_le 1 k && nat_le k 4 then Some (at (8 * x + 3 + k) q) else None

-- eight rows to a leg, and to an aircraft: of a leg that is retimed or dropped in the first one, of two aircraft in the second, of a leg that an aircraft flies
-- again in the third, and of a run of one to four legs that goes to an aircraft in the last four; the fourth stays empty
abbrev pub place : LegUnit → Option Place
place (Retimed leg) = Some (at (8 * leg.0) 0)
place (Swapped first second) = Some (at (8 * first.0 + 1) second.0)
place (Dropped leg) = Some (at (8 * leg.0) 1)
place (Restored leg plane) = Some (at (8 * leg.0 + 2) plane.0)
place (Handed leg count plane) = handed_place leg.0 count plane.0

-- the number that stands there
abbrev pub number_of_place : List (List ℕ) → Option Place → ℕ
number_of_place rows None = 0
number_of_place rows (Some there) = number_at rows there.row there.column

abbrev pub number_of : List (List ℕ) → LegUnit → ℕ
number_of rows u = number_of_place rows (place u)
