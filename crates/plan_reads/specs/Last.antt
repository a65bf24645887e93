-- The last leg of an aircraft before a moment, and where it leaves the aircraft.
use Rattle.std.specs.Prelude.{◌≡◌, ℕ, ◌<◌, true, false, List, length, Option, Some, None, slice_index_or}
use Rattle.desk_units.specs.declared.numbers.Airport.{Airport}
use Rattle.desk_units.specs.declared.numbers.Leg.{Leg}
use Rattle.desk_data.specs.Situation.{Situation, planes_of, leg_at, plane_at}
use Rattle.desk_data.specs.PlanRows.{PlanRows}
use Rattle.desk_rules.specs.Rotations.{precedes}
use Rattle.desk_rules.specs.Maintenance.{departs_before}

-- leg x is the last of the first n legs that aircraft p flies and that depart before a moment
pub record IsLast (P : PlanRows) (p at n x : ℕ) : Type 0 where
  pub within : x < n
  pub before : departs_before P p at x ≡ true
  pub last : (z : ℕ) → z < n → departs_before P p at z ≡ true → precedes P x z ≡ false

-- the last of them, if there is one
abbrev pub IsLastOf : PlanRows → ℕ → ℕ → ℕ → Option Leg → Type 0
IsLastOf P p at n None = (x : ℕ) → x < n → departs_before P p at x ≡ false
IsLastOf P p at n (Some leg) = IsLast P p at n leg.0

-- for each aircraft the last of the first n legs that it flies and that depart before its moment
pub record AreLasts (I : Situation) (P : PlanRows) (moment : ℕ → ℕ) (n : ℕ) (lasts : List (Option Leg)) : Type 0 where
  pub planes : length lasts ≡ planes_of I
  pub each : (p : ℕ) → p < planes_of I → IsLastOf P p (moment p) n (slice_index_or lasts p None)

-- where aircraft p stands after a leg: where it arrives, or with no leg where the aircraft stands at first
abbrev pub stand : Situation → ℕ → Option Leg → Airport
stand I p None = (plane_at I p).origin
stand I p (Some leg) = (leg_at I leg.0).dest
