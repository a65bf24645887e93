-- The leg before a leg on its aircraft.
use Rattle.std.specs.Prelude.{◌≡◌, ℕ, ◌<◌, Bool, true, false, List, Option, Some, None, length, slice_index_or}
use Rattle.desk_units.specs.declared.numbers.Leg.{Leg}
use Rattle.desk_data.specs.declared.row.Row.{Row}
use Rattle.desk_data.specs.declared.row.Row.TheVariants.{Cancelled}
use Rattle.desk_rules.specs.Rotations.{comes_before}

-- whether one aircraft flies legs x and y of these rows, x before y
abbrev pub precedes_in : List Row → ℕ → ℕ → Bool
precedes_in rows x y = comes_before x (slice_index_or rows x Cancelled) y (slice_index_or rows y Cancelled)

-- leg x comes before leg y, and none of the first n legs lies between
pub record IsNearest (rows : List Row) (n y x : ℕ) : Type 0 where
  pub within : x < n
  pub before : precedes_in rows x y ≡ true
  pub nearest : (z : ℕ) → z < n → precedes_in rows z y ≡ true → precedes_in rows x z ≡ false

-- the last of the first n legs that come before leg y, if any does
abbrev pub IsLegBefore : List Row → ℕ → ℕ → Option Leg → Type 0
IsLegBefore rows n y None = (x : ℕ) → x < n → precedes_in rows x y ≡ false
IsLegBefore rows n y (Some leg) = IsNearest rows n y leg.0

-- for each leg of these rows the last that comes before it
pub record AreBefore (rows : List Row) (before : List (Option Leg)) : Type 0 where
  pub legs : length before ≡ length rows
  pub each : (y : ℕ) → y < length rows → IsLegBefore rows (length rows) y (slice_index_or before y None)
