-- The legs of a path, by their places in it.
use Rattle.std.specs.Prelude.{ℕ, ◌-◌, Bool, true, false, List, [], ◌∷◌, length, slice_index_or}
use Rattle.desk_units.specs.declared.numbers.Leg.{Leg}
use Rattle.desk_units.specs.declared.numbers.Cabin.{Cabin}
use Rattle.desk_units.specs.declared.numbers.Cabin.TheVariants as cabin

-- a pair of nothing
unfoldable pub no_pair : Leg × Cabin
no_pair = (record { 0 = 0 }, cabin.F)

-- leg number i of a path, its first and its last leg
abbrev pub leg_in : List (Leg × Cabin) → ℕ → ℕ
leg_in path i = (slice_index_or path i no_pair).0.0

abbrev pub first_leg : List (Leg × Cabin) → ℕ
first_leg path = leg_in path 0

abbrev pub last_leg : List (Leg × Cabin) → ℕ
last_leg path = leg_in path (length path - 1)

-- the empty path means that passengers are not carried
abbrev pub is_carried : List (Leg × Cabin) → Bool
is_carried [] = false
is_carried (pair ∷ path) = true
