-- Between which airports legs of the day go, in a table of all pairs.
use Rattle.std.specs.Prelude.{◌≡◌, ℕ, ◌+◌, ◌*◌, ◌<◌, Bool, false, List, length, slice_index_or}
use Rattle.desk_data.specs.Situation.{Situation, airports_of}
use Rattle.near_memory.specs.Untouched.{goes_between}

-- the place of a pair of airports, from one to the other: there are at most 500
abbrev pub link_number : ℕ → ℕ → ℕ
link_number from to = 500 * from + to

-- each pair is told
pub record AreLinks (I : Situation) (known : List Bool) : Type 0 where
  pub places : length known ≡ 500 * airports_of I
  pub each : (from to : ℕ) → from < airports_of I → to < 500 → slice_index_or known (link_number from to) false ≡ goes_between I from to
