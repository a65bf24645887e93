-- How many legs of each aircraft leave each airport, or reach it, in a table of all aircraft and airports.
use Rattle.std.specs.Prelude.{◌≡◌, ℕ, ◌+◌, ◌*◌, ◌<◌, ◌≤◌, Bool, true, ◌⊎◌, List, length, All, count_by, slice_index}
use Rattle.desk_data.specs.Situation.{Situation, airports_of, planes_of}
use Rattle.desk_data.specs.PlanRows.{PlanRows}
use Rattle.desk_rules.specs.Numbers.{numbers}
use Rattle.hour_counts.specs.declared.slot.Movement.{Movement}
use Rattle.near_untouched.specs.Hours.{half_margin, is_at}
use Rattle.near_untouched.specs.Marks.{is_marked}

-- the place of aircraft p and airport a, where there are so many airports
abbrev pub place_number : ℕ → ℕ → ℕ → ℕ
place_number airports p a = p * airports + a

-- of the first n legs in plan R: an aircraft is marked, or no more of its legs leave an airport, or reach it, than are counted there, and that is at most half the margin
pub record AreCounted (n : ℕ) (m : Movement) (I : Situation) (R : PlanRows) (counts : List ℕ) (touched : List Bool) : Type 0 where
  pub places : length counts ≡ airports_of I * planes_of I
  pub planes : length touched ≡ planes_of I
  pub few : All (λ count. count ≤ half_margin) counts
  pub each : (p a : ℕ) → p < planes_of I → a < airports_of I → (is_marked touched p ≡ true) ⊎ (count_by (is_at m I R p a) (numbers n) ≤ slice_index counts (place_number (airports_of I) p a))
