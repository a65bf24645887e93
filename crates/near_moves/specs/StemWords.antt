-- The stems of routes, in their order.
use Rattle.std.specs.Prelude.{◌≡◌, ◌↔◌, ◌⊎◌, ℕ, ◌<◌, ◌≤◌, List, ◌∷◌, length, Contains}
use Rattle.std.specs.List.{AllPairs}
use Rattle.std.specs.declared.cmp.Ordering.TheVariants.{Less}
use Rattle.desk_units.specs.declared.numbers.Leg.{Leg}
use Rattle.desk_units.specs.declared.numbers.Cabin.{Cabin}
use Rattle.desk_data.specs.PlanRows.{path_cmp}
use Rattle.desk_data.specs.Situation.{Situation, tally_at}
use Rattle.near_moves.specs.Routes.{begun_path, stems}

-- some passengers of reservation r have flown just these legs, at least one, and these are not just what has begun
pub record IsOtherStem (I : Situation) (r : ℕ) (stem : List (Leg × Cabin)) : Type 0 where
  pub count : ℕ
  pub flown : Contains (tally_at I r) (stem, count)
  pub some : 1 ≤ length stem
  pub other : stem ≡ begun_path I r → ⊥

-- the first stem of reservation r is what has begun, and behind it stand the others, in the order of paths
pub record AreStemsInOrder (I : Situation) (r : ℕ) : Type 0 where
  pub others : List (List (Leg × Cabin))
  pub all : stems I r ≡ begun_path I r ∷ others
  pub each : (stem : List (Leg × Cabin)) → Contains others stem ↔ IsOtherStem I r stem
  pub ascending : AllPairs (λ a b. path_cmp a b ≡ Less) others

-- of the paths after a stem, one is tried before another where it is shorter, or as long and before it in the order of paths
abbrev pub IsTriedFirst : List (Leg × Cabin) → List (Leg × Cabin) → Type 0
IsTriedFirst a b = (length a < length b) ⊎ ((length a ≡ length b) × (path_cmp a b ≡ Less))
