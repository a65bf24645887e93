-- The rules of the paths of reservations.
use Rattle.std.specs.Prelude.{◌≡◌, ℕ, ◌≤◌, ◌<◌, Bool, true, ◌&&◌, Option, find}
use Rattle.std.specs.Option.{option_or}
use Rattle.desk_data.specs.declared.broken.Broken.{Broken}
use Rattle.desk_data.specs.declared.broken.Broken.TheVariants.{C13, C14, C15}
use Rattle.desk_data.specs.Situation.{Situation, reservations_of}
use Rattle.desk_data.specs.PlanRows.{PlanRows}
use Rattle.desk_rules.specs.Carriage.{keeps_c13, keeps_c14, keeps_c15}
use Rattle.desk_rules.specs.Least.{breaks, each_res}

-- whether reservation r keeps C13, C14 and C15
abbrev pub keeps_paths : Situation → PlanRows → ℕ → Bool
keeps_paths I P r = keeps_c13 I P r && keeps_c14 I P r && keeps_c15 I P r

-- the reservations from number `from` on, before number `to`, keep C13, C14 and C15
abbrev pub KeepPaths : Situation → PlanRows → ℕ → ℕ → Type 0
KeepPaths I P from to = (r : ℕ) → from ≤ r → r < to → r < reservations_of I → keeps_paths I P r ≡ true

-- the first item of C13 that is broken, or else of C14, or else of C15
abbrev pub first_of_paths : Situation → PlanRows → Option Broken
first_of_paths I P =
    option_or (option_or (find (breaks I P) (each_res I C13)) (find (breaks I P) (each_res I C14))) (find (breaks I P) (each_res I C15))
