-- The paths that are tried after a stem, leg by leg.
use Rattle.std.specs.Prelude.{ℕ, List, [], ◌∷◌, ◌++◌, filter, map}
use Rattle.std.specs.List.{flat_map}
use Rattle.desk_units.specs.declared.numbers.Leg.{Leg}
use Rattle.desk_units.specs.declared.numbers.Cabin.{Cabin}
use Rattle.desk_units.specs.declared.numbers.Cabin.TheVariants.{F, B, E}
use Rattle.desk_data.specs.Situation.{Situation}
use Rattle.desk_data.specs.PlanRows.{PlanRows}
use Rattle.near_moves.specs.MoveParts.{leg}
use Rattle.near_moves.specs.RouteParts.{is_new_route}

-- those of some paths that are routes of reservation r and not told yet
abbrev pub new_routes : Situation → PlanRows → ℕ → List (List (Leg × Cabin)) → List (List (Leg × Cabin)) → List (List (Leg × Cabin))
new_routes I P r told paths = filter (is_new_route I P r told) paths

-- leg x after a stem, in each cabin
abbrev pub singles_of : List (Leg × Cabin) → ℕ → List (List (Leg × Cabin))
singles_of stem x = map (λ c. stem ++ (leg x, c) ∷ []) (F ∷ B ∷ E ∷ [])

-- leg x and each of some legs after it, in one cabin
abbrev pub doubles_in : List (Leg × Cabin) → ℕ → List ℕ → Cabin → List (List (Leg × Cabin))
doubles_in stem x ys c = map (λ y. stem ++ (leg x, c) ∷ (leg y, c) ∷ []) ys

abbrev pub doubles_of : List (Leg × Cabin) → ℕ → List ℕ → List (List (Leg × Cabin))
doubles_of stem x ys = flat_map (doubles_in stem x ys) (F ∷ B ∷ E ∷ [])
