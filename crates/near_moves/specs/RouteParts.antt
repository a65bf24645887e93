-- The routes stem by stem: after those of the stems before it, the ones of a stem that are not among these.
use Rattle.std.specs.Prelude.{ℕ, Bool, ◌&&◌, not, if◌then◌else◌, List, [], ◌∷◌, ◌++◌, filter, fold}
use Rattle.std.specs.List.{list_any}
use Rattle.desk_units.specs.declared.numbers.Leg.{Leg}
use Rattle.desk_units.specs.declared.numbers.Cabin.{Cabin}
use Rattle.desk_data.specs.Situation.{Situation}
use Rattle.desk_data.specs.Booked.{booked_path}
use Rattle.desk_data.specs.PlanRows.{PlanRows, same_path}
use Rattle.near_moves.specs.Routes.{is_route, stems, tried_after}

-- whether a path stands among some paths
abbrev pub stands_among : List (List (Leg × Cabin)) → List (Leg × Cabin) → Bool
stands_among paths path = list_any (λ other. same_path other path) paths

-- whether a path is a route that is not told yet
abbrev pub is_new_route : Situation → PlanRows → ℕ → List (List (Leg × Cabin)) → List (Leg × Cabin) → Bool
is_new_route I P r told path = is_route I P r path && not (stands_among told path)

-- routes that are told, and behind them those of some paths that are new
abbrev pub with_routes_of : Situation → PlanRows → ℕ → List (List (Leg × Cabin)) → List (List (Leg × Cabin)) → List (List (Leg × Cabin))
with_routes_of I P r told paths = told ++ filter (is_new_route I P r told) paths

-- the scheduled path, where it is a route
abbrev pub scheduled_route : Situation → PlanRows → ℕ → List (List (Leg × Cabin))
scheduled_route I P r = if is_route I P r (booked_path I r) then booked_path I r ∷ [] else []

-- routes that are told, and behind them those of some stems in turn
abbrev pub with_stems : Situation → PlanRows → ℕ → List (List (Leg × Cabin)) → List (List (Leg × Cabin)) → List (List (Leg × Cabin))
with_stems I P r told some = fold (λ before stem. with_routes_of I P r before (tried_after I stem)) told some

-- the scheduled path where it is a route, and those of each stem in turn
abbrev pub routes_by_stems : Situation → PlanRows → ℕ → List (List (Leg × Cabin))
routes_by_stems I P r = with_stems I P r (scheduled_route I P r) (stems I r)
