-- N6, moves of passengers: they are rebooked.
use Rattle.std.specs.Prelude.{ℕ, ◌^◌, not, nat_lt, List, [], ◌∷◌, ◌++◌, map, filter, reverse}
use Rattle.std.specs.List.{flat_map}
use Rattle.desk_units.specs.declared.numbers.Leg.{Leg}
use Rattle.desk_units.specs.declared.numbers.Cabin.{Cabin}
use Rattle.desk_units.specs.declared.numbers.Res.{Res}
use Rattle.desk_data.specs.Situation.{Situation, reservations_of}
use Rattle.desk_data.specs.PlanRows.{PlanRows, groups_at, same_path}
use Rattle.plan_moves.specs.declared.moves.Step.{Step}
use Rattle.plan_moves.specs.declared.moves.Step.TheVariants.{Rebook}
use Rattle.desk_rules.specs.Numbers.{numbers}
use Rattle.desk_model.specs.Rebook.{count_on}
use Rattle.near_moves.specs.Units.{MoveUnit, rebooked}
use Rattle.near_moves.specs.Routes.{routes}

-- where passengers may go: to each route, and then off all paths
unfoldable pub aims : Situation → PlanRows → ℕ → List (List (Leg × Cabin))
aims I P r = routes I P r ++ [] ∷ []

-- how many of n may go: all, and then each power of two below n, the greatest first. A reservation has at most 1,000 passengers
abbrev pub portions : ℕ → List ℕ
portions n = n ∷ filter (λ k. nat_lt k n) (map (λ e. 2 ^ e) (reverse (numbers 10)))

abbrev pub rebooking : ℕ → List (Leg × Cabin) → List (Leg × Cabin) → ℕ → List Step
rebooking r path aim count = let res : Res = record { 0 = r } in Rebook res path aim count ∷ []

-- the moves that take passengers of reservation r off a path
unfoldable pub rebookings : Situation → PlanRows → ℕ → List (Leg × Cabin) → List (List Step)
rebookings I P r path =
    flat_map (λ aim. map (rebooking r path aim) (portions (count_on path (groups_at P r)))) (filter (λ aim. not (same_path path aim)) (aims I P r))

-- each reservation, with each path that has passengers, in path order
unfoldable pub rebooked_units : Situation → PlanRows → List MoveUnit
rebooked_units I P = flat_map (λ r. map (λ group. rebooked r group.path) (groups_at P r)) (numbers (reservations_of I))
