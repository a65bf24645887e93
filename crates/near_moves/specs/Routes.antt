-- Routes: the paths to which passengers of a reservation may be rebooked.
use Rattle.std.specs.Prelude.{ℕ, Bool, ◌&&◌, not, nat_le, ◌==◌, List, [], ◌∷◌, ◌++◌, length, map, filter, take}
use Rattle.std.specs.List.{flat_map}
use Rattle.desk_units.specs.declared.numbers.Leg.{Leg}
use Rattle.desk_units.specs.declared.numbers.Cabin.{Cabin}
use Rattle.desk_units.specs.declared.numbers.Cabin.TheVariants.{F, B, E}
use Rattle.desk_units.specs.Ranks.{cabin_rank}
use Rattle.desk_data.specs.Situation.{Situation, legs_of, begun, tally_at}
use Rattle.desk_data.specs.Booked.{booked_path}
use Rattle.desk_data.specs.PlanRows.{PlanRows, same_path}
use Rattle.desk_rules.specs.Numbers.{numbers}
use Rattle.desk_data.specs.Paths.{is_carried}
use Rattle.desk_model.specs.Tidy.{is_fit_path}
use Rattle.near_moves.specs.MoveParts.{leg}

-- each leg with each cabin, in the order of paths
unfoldable pub all_pairs : Situation → List (Leg × Cabin)
all_pairs I = flat_map (λ x. (leg x, F) ∷ (leg x, B) ∷ (leg x, E) ∷ []) (numbers (legs_of I))

-- two of them in one cabin
abbrev pub all_doubles : Situation → List (List (Leg × Cabin))
all_doubles I = flat_map (λ a. map (λ b. a ∷ b ∷ []) (filter (λ b. cabin_rank a.1 == cabin_rank b.1) (all_pairs I))) (all_pairs I)

-- what the passengers have begun: the legs of their scheduled path that are scheduled before the window
abbrev pub begun_path : Situation → ℕ → List (Leg × Cabin)
begun_path I r = take (begun I r) (booked_path I r)

-- whether some legs that passengers have flown are another stem: there is one at least, and they are not just what was begun
abbrev pub is_other_stem : List (Leg × Cabin) → List (Leg × Cabin) → Bool
is_other_stem first legs = is_carried legs && not (same_path first legs)

-- the stems of reservation r, with which its passengers are under way: what they have begun, and then each other list of legs that some of them have flown, in the order of paths
unfoldable pub stems : Situation → ℕ → List (List (Leg × Cabin))
stems I r = begun_path I r ∷ filter (is_other_stem (begun_path I r)) (map (λ entry. entry.0) (tally_at I r))

-- a stem alone; and after it one leg, or two legs in one cabin
abbrev pub tried_after : Situation → List (Leg × Cabin) → List (List (Leg × Cabin))
tried_after I stem =
    stem
    ∷ map (λ pair. stem ++ pair ∷ []) (all_pairs I)
    ++ map (λ double. stem ++ double) (all_doubles I)

-- the scheduled path; and then those after each stem in turn
unfoldable pub tried_paths : Situation → ℕ → List (List (Leg × Cabin))
tried_paths I r = booked_path I r ∷ flat_map (tried_after I) (stems I r)

-- whether a path is a route: it has 1 to 8 legs, and meets C13, C14 and C15. Seats play no part
unfoldable pub is_route : Situation → PlanRows → ℕ → List (Leg × Cabin) → Bool
is_route I P r path = is_carried path && (nat_le (length path) 8 && is_fit_path I P r path)

-- the paths without those that stood before
unfoldable pub without_repeats : List (List (Leg × Cabin)) → List (List (Leg × Cabin))
without_repeats [] = []
without_repeats (path ∷ paths) = path ∷ filter (λ other. not (same_path path other)) (without_repeats paths)

-- the routes of reservation r
unfoldable pub routes : Situation → PlanRows → ℕ → List (List (Leg × Cabin))
routes I P r = without_repeats (filter (is_route I P r) (tried_paths I r))
