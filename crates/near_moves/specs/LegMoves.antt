-- Moves of legs and aircraft, in five neighbourhoods: legs are retimed (N1), exchanged (N2), dropped (N3), restored (N4) and handed on (N5). A move's steps are listed as they are taken.
use Rattle.std.specs.Prelude.{ℕ, ◌+◌, ◌-◌, max, Bool, ◌&&◌, ◌||◌, not, nat_lt, nat_le, ◌==◌, if◌then◌else◌, Some, None, List, [], ◌∷◌, ◌++◌, length, map, filter, slice_index_or}
use Rattle.std.specs.List.{flat_map, list_any}
use Rattle.desk_data.specs.declared.row.Row.TheVariants.{Cancelled}
use Rattle.desk_data.specs.Situation.{Situation, legs_of, planes_of, leg_at, plane_at, fixed, earliest}
use Rattle.desk_data.specs.PlanRows.{PlanRows, row_at}
use Rattle.plan_moves.specs.declared.moves.Step.{Step}
use Rattle.plan_moves.specs.declared.moves.Step.TheVariants.{Set, Push, Swap, Tidy, Refill}
use Rattle.desk_rules.specs.Numbers.{numbers}
use Rattle.desk_rules.specs.Rotations.{dep}
use Rattle.desk_rules.specs.Maintenance.{flies}
use Rattle.near_moves.specs.MoveParts.{leg, plane, minute, flier, flown_row, is_movable_flown, is_restorable, family_of, legs_from, run, is_run}
use Rattle.near_moves.specs.Units.{MoveUnit, retimed, swapped, dropped, restored, handed}

-- ---- N1, retimed: a leg departs at another time

-- by how many minutes a leg may depart later
abbrev pub retiming_delays : List ℕ
retiming_delays = 15 ∷ 30 ∷ 60 ∷ 120 ∷ 240 ∷ []

-- when leg x may go: at its earliest departure where it departs later than that; then so many minutes later than it departs
abbrev pub other_departures : Situation → PlanRows → ℕ → List ℕ
other_departures I P x =
    (if nat_lt (earliest I x) (dep P x) then earliest I x ∷ [] else [])
    ++ map (λ later. dep P x + later) retiming_delays

-- its row is set, its aircraft's legs after it are pushed, and then a Tidy and a Refill of it
abbrev pub retiming : PlanRows → ℕ → ℕ → List Step
retiming P x t =
    let p = flier (row_at P x) in
    Set (leg x) (row_at P x) (flown_row p t) ∷ Push (plane p) (Some (leg x)) ∷ Tidy ∷ Refill (leg x) ∷ []

unfoldable pub retimings : Situation → PlanRows → ℕ → List (List Step)
retimings I P x = map (retiming P x) (other_departures I P x)

-- each movable leg that is flown
unfoldable pub retimed_units : Situation → PlanRows → List MoveUnit
retimed_units I P = map retimed (filter (is_movable_flown I P) (numbers (legs_of I)))

-- ---- N2, swapped: two aircraft exchange their legs from a moment on

-- whether a movable leg of one of the two aircraft departs at moment t
abbrev pub departs_at : Situation → PlanRows → ℕ → ℕ → ℕ → Bool
departs_at I P p q t = list_any (λ x. not (fixed I x) && ((flies P p x || flies P q x) && (dep P x == t))) (numbers (legs_of I))

-- all departures of a plan are below this minute
unfoldable pub departures_end : ℕ
departures_end = 52500000

-- the moments at which one does, in ascending order, each once
unfoldable pub exchange_moments : Situation → PlanRows → ℕ → ℕ → List ℕ
exchange_moments I P p q = filter (departs_at I P p q) (numbers departures_end)

-- the legs are exchanged, all movable legs of both are pushed, the lower aircraft's first, and then a Tidy
abbrev pub exchange : ℕ → ℕ → ℕ → List Step
exchange p q at = Swap (plane p) (plane q) (minute at) ∷ Push (plane p) None ∷ Push (plane q) None ∷ Tidy ∷ []

unfoldable pub exchanges : Situation → PlanRows → ℕ → ℕ → List (List Step)
exchanges I P p q = map (exchange p q) (exchange_moments I P p q)

-- each aircraft that isn't surface transport, with each later one of its family
abbrev pub later_of_family : Situation → ℕ → List ℕ
later_of_family I p = filter (λ q. nat_lt p q) (family_of I p)

unfoldable pub swapped_units : Situation → List MoveUnit
swapped_units I = flat_map (λ p. map (swapped p) (later_of_family I p)) (filter (λ p. not (plane_at I p).surface) (numbers (planes_of I)))

-- ---- N3, dropped: legs are cancelled, so that the aircraft is again where it was

-- the last of the k legs from leg x on
abbrev pub run_end : Situation → PlanRows → ℕ → ℕ → ℕ
run_end I P x k = slice_index_or (run I P x k) (k - 1) x

-- whether the k legs from leg x on are a run whose last leg arrives where leg x leaves, or is the last of its aircraft
unfoldable pub comes_round : Situation → PlanRows → ℕ → ℕ → Bool
comes_round I P x k =
    is_run I P x k
    && (((leg_at I (run_end I P x k)).dest.0 == (leg_at I x).origin.0) || (length (legs_from I P x) == k))

-- how long a run may be
abbrev pub run_lengths : List ℕ
run_lengths = 1 ∷ 2 ∷ 3 ∷ 4 ∷ []

-- the legs of the run are cancelled, in their order, the aircraft's other movable legs are pushed, and then a Tidy
abbrev pub cancelling : PlanRows → ℕ → Step
cancelling P y = Set (leg y) (row_at P y) Cancelled

abbrev pub dropping : Situation → PlanRows → ℕ → ℕ → List Step
dropping I P x k = map (cancelling P) (run I P x k) ++ Push (plane (flier (row_at P x))) None ∷ Tidy ∷ []

unfoldable pub droppings : Situation → PlanRows → ℕ → List (List Step)
droppings I P x = map (dropping I P x) (filter (comes_round I P x) run_lengths)

unfoldable pub dropped_units : Situation → PlanRows → List MoveUnit
dropped_units I P = map dropped (filter (is_movable_flown I P) (numbers (legs_of I)))

-- ---- N4, restored: a cancelled leg is flown again, alone or with one that brings its aircraft back

-- leg x is flown by aircraft p from its earliest departure on
abbrev pub restoring_step : Situation → ℕ → ℕ → Step
restoring_step I x p = Set (leg x) Cancelled (flown_row p (earliest I x))

abbrev pub restoring_alone : Situation → ℕ → ℕ → List Step
restoring_alone I x p = restoring_step I x p ∷ Push (plane p) (Some (leg x)) ∷ Tidy ∷ Refill (leg x) ∷ []

-- a leg that brings the aircraft back is scheduled to depart at most so many minutes after the arrival: a day
abbrev pub back_within : ℕ
back_within = 1440

-- whether leg y may be flown again too: it leads back, and is scheduled to depart from the scheduled arrival of leg x on, at most a day later
unfoldable pub brings_back : Situation → PlanRows → ℕ → ℕ → Bool
brings_back I P x y =
    let there = leg_at I x in
    let back = leg_at I y in
    is_restorable I P y
    && ((back.origin.0 == there.dest.0) && (back.dest.0 == there.origin.0)
    && (nat_le (there.sched.0 + there.block) back.sched.0 && nat_le back.sched.0 (there.sched.0 + there.block + back_within)))

-- leg y departs at its earliest departure, or once aircraft p has turned round after leg x, whichever is later
abbrev pub back_departure : Situation → ℕ → ℕ → ℕ → ℕ
back_departure I x p y = max (earliest I y) (earliest I x + (leg_at I x).block + (plane_at I p).turnaround)

abbrev pub restoring_both : Situation → ℕ → ℕ → ℕ → List Step
restoring_both I x p y =
    restoring_step I x p ∷ Set (leg y) Cancelled (flown_row p (back_departure I x p y)) ∷ Push (plane p) None ∷ Tidy ∷ Refill (leg x) ∷ Refill (leg y) ∷ []

unfoldable pub restorings : Situation → PlanRows → ℕ → ℕ → List (List Step)
restorings I P x p = restoring_alone I x p ∷ map (restoring_both I x p) (filter (brings_back I P x) (numbers (legs_of I)))

-- each movable leg that is cancelled though not called off, with each aircraft of its scheduled aircraft's family
unfoldable pub restored_units : Situation → PlanRows → List MoveUnit
restored_units I P = flat_map (λ x. map (restored x) (family_of I (leg_at I x).plane.0)) (filter (is_restorable I P) (numbers (legs_of I)))

-- ---- N5, handed: a run goes to another aircraft of the family

-- leg y goes to aircraft q at its time
abbrev pub handing_step : PlanRows → ℕ → ℕ → Step
handing_step P q y = Set (leg y) (row_at P y) (flown_row q (dep P y))

-- the legs of the run go, in their order; the movable legs of the other aircraft are pushed, then those of its own, and then a Tidy
abbrev pub handing : Situation → PlanRows → ℕ → ℕ → ℕ → List Step
handing I P x k q = map (handing_step P q) (run I P x k) ++ Push (plane q) None ∷ Push (plane (flier (row_at P x))) None ∷ Tidy ∷ []

-- the other aircraft of the family of the one that flies leg x
abbrev pub others_of_family : Situation → PlanRows → ℕ → List ℕ
others_of_family I P x = filter (λ q. not (q == flier (row_at P x))) (family_of I (flier (row_at P x)))

-- each run that begins with a movable leg that is flown, with each of these; the shorter runs first
unfoldable pub handed_units : Situation → PlanRows → List MoveUnit
handed_units I P = flat_map (λ x. flat_map (λ k. map (handed x k) (others_of_family I P x)) (filter (is_run I P x) run_lengths)) (filter (is_movable_flown I P) (numbers (legs_of I)))
