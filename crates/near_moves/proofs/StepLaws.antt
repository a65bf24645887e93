-- Of what the moves that retime, exchange, restore, hand on and rebook are made.
use Rattle.std.proofs.Common.{◌≡◌, ℕ, ◌+◌, ◌<◌, ◌≤◌, inl, inr, Bool, true, ◌&&◌, not, cond, eqb, ltb, leb, List, [], ◌∷◌, ◌++◌, map, refl, sym, ap, subst, ◌∙◌, arith}
use Rattle.std.specs.Prelude.{filter, Some, None, All}
use Rattle.std.specs.List.{Contains, flat_map}
use Rattle.std.proofs.lemmas.Bool.{cases_Bool, and_parts, and_from, not-true, lt-ltb, ltb-true, le-leb, leb-true, eq-eqb, eqb-true}
use Rattle.std.proofs.lemmas.List.Elements.{All-head, All-tail, All-take, Contains-append_left, Contains-append_right, Contains-append_cases}
use Rattle.desk_units.specs.declared.numbers.Leg.{Leg}
use Rattle.desk_units.specs.declared.numbers.Cabin.{Cabin}
use Rattle.desk_data.specs.declared.row.Row.{Row}
use Rattle.desk_data.specs.Situation.{Situation, legs_of, leg_at, earliest, fixed, called_off}
use Rattle.desk_data.specs.PlanRows.{PlanRows, row_at, groups_at, same_path}
use Rattle.desk_data.specs.Valid.{IsPlanFor}
use Rattle.plan_moves.specs.declared.moves.Step.{Step}
use Rattle.plan_moves.specs.declared.moves.Step.TheVariants.{Set, Push, Tidy, Refill}
use Rattle.desk_rules.specs.Numbers.{numbers}
use Rattle.desk_rules.specs.Rotations.{dep}
use Rattle.desk_rules.specs.Words.{Flies}
use Rattle.desk_rules.specs.Passengers.{is_flown}
use Rattle.desk_rules.proofs.MaintenanceLaws.{dep-is}
use Rattle.desk_model.specs.Rebook.{count_on}
use Rattle.desk_model.proofs.RotationOrder.{flown_once}
use Rattle.near_moves.specs.MoveParts.{leg, plane, flier, flown_row, is_restorable, legs_from, run}
use Rattle.near_moves.specs.LegMoves.{other_departures, retiming, retimings, exchange_moments, exchange, exchanges, handing_step, handing, restoring_alone, restoring_both, brings_back, restorings}
use Rattle.near_moves.specs.PassengerMoves.{aims, portions, rebooking, rebookings}
use Rattle.near_moves.specs.Units.{handed}
use Rattle.near_moves.specs.Near.{unit_steps}
use Rattle.near_moves.specs.StepWords.{IsOtherDeparture, at_earliest, later_by_15, later_by_30, later_by_60, later_by_120, later_by_240, IsRetiming, IsExchange, IsHanding, IsRebooking, LeadsBack, IsRestoring, alone, with_back}
use Rattle.near_moves.proofs.ListLaws.{contains_cases, contains_head, contains_tail, contains_none, contains_filter, filter_contains, contains_map, map_contains, contains_flat_map, flat_map_contains, numbers_each, numbers_within, All_from_contains}
use Rattle.near_moves.proofs.FromLaws.{from-holds}
use Rattle.near_moves.proofs.MomentLaws.{moments-hold, moments-each}
use Rattle.near_moves.proofs.RepeatLaws.{other_path, not_other}
use Rattle.near_moves.proofs.FamilyLaws.{row_cancelled}
use Rattle.near_moves.proofs.AimLaws.{aims-hold, aims-each, portions-hold, portions-each}

-- ---- retimed

abbrev sooner : ℕ → ℕ → List ℕ
sooner e d = cond (ltb e d) (e ∷ []) []

abbrev later : ℕ → List ℕ
later d = (d + 15) ∷ (d + 30) ∷ (d + 60) ∷ (d + 120) ∷ (d + 240) ∷ []

departures-are : (I : Situation) (P : PlanRows) (x d : ℕ) → dep P x ≡ d → other_departures I P x ≡ sooner (earliest I x) d ++ later d
departures-are I P x d is = ap (λ (t : ℕ). sooner (earliest I x) t ++ later t) is

sooner-holds : (e d t : ℕ) → Contains (sooner e d) t → (e < d) × (t ≡ e)
sooner-holds e d t has =
    elim (cases_Bool (ltb e d)) [
      | inl less ↦ elim (contains_cases e t [] (rw less at has)) [
        | inl same ↦ (ltb-true e d less, sym same)
        | inr none ↦ absurd (contains_none t none)
      ]
      | inr fails ↦ absurd (contains_none t (rw fails at has))
    ]

later-holds : (I : Situation) (x d t : ℕ) → Contains (later d) t → IsOtherDeparture I x d t
later-holds I x d t has =
    elim (contains_cases (d + 15) t ((d + 30) ∷ (d + 60) ∷ (d + 120) ∷ (d + 240) ∷ []) has) [
      | inl same ↦ later_by_15 (sym same)
      | inr four ↦ elim (contains_cases (d + 30) t ((d + 60) ∷ (d + 120) ∷ (d + 240) ∷ []) four) [
        | inl same ↦ later_by_30 (sym same)
        | inr three ↦ elim (contains_cases (d + 60) t ((d + 120) ∷ (d + 240) ∷ []) three) [
          | inl same ↦ later_by_60 (sym same)
          | inr two ↦ elim (contains_cases (d + 120) t ((d + 240) ∷ []) two) [
            | inl same ↦ later_by_120 (sym same)
            | inr one ↦ elim (contains_cases (d + 240) t [] one) [
              | inl same ↦ later_by_240 (sym same)
              | inr none ↦ absurd (contains_none t none)
            ]
          ]
        ]
      ]
    ]

departures-hold : (I : Situation) (x d t : ℕ) → Contains (sooner (earliest I x) d ++ later d) t → IsOtherDeparture I x d t
departures-hold I x d t has =
    elim (Contains-append_cases (sooner (earliest I x) d) (later d) t has) [
      | inl first ↦ (let parts = sooner-holds (earliest I x) d t first in at_earliest parts.0 parts.1)
      | inr after ↦ later-holds I x d t after
    ]

later-there : (I : Situation) (x d t : ℕ) → Contains (later d) t → Contains (sooner (earliest I x) d ++ later d) t
later-there I x d t has = Contains-append_right (sooner (earliest I x) d) (later d) t has

departures-each : (I : Situation) (x d t : ℕ) → IsOtherDeparture I x d t → Contains (sooner (earliest I x) d ++ later d) t
departures-each I x d t (at_earliest less is) =
    Contains-append_left (sooner (earliest I x) d) (later d) t
    (subst (λ (front : Bool). Contains (cond front (earliest I x ∷ []) []) t) (sym (lt-ltb (earliest I x) d less))
    (subst (λ (s : ℕ). Contains (earliest I x ∷ []) s) (sym is) (contains_head (earliest I x) [])))
departures-each I x d t (later_by_15 is) = later-there I x d t (0, omega arith, sym is)
departures-each I x d t (later_by_30 is) = later-there I x d t (1, omega arith, sym is)
departures-each I x d t (later_by_60 is) = later-there I x d t (2, omega arith, sym is)
departures-each I x d t (later_by_120 is) = later-there I x d t (3, omega arith, sym is)
departures-each I x d t (later_by_240 is) = later-there I x d t (4, omega arith, sym is)

made : ℕ → ℕ → Row → List Step
made x t row = Set (leg x) row (flown_row (flier row) t) ∷ Push (plane (flier row)) (Some (leg x)) ∷ Tidy ∷ Refill (leg x) ∷ []

retiming-is : (P : PlanRows) (x p d t : ℕ) → Flies P x p d → retiming P x t ≡ Set (leg x) (flown_row p d) (flown_row p t) ∷ Push (plane p) (Some (leg x)) ∷ Tidy ∷ Refill (leg x) ∷ []
unfolding made
retiming-is P x p d t flown = ap (made x t) flown

pub retimings-hold : (I : Situation) (P : PlanRows) (x p d : ℕ) (steps : List Step) → Flies P x p d → Contains (retimings I P x) steps → IsRetiming I P x p d steps
unfolding retimings
retimings-hold I P x p d steps flown has =
    let of_moment = map_contains (retiming P x) (other_departures I P x) steps has in
    let t = of_moment.from in
    record {
      at = t;
      other = departures-hold I x d t (subst (λ (ts : List ℕ). Contains ts t) (departures-are I P x d (dep-is P p x d flown)) of_moment.there);
      all = sym {a = retiming P x t} of_moment.is ∙ retiming-is P x p d t flown;
    }

pub retimings-each : (I : Situation) (P : PlanRows) (x p d : ℕ) (steps : List Step) → Flies P x p d → IsRetiming I P x p d steps → Contains (retimings I P x) steps
unfolding retimings
retimings-each I P x p d steps flown is =
    subst (Contains (map (retiming P x) (other_departures I P x))) (retiming-is P x p d is.at flown ∙ sym is.all)
    (contains_map (retiming P x) (other_departures I P x) is.at
    (subst (λ (ts : List ℕ). Contains ts is.at) (sym (departures-are I P x d (dep-is P p x d flown))) (departures-each I x d is.at is.other)))

-- ---- exchanged

pub exchanges-hold : (I : Situation) (P : PlanRows) (p q : ℕ) (steps : List Step) → Contains (exchanges I P p q) steps → IsExchange I P p q steps
unfolding exchanges
exchanges-hold I P p q steps has =
    let of_moment = map_contains (exchange p q) (exchange_moments I P p q) steps has in
    record {
      at = of_moment.from;
      departs = moments-hold I P p q of_moment.from of_moment.there;
      all = sym {a = exchange p q of_moment.from} of_moment.is;
    }

pub exchanges-each : (I : Situation) (P : PlanRows) (p q : ℕ) (steps : List Step) → IsPlanFor I P → IsExchange I P p q steps → Contains (exchanges I P p q) steps
unfolding exchanges
exchanges-each I P p q steps plan is =
    subst (Contains (map (exchange p q) (exchange_moments I P p q))) (sym is.all)
    (contains_map (exchange p q) (exchange_moments I P p q) is.at (moments-each I P p q is.at plan is.departs))

-- ---- handed

-- one aircraft flies all legs from a leg on
row-from : (I : Situation) (P : PlanRows) (x p d y : ℕ) → Flies P x p d → Contains (legs_from I P x) y → row_at P y ≡ flown_row p (dep P y)
row-from I P x p d y flown has =
    let from = from-holds I P x y has in
    elim from.place [
      | inl same ↦
          let here : Flies P y p d = subst (λ (z : ℕ). Flies P z p d) (sym same) flown in
          here ∙ ap (flown_row p) (sym (dep-is P p y d here))
      | inr before ↦
          let own : before.plane ≡ p = flown_once P x before.plane p before.dep d before.first flown in
          let here : Flies P y p before.later = subst (λ (k : ℕ). Flies P y k before.later) own before.second in
          here ∙ ap (flown_row p) (sym (dep-is P p y before.later here))
    ]

handed_leg : PlanRows → ℕ → ℕ → ℕ → Row → Step
handed_leg P q y t row = Set (leg y) row (flown_row q t)

abbrev goes : PlanRows → ℕ → ℕ → ℕ → Step
goes P p q y = Set (leg y) (flown_row p (dep P y)) (flown_row q (dep P y))

goes-is : (P : PlanRows) (p q y : ℕ) → row_at P y ≡ flown_row p (dep P y) → handing_step P q y ≡ goes P p q y
unfolding handed_leg
goes-is P p q y is = ap (handed_leg P q y (dep P y)) is

all_go : (P : PlanRows) (p q : ℕ) (ys : List ℕ) → All (λ y. row_at P y ≡ flown_row p (dep P y)) ys → map (handing_step P q) ys ≡ map (goes P p q) ys
all_go P p q [] rows = refl
all_go P p q (y ∷ ys) rows =
    let row = All-head (λ z. row_at P z ≡ flown_row p (dep P z)) y ys rows in
    let rest = all_go P p q ys (All-tail (λ z. row_at P z ≡ flown_row p (dep P z)) y ys rows) in
    ap (λ (s : Step). s ∷ map (handing_step P q) ys) (goes-is P p q y row) ∙ ap (λ (steps : List Step). goes P p q y ∷ steps) rest

run_goes : (I : Situation) (P : PlanRows) (x k p q d : ℕ) → Flies P x p d → map (handing_step P q) (run I P x k) ≡ map (goes P p q) (run I P x k)
run_goes I P x k p q d flown =
    all_go P p q (run I P x k)
    (All-take (λ y. row_at P y ≡ flown_row p (dep P y)) k (legs_from I P x)
    (All_from_contains (λ y. row_at P y ≡ flown_row p (dep P y)) (legs_from I P x) (λ y has. row-from I P x p d y flown has)))

ending : ℕ → ℕ → List Step
ending q p = Push (plane q) None ∷ Push (plane p) None ∷ Tidy ∷ []

handing-is : (I : Situation) (P : PlanRows) (x k p q d : ℕ) → Flies P x p d → handing I P x k q ≡ map (goes P p q) (run I P x k) ++ Push (plane q) None ∷ Push (plane p) None ∷ Tidy ∷ []
unfolding ending
handing-is I P x k p q d flown =
    ap (λ (n : ℕ). map (handing_step P q) (run I P x k) ++ ending q n) (ap flier flown)
    ∙ ap (λ (steps : List Step). steps ++ ending q p) (run_goes I P x k p q d flown)

pub handing-holds : (I : Situation) (P : PlanRows) (x k p q d : ℕ) (steps : List Step) → Flies P x p d → Contains (unit_steps I P (handed x k q)) steps → IsHanding I P x k p q steps
unfolding unit_steps
handing-holds I P x k p q d steps flown has =
    elim (contains_cases (handing I P x k q) steps [] has) [
      | inl same ↦ record { all = sym {a = handing I P x k q} same ∙ handing-is I P x k p q d flown }
      | inr none ↦ absurd (contains_none steps none)
    ]

pub handing-each : (I : Situation) (P : PlanRows) (x k p q d : ℕ) (steps : List Step) → Flies P x p d → IsHanding I P x k p q steps → Contains (unit_steps I P (handed x k q)) steps
unfolding unit_steps
handing-each I P x k p q d steps flown is =
    subst (Contains (handing I P x k q ∷ [])) (handing-is I P x k p q d flown ∙ sym is.all) (contains_head (handing I P x k q) [])

-- ---- rebooked

pub rebookings-hold : (I : Situation) (P : PlanRows) (r : ℕ) (path : List (Leg × Cabin)) (steps : List Step) → Contains (rebookings I P r path) steps → IsRebooking I P r path steps
unfolding rebookings
rebookings-hold I P r path steps has =
    let n = count_on path (groups_at P r) in
    let of_aim = flat_map_contains (λ aim. map (rebooking r path aim) (portions n)) (filter (λ aim. not (same_path path aim)) (aims I P r)) steps has in
    let aim = of_aim.from in
    let own = filter_contains (λ other. not (same_path path other)) (aims I P r) aim of_aim.there in
    let of_count = map_contains (rebooking r path aim) (portions n) steps of_aim.is in
    record {
      aim = aim;
      count = of_count.from;
      goes = aims-hold I P r aim own.0;
      other = not_other path aim own.1;
      portion = portions-hold n of_count.from of_count.there;
      all = sym {a = rebooking r path aim of_count.from} of_count.is;
    }

pub rebookings-each : (I : Situation) (P : PlanRows) (r : ℕ) (path : List (Leg × Cabin)) (steps : List Step) → count_on path (groups_at P r) ≤ 1000 → IsRebooking I P r path steps → Contains (rebookings I P r path) steps
unfolding rebookings
rebookings-each I P r path steps most is =
    let n = count_on path (groups_at P r) in
    let others = filter (λ aim. not (same_path path aim)) (aims I P r) in
    subst (Contains (flat_map (λ aim. map (rebooking r path aim) (portions n)) others)) (sym is.all)
    (contains_flat_map (λ aim. map (rebooking r path aim) (portions n)) others is.aim (rebooking r path is.aim is.count)
    (contains_filter (λ aim. not (same_path path aim)) (aims I P r) is.aim (aims-each I P r is.aim is.goes) (other_path path is.aim is.other))
    (contains_map (rebooking r path is.aim) (portions n) is.count (portions-each n is.count most is.portion)))

-- ---- restored

abbrev FromTest : Situation → ℕ → ℕ → Bool
FromTest I x y = eqb (leg_at I y).origin.0 (leg_at I x).dest.0

abbrev ToTest : Situation → ℕ → ℕ → Bool
ToTest I x y = eqb (leg_at I y).dest.0 (leg_at I x).origin.0

abbrev SoonTest : Situation → ℕ → ℕ → Bool
SoonTest I x y = leb ((leg_at I x).sched.0 + (leg_at I x).block) (leg_at I y).sched.0

abbrev LateTest : Situation → ℕ → ℕ → Bool
LateTest I x y = leb (leg_at I y).sched.0 ((leg_at I x).sched.0 + (leg_at I x).block + 1440)

back-holds : (I : Situation) (P : PlanRows) (x y : ℕ) → y < legs_of I → brings_back I P x y ≡ true → LeadsBack I P x y
unfolding brings_back
back-holds I P x y within h =
    let whole = and_parts (is_restorable I P y) ((FromTest I x y && ToTest I x y) && (SoonTest I x y && LateTest I x y)) h in
    let outer = and_parts (not (fixed I y)) (not (is_flown (row_at P y)) && not (called_off I y)) whole.0 in
    let inner = and_parts (not (is_flown (row_at P y))) (not (called_off I y)) outer.1 in
    let tests = and_parts (FromTest I x y && ToTest I x y) (SoonTest I x y && LateTest I x y) whole.1 in
    let ends = and_parts (FromTest I x y) (ToTest I x y) tests.0 in
    let times = and_parts (SoonTest I x y) (LateTest I x y) tests.1 in
    record {
      within = within;
      movable = not-true (fixed I y) outer.0;
      cancelled = row_cancelled (row_at P y) (not-true (is_flown (row_at P y)) inner.0);
      kept = not-true (called_off I y) inner.1;
      from = eqb-true (leg_at I y).origin.0 (leg_at I x).dest.0 ends.0;
      to = eqb-true (leg_at I y).dest.0 (leg_at I x).origin.0 ends.1;
      soonest = leb-true ((leg_at I x).sched.0 + (leg_at I x).block) (leg_at I y).sched.0 times.0;
      latest = leb-true (leg_at I y).sched.0 ((leg_at I x).sched.0 + (leg_at I x).block + 1440) times.1;
    }

back-from : (I : Situation) (P : PlanRows) (x y : ℕ) → LeadsBack I P x y → brings_back I P x y ≡ true
unfolding brings_back
back-from I P x y is =
    and_from (is_restorable I P y) ((FromTest I x y && ToTest I x y) && (SoonTest I x y && LateTest I x y))
    (and_from (not (fixed I y)) (not (is_flown (row_at P y)) && not (called_off I y)) (ap not is.movable)
    (and_from (not (is_flown (row_at P y))) (not (called_off I y)) (ap (λ (row : Row). not (is_flown row)) is.cancelled) (ap not is.kept)))
    (and_from (FromTest I x y && ToTest I x y) (SoonTest I x y && LateTest I x y)
    (and_from (FromTest I x y) (ToTest I x y) (eq-eqb (leg_at I y).origin.0 (leg_at I x).dest.0 is.from) (eq-eqb (leg_at I y).dest.0 (leg_at I x).origin.0 is.to))
    (and_from (SoonTest I x y) (LateTest I x y) (le-leb ((leg_at I x).sched.0 + (leg_at I x).block) (leg_at I y).sched.0 is.soonest)
    (le-leb (leg_at I y).sched.0 ((leg_at I x).sched.0 + (leg_at I x).block + 1440) is.latest)))

pub restorings-hold : (I : Situation) (P : PlanRows) (x p : ℕ) (steps : List Step) → Contains (restorings I P x p) steps → IsRestoring I P x p steps
unfolding restorings
restorings-hold I P x p steps has =
    elim (contains_cases (restoring_alone I x p) steps (map (restoring_both I x p) (filter (brings_back I P x) (numbers (legs_of I)))) has) [
      | inl same ↦ alone (sym {a = restoring_alone I x p} same)
      | inr after ↦
          let of_leg = map_contains (restoring_both I x p) (filter (brings_back I P x) (numbers (legs_of I))) steps after in
          let y = of_leg.from in
          let own = filter_contains (brings_back I P x) (numbers (legs_of I)) y of_leg.there in
          with_back y (back-holds I P x y (numbers_within (legs_of I) y own.0) own.1) (sym {a = restoring_both I x p y} of_leg.is)
    ]

pub restorings-each : (I : Situation) (P : PlanRows) (x p : ℕ) (steps : List Step) → IsRestoring I P x p steps → Contains (restorings I P x p) steps
unfolding restorings
restorings-each I P x p steps (alone is) =
    let rest = map (restoring_both I x p) (filter (brings_back I P x) (numbers (legs_of I))) in
    subst (Contains (restoring_alone I x p ∷ rest)) (sym is) (contains_head (restoring_alone I x p) rest)
restorings-each I P x p steps (with_back y back is) =
    let rest = map (restoring_both I x p) (filter (brings_back I P x) (numbers (legs_of I))) in
    subst (Contains (restoring_alone I x p ∷ rest)) (sym is)
    (contains_tail (restoring_alone I x p) (restoring_both I x p y) rest
    (contains_map (restoring_both I x p) (filter (brings_back I P x) (numbers (legs_of I))) y
    (contains_filter (brings_back I P x) (numbers (legs_of I)) y (numbers_each (legs_of I) y back.within) (back-from I P x y back))))
