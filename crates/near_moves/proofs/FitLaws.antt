-- Moves of legs and aircraft can be asked about.
use Rattle.std.proofs.Common.{◌≡◌, ℕ, ◌+◌, ◌<◌, ◌≤◌, true, List, [], ◌∷◌, ◌++◌, length, map, ap, ◌∙◌, arith}
use Rattle.std.specs.Prelude.{filter, Some, None}
use Rattle.std.specs.List.{All, list_all}
use Rattle.std.proofs.lemmas.Bool.{and_parts, ltb-true}
use Rattle.std.proofs.lemmas.List.{length-take, length-map, length-append}
use Rattle.std.proofs.lemmas.List.Elements.{All-nil, All-cons, All-append, All-weaker, All-take, All-map, All-filter, All-from_recursion, filter_passes}
use Rattle.desk_data.specs.declared.row.Row.{Row}
use Rattle.desk_data.specs.declared.row.Row.TheVariants.{Flown, Cancelled}
use Rattle.desk_data.specs.Situation.{Situation, legs_of, planes_of}
use Rattle.desk_data.specs.PlanRows.{PlanRows, row_at}
use Rattle.desk_data.specs.Valid.{IsRowOf, IsPlanFor}
use Rattle.plan_moves.specs.declared.moves.Step.{Step}
use Rattle.plan_moves.specs.declared.moves.Step.TheVariants.{Set, Push, Swap, Rebook, Tidy, Refill}
use Rattle.plan_moves.specs.Fits.{Fits, StepFits}
use Rattle.desk_rules.specs.Numbers.{numbers}
use Rattle.desk_rules.specs.Rotations.{dep}
use Rattle.desk_rules.specs.Passengers.{is_flown}
use Rattle.near_moves.specs.MoveParts.{leg, plane, flier, legs_from, run}
use Rattle.near_moves.specs.Units.{MoveUnit, retimed, swapped, dropped, restored, handed}
use Rattle.near_moves.specs.LegMoves.{retiming, retimings, other_departures, exchange, exchanges, exchange_moments, cancelling, dropping, droppings, comes_round, run_lengths, restoring_alone, restoring_both, restorings, brings_back, handing_step, handing}
use Rattle.near_moves.specs.Near.{unit_steps, unit_moves, move_of, row_in_time, step_in_time}
use Rattle.std.proofs.lemmas.List.Sums.{AllPass-from_list_all}
use Rattle.near_moves.proofs.ListLaws.{All_from_contains, for_none, for_some, numbers_below}
use Rattle.near_moves.proofs.FromLaws.{from-holds}
use Rattle.desk_model.proofs.ValidLaws.{row_of_plan}

-- ---- what fits once its departures are in time

-- the aircraft of a row is in range
abbrev pub RowInRange : Situation → Row → Type 0
RowInRange I (Flown plane dep) = plane.0 < planes_of I
RowInRange I Cancelled = Unit {0}

-- the numbers of a step are in range; it is none of passengers
abbrev pub StepInRange : Situation → Step → Type 0
StepInRange I (Set leg was new) = (leg.0 < legs_of I) × RowInRange I was × RowInRange I new
StepInRange I (Push plane None) = plane.0 < planes_of I
StepInRange I (Push plane (Some leg)) = (plane.0 < planes_of I) × (leg.0 < legs_of I)
StepInRange I (Swap first second at) = (first.0 < planes_of I) × (second.0 < planes_of I)
StepInRange I (Rebook res path to count) = ⊥
StepInRange I Tidy = Unit {0}
StepInRange I (Refill leg) = leg.0 < legs_of I

row_fits : (I : Situation) (row : Row) → RowInRange I row → row_in_time row ≡ true → IsRowOf (planes_of I) row
row_fits I (Flown plane dep) range time = (range, ltb-true dep.0 52500000 time)
row_fits I Cancelled range time = tt

step_fits : (I : Situation) (step : Step) → StepInRange I step → step_in_time step ≡ true → StepFits I step
step_fits I (Set l was new) range time =
    let parts = and_parts (row_in_time was) (row_in_time new) time in
    (range.0, row_fits I was range.1 parts.0, row_fits I new range.2 parts.1)
step_fits I (Push p None) range time = (range, for_none (λ l. l.0 < legs_of I))
step_fits I (Push p (Some l)) range time = (range.0, for_some (λ l. l.0 < legs_of I) l range.1)
step_fits I (Swap first second at) range time = (range.0, range.1, ltb-true at.0 52500000 time)
step_fits I (Rebook res path to count) range time = absurd range
step_fits I Tidy range time = tt
step_fits I (Refill l) range time = range

-- few steps, with numbers in range
pub record AreInRange (I : Situation) (steps : List Step) : Type 0 where
  pub some : 1 ≤ length steps
  pub most : length steps ≤ 16
  pub each : All (StepInRange I) steps

move_fits : (I : Situation) (steps : List Step) → AreInRange I steps → list_all step_in_time steps ≡ true → Fits I (move_of steps)
move_fits I steps range time = record {
  some = range.some;
  most = range.most;
  each = λ k d lt. step_fits I _ (range.each k d lt) (AllPass-from_list_all step_in_time steps time k d lt);
}

pub unit-fits : (I : Situation) (P : PlanRows) (u : MoveUnit) → All (AreInRange I) (unit_steps I P u) → All (Fits I) (unit_moves I P u)
unfolding unit_moves
unit-fits I P u range =
    All-map (Fits I) move_of (filter (list_all step_in_time) (unit_steps I P u))
    (λ k d lt. move_fits I _ (All-filter (list_all step_in_time) (AreInRange I) (unit_steps I P u) range k d lt) (filter_passes (list_all step_in_time) (unit_steps I P u) k d lt))

-- ---- the rows of a plan

row_in_range : (I : Situation) (row : Row) → IsRowOf (planes_of I) row → RowInRange I row
row_in_range I (Flown plane dep) is = is.0
row_in_range I Cancelled is = tt

plan_row : (I : Situation) (P : PlanRows) (x : ℕ) → x < legs_of I → IsPlanFor I P → RowInRange I (row_at P x)
plan_row I P x within plan = row_in_range I (row_at P x) (row_of_plan I P x within plan)

flier_row : (I : Situation) (row : Row) → RowInRange I row → is_flown row ≡ true → flier row < planes_of I
flier_row I (Flown plane dep) range flown = range
flier_row I Cancelled range flown = absurd cc

pub plan_flier : (I : Situation) (P : PlanRows) (x : ℕ) → x < legs_of I → IsPlanFor I P → is_flown (row_at P x) ≡ true → flier (row_at P x) < planes_of I
plan_flier I P x within plan flown = flier_row I (row_at P x) (plan_row I P x within plan) flown

-- the legs of a run are legs of the day
pub run-within : (I : Situation) (P : PlanRows) (x k : ℕ) → All (λ y. y < legs_of I) (run I P x k)
run-within I P x k = All-take (λ y. y < legs_of I) k (legs_from I P x) (All_from_contains (λ y. y < legs_of I) (legs_from I P x) (λ y has. (from-holds I P x y has).within))

run-short : (I : Situation) (P : PlanRows) (x k : ℕ) → length (run I P x k) ≤ k
run-short I P x k = omega (arith, length-take k (legs_from I P x))

-- ---- neighbourhood by neighbourhood

retiming-range : (I : Situation) (P : PlanRows) (x t : ℕ) → x < legs_of I → IsPlanFor I P → is_flown (row_at P x) ≡ true → AreInRange I (retiming P x t)
retiming-range I P x t within plan flown =
    let p = plan_flier I P x within plan flown in
    record {
      some = omega arith;
      most = omega arith;
      each = All-from_recursion (StepInRange I) (retiming P x t) ((within, plan_row I P x within plan, p), ((p, within), (tt, (within, tt))));
    }

pub retimed-range : (I : Situation) (P : PlanRows) (x : ℕ) → x < legs_of I → IsPlanFor I P → is_flown (row_at P x) ≡ true → All (AreInRange I) (unit_steps I P (retimed x))
unfolding unit_steps retimings
retimed-range I P x within plan flown =
    All-map (AreInRange I) (retiming P x) (other_departures I P x) (λ k d lt. retiming-range I P x _ within plan flown)

exchange-range : (I : Situation) (p q at : ℕ) → p < planes_of I → q < planes_of I → AreInRange I (exchange p q at)
exchange-range I p q at first second = record {
  some = omega arith;
  most = omega arith;
  each = All-from_recursion (StepInRange I) (exchange p q at) ((first, second), (first, (second, (tt, tt))));
}

pub swapped-range : (I : Situation) (P : PlanRows) (p q : ℕ) → p < planes_of I → q < planes_of I → All (AreInRange I) (unit_steps I P (swapped p q))
unfolding unit_steps exchanges
swapped-range I P p q first second = All-map (AreInRange I) (exchange p q) (exchange_moments I P p q) (λ k d lt. exchange-range I p q _ first second)

-- the steps of a run, and some after them
run-range : (I : Situation) (P : PlanRows) (x k : ℕ) (f : ℕ → Step) (more : List Step) → k ≤ 4 → 1 ≤ length more → length more ≤ 3 → ((y : ℕ) → y < legs_of I → StepInRange I (f y)) → All (StepInRange I) more → AreInRange I (map f (run I P x k) ++ more)
run-range I P x k f more few some most each later =
    let long : length (map f (run I P x k) ++ more) ≡ length (run I P x k) + length more = length-append (map f (run I P x k)) more ∙ ap (λ (n : ℕ). n + length more) (length-map (run I P x k) f) in
    record {
      some = omega (arith, long, some);
      most = omega (arith, long, most, few, run-short I P x k);
      each = All-append (StepInRange I) (map f (run I P x k)) more
          (All-map (StepInRange I) f (run I P x k) (All-weaker (λ y. y < legs_of I) (λ y. StepInRange I (f y)) each (run I P x k) (run-within I P x k)))
          later;
    }

dropping-range : (I : Situation) (P : PlanRows) (x k : ℕ) → k ≤ 4 → x < legs_of I → IsPlanFor I P → is_flown (row_at P x) ≡ true → AreInRange I (dropping I P x k)
dropping-range I P x k few within plan flown =
    let p = plan_flier I P x within plan flown in
    let more : List Step = Push (plane (flier (row_at P x))) None ∷ Tidy ∷ [] in
    run-range I P x k (cancelling P) more few (omega arith) (omega arith)
    (λ y lt. (lt, plan_row I P y lt plan, tt)) (All-from_recursion (StepInRange I) more (p, (tt, tt)))

lengths_few : All (λ k. k ≤ 4) run_lengths
lengths_few = All-from_recursion (λ (k : ℕ). k ≤ 4) run_lengths (omega arith, (omega arith, (omega arith, (omega arith, tt))))

pub dropped-range : (I : Situation) (P : PlanRows) (x : ℕ) → x < legs_of I → IsPlanFor I P → is_flown (row_at P x) ≡ true → All (AreInRange I) (unit_steps I P (dropped x))
unfolding unit_steps droppings
dropped-range I P x within plan flown =
    All-map (AreInRange I) (dropping I P x) (filter (comes_round I P x) run_lengths)
    (λ k d lt. dropping-range I P x _ (All-filter (comes_round I P x) (λ n. n ≤ 4) run_lengths lengths_few k d lt) within plan flown)

alone-range : (I : Situation) (x p : ℕ) → x < legs_of I → p < planes_of I → AreInRange I (restoring_alone I x p)
alone-range I x p within plane = record {
  some = omega arith;
  most = omega arith;
  each = All-from_recursion (StepInRange I) (restoring_alone I x p) ((within, tt, plane), ((plane, within), (tt, (within, tt))));
}

both-range : (I : Situation) (x p y : ℕ) → x < legs_of I → p < planes_of I → y < legs_of I → AreInRange I (restoring_both I x p y)
both-range I x p y within plane back = record {
  some = omega arith;
  most = omega arith;
  each = All-from_recursion (StepInRange I) (restoring_both I x p y) ((within, tt, plane), ((back, tt, plane), (plane, (tt, (within, (back, tt))))));
}

pub restored-range : (I : Situation) (P : PlanRows) (x p : ℕ) → x < legs_of I → p < planes_of I → All (AreInRange I) (unit_steps I P (restored x p))
unfolding unit_steps restorings
restored-range I P x p within plane =
    All-cons (AreInRange I) (restoring_alone I x p) (map (restoring_both I x p) (filter (brings_back I P x) (numbers (legs_of I)))) (alone-range I x p within plane)
    (All-map (AreInRange I) (restoring_both I x p) (filter (brings_back I P x) (numbers (legs_of I)))
    (λ k d lt. both-range I x p _ within plane (All-filter (brings_back I P x) (λ y. y < legs_of I) (numbers (legs_of I)) (numbers_below (legs_of I)) k d lt)))

pub handed-range : (I : Situation) (P : PlanRows) (x k q : ℕ) → k ≤ 4 → x < legs_of I → q < planes_of I → IsPlanFor I P → is_flown (row_at P x) ≡ true → All (AreInRange I) (unit_steps I P (handed x k q))
unfolding unit_steps
handed-range I P x k q few within to plan flown =
    let p = plan_flier I P x within plan flown in
    let more : List Step = Push (plane q) None ∷ Push (plane (flier (row_at P x))) None ∷ Tidy ∷ [] in
    All-cons (AreInRange I) (handing I P x k q) []
    (run-range I P x k (handing_step P q) more few (omega arith) (omega arith)
    (λ y lt. (lt, plan_row I P y lt plan, to)) (All-from_recursion (StepInRange I) more (to, (p, (tt, tt)))))
    (All-nil (AreInRange I))
