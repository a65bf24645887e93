-- Reservations that a move leaves alone keep their groups, and cost what they did.
use Rattle.std.proofs.Common.{◌≡◌, ℕ, ◌+◌, ◌<◌, ◌≤◌, ◌⊎◌, inl, inr, Bool, true, false, cond, eqb, List, [], ◌∷◌, ◌++◌, length, get_or, refl, sym, ap, subst, ◌∙◌, arith}
use Rattle.std.specs.Prelude.{None, not, ◌&&◌, sum_by}
use Rattle.std.specs.List.{All, list_all}
use Rattle.std.proofs.lemmas.Bool.{cases_Bool, true≢false, and_parts, and_from, and_right, le-ltb, cases_eq, eq-eqb, ne_eqb}
use Rattle.std.proofs.lemmas.List.Elements.{All-head, All-tail}
use Rattle.std.proofs.lemmas.List.Sums.{sum_by-le-sum_by}
use Rattle.desk_units.specs.declared.numbers.Leg.{Leg}
use Rattle.desk_units.specs.declared.numbers.Cabin.{Cabin}
use Rattle.desk_data.specs.declared.row.Group.{Group}
use Rattle.desk_data.specs.declared.row.Row.{Row}
use Rattle.desk_data.specs.Booked.{booked_path}
use Rattle.desk_data.specs.Paths.{is_carried}
use Rattle.desk_data.specs.Situation.{Situation, reservations_of, bound}
use Rattle.desk_data.specs.PlanRows.{PlanRows, row_at, groups_at}
use Rattle.desk_data.specs.Valid.{IsPlanFor, IsValid}
use Rattle.desk_data.proofs.BoundLaws.{bound-from}
use Rattle.plan_moves.specs.declared.moves.Move.{Move}
use Rattle.plan_moves.specs.declared.moves.Step.{Step}
use Rattle.plan_moves.specs.declared.moves.Step.TheVariants.{Set, Push, Swap, Rebook, Tidy, Refill}
use Rattle.desk_rules.specs.Numbers.{numbers, implies}
use Rattle.desk_rules.specs.Least.{least}
use Rattle.desk_rules.specs.Cost.{cost, operating_cost, position_cost, missing_aircraft}
use Rattle.desk_rules.specs.Words.{TakesThere, IsFeasible}
use Rattle.desk_rules.specs.Carriage.{each_carried, is_good_path, is_in_time_path}
use Rattle.desk_rules.proofs.CarriageLaws.{is_good_path-from, is_in_time-from}
use Rattle.desk_rules.proofs.LeastLaws.{feasible-holds}
use Rattle.desk_model.specs.Refill.{has_leg, is_refilled}
use Rattle.desk_model.specs.Tidy.{is_fit_path, after_tidy}
use Rattle.desk_model.specs.Refill.{after_refill}
use Rattle.desk_model.specs.Steps.{after_step, after_steps, after_move}
use Rattle.desk_model.proofs.TidyLaws.{after_tidy-at, after_tidy-valid, after_tidy-rows}
use Rattle.desk_model.proofs.RefillLaws.{after_refill-valid, after_refill-rows, after_refill-refills}
use Rattle.plan_reads.proofs.TidyCalls.{tidy-keeps}
use Rattle.plan_checks.specs.Amounts.{group_cost, reservation_cost}
use Rattle.plan_checks.proofs.BalanceLaws.{cost_is}
use Rattle.step_laws.proofs.SumLaws.{sum_same}
use Rattle.near_moves.specs.Descent.{is_better}
use Rattle.near_moves.proofs.KeptLaws.{steps-append}
use Rattle.near_memory.proofs.SameRows.{all_flown-to, there-same, late-same, groups-same}
use Rattle.near_moves.specs.RowRules.{keeps_rows}
use Rattle.near_moves.proofs.RowLaws.{steps-rows}
use Rattle.near_untouched.specs.Alone.{IsLeftAlone, KeepsRows, leaves_alone, cost_of_some}

-- ---- paths that meet the rules of paths in a feasible plan meet them where their legs have the same rows

pub some-of : (path : List (Leg × Cabin)) → is_carried path ≡ true → 1 ≤ length path
some-of [] carried = absurd cc
some-of (pair ∷ path) carried = omega arith

not-empty : (path : List (Leg × Cabin)) → is_carried path ≡ true → path ≡ [] → ⊥
not-empty path carried none = true≢false (sym carried ∙ ap is_carried none)

implies-by : (a b : Bool) → (a ≡ true → b ≡ true) → implies a b ≡ true
implies-by true b holds = holds refl
implies-by false b holds = refl

all-list : (test : Group → Bool) (groups : List Group) → All (λ group. test group ≡ true) groups → list_all test groups ≡ true
all-list test [] all = refl
all-list test (group ∷ groups) all =
    and_from (test group) (list_all test groups)
    (All-head (λ (g : Group). test g ≡ true) group groups all)
    (all-list test groups (All-tail (λ (g : Group). test g ≡ true) group groups all))

module _ (I : Situation) (P T : PlanRows) (r : ℕ) (lt : r < reservations_of I) (feasible : IsFeasible I P) (same : groups_at T r ≡ groups_at P r) (paths : All (λ group. KeepsRows P T group.path) (groups_at P r)) where
  path-fit : (k : ℕ) (d : Group) → k < length (groups_at P r) → is_carried (get_or (groups_at P r) k d).path ≡ true → is_fit_path I T r (get_or (groups_at P r) k d).path ≡ true
  unfolding is_fit_path
  path-fit k d within carried =
      let path = (get_or (groups_at P r) k d).path in
      let some = some-of path carried in
      let full = not-empty path carried in
      let rows : KeepsRows P T path = paths k d within in
      let back : KeepsRows T P path = λ i e lt_i. sym (rows i e lt_i) in
      let there : TakesThere I P r path = feasible.c13 r lt k d within full in
      let goes : is_good_path I T r path ≡ true = is_good_path-from I T r path (there-same I P T r path some rows there) in
      let in_time : is_in_time_path I T r path ≡ true = is_in_time-from I T r path (λ flown. late-same I P T r path some rows (feasible.c14 r lt k d within full (all_flown-to T P path back flown))) in
      let begun : bound I r (groups_at T r) path ≡ true = subst (λ (groups : List Group). bound I r groups path ≡ true) (sym same) (bound-from I r (groups_at P r) path (feasible.c15 r lt k d within full)) in
      and_from (is_good_path I T r path && is_in_time_path I T r path) (bound I r (groups_at T r) path) (and_from (is_good_path I T r path) (is_in_time_path I T r path) goes in_time) begun

  all-fit : each_carried T r (is_fit_path I T r) ≡ true
  all-fit =
      let test : Group → Bool = λ group. implies (is_carried group.path) (is_fit_path I T r group.path) in
      let each : All (λ group. test group ≡ true) (groups_at P r) = λ k d within. implies-by (is_carried (get_or (groups_at P r) k d).path) (is_fit_path I T r (get_or (groups_at P r) k d).path) (path-fit k d within) in
      ap (list_all test) same ∙ all-list test (groups_at P r) each

  -- so a Tidy leaves the groups
  pub tidy-same : IsPlanFor I T → groups_at (after_tidy I T) r ≡ groups_at P r
  tidy-same plan = after_tidy-at I T r lt ∙ sym (tidy-keeps I T r plan all-fit) ∙ same

-- and a Refill of a leg on which the reservation is not booked
not-booked : (b : Bool) → not b ≡ true → b ≡ false
not-booked true h = absurd cc
not-booked false h = refl

refill-same : (I : Situation) (T : PlanRows) (x r : ℕ) → IsValid I → IsPlanFor I T → r < reservations_of I → not (has_leg x (booked_path I r)) ≡ true → groups_at (after_refill I T x) r ≡ groups_at T r
refill-same I T x r valid plan lt off =
    let off_path : has_leg x (booked_path I r) ≡ false = not-booked (has_leg x (booked_path I r)) off in
    let refilled : is_refilled I T x r ≡ false = ap (λ (b : Bool). b && is_fit_path I T r (booked_path I r)) off_path in
    (after_refill-refills I T x valid plan r lt).other refilled

-- ---- one step after another

-- plan T is one for the day, the legs of the paths of reservation r have the rows that they had, and it has the groups that it had
record Stays (I : Situation) (P T : PlanRows) (r : ℕ) : Type 0 where
  plan : IsPlanFor I T
  paths : All (λ group. KeepsRows P T group.path) (groups_at P r)
  same : groups_at T r ≡ groups_at P r

rows-paths : (P T U : PlanRows) (r : ℕ) → U.rows ≡ T.rows → All (λ group. KeepsRows P T group.path) (groups_at P r) → All (λ group. KeepsRows P U group.path) (groups_at P r)
rows-paths P T U r same paths = λ k d within i e lt. paths k d within i e lt ∙ ap (λ (rows : List Row). row_at (record T { rows = rows }) (get_or (get_or (groups_at P r) k d).path i e).0.0) (sym same)

step-stays : (I : Situation) (P T : PlanRows) (r : ℕ) (step : Step) → IsValid I → IsFeasible I P → r < reservations_of I → leaves_alone I r step ≡ true → Stays I P T r → Stays I P (after_step I T step) r
unfolding after_step
step-stays I P T r (Set leg was new) valid feasible lt alone is = absurd cc
step-stays I P T r (Push plane after) valid feasible lt alone is = absurd cc
step-stays I P T r (Swap first second at) valid feasible lt alone is = absurd cc
step-stays I P T r (Rebook res path to count) valid feasible lt alone is = absurd cc
step-stays I P T r Tidy valid feasible lt alone is = record {
  plan = after_tidy-valid I T is.plan;
  paths = rows-paths P T (after_tidy I T) r (after_tidy-rows I T) is.paths;
  same = tidy-same I P T r lt feasible is.same is.paths is.plan;
}
step-stays I P T r (Refill leg) valid feasible lt alone is = record {
  plan = after_refill-valid I T leg.0 valid is.plan;
  paths = rows-paths P T (after_refill I T leg.0) r (after_refill-rows I T leg.0 valid is.plan) is.paths;
  same = refill-same I T leg.0 r valid is.plan lt alone ∙ is.same;
}

steps-stay : (I : Situation) (P T : PlanRows) (r : ℕ) (steps : List Step) → IsValid I → IsFeasible I P → r < reservations_of I → list_all (leaves_alone I r) steps ≡ true → Stays I P T r → Stays I P (after_steps I T steps) r
steps-stay I P T r [] valid feasible lt alone is = is
steps-stay I P T r (step ∷ steps) valid feasible lt alone is =
    let parts = and_parts (leaves_alone I r step) (list_all (leaves_alone I r) steps) alone in
    steps-stay I P (after_step I T step) r steps valid feasible lt parts.1 (step-stays I P T r step valid feasible lt parts.0 is)

pub left-alone : (I : Situation) (P Q : PlanRows) (others : List Step) (r : ℕ) → IsValid I → IsPlanFor I Q → least I P ≡ None → Q.groups ≡ P.groups → r < reservations_of I → IsLeftAlone I P Q others r → reservation_cost I (after_steps I Q others) r ≡ reservation_cost I P r
unfolding reservation_cost
left-alone I P Q others r valid plan feasible same lt alone =
    let F = after_steps I Q others in
    let own : groups_at Q r ≡ groups_at P r = ap (λ (groups : List (List Group)). get_or groups r []) same in
    let stays = steps-stay I P Q r others valid (feasible-holds I P feasible) lt alone.steps (record { plan = plan; paths = alone.paths; same = own }) in
    ap (sum_by (group_cost I F r)) stays.same ∙ sym (groups-same I P F r (groups_at P r) stays.paths)

-- ---- a whole move

bare : List Row → PlanRows
bare rows = record { rows = rows; groups = [] }

pub flying-same : (I : Situation) (P Q : PlanRows) → Q.rows ≡ P.rows → operating_cost I Q ≡ operating_cost I P
unfolding operating_cost bare
flying-same I P Q same = ap (λ (rows : List Row). operating_cost I (bare rows)) same

pub positions-same : (I : Situation) (P Q : PlanRows) → Q.rows ≡ P.rows → position_cost I Q ≡ position_cost I P
unfolding position_cost missing_aircraft bare
positions-same I P Q same = ap (λ (rows : List Row). position_cost I (bare rows)) same

part-le : (b : Bool) (n : ℕ) → cond b n 0 ≤ n
part-le true n = omega arith
part-le false n = omega arith

some-cost : (I : Situation) (P F : PlanRows) (some : ℕ → Bool) → ((r : ℕ) → r < reservations_of I → some r ≡ true → reservation_cost I F r ≡ reservation_cost I P r) → cost_of_some I P some ≤ sum_by (reservation_cost I F) (numbers (reservations_of I))
some-cost I P F some same =
    let n = reservations_of I in
    let was : ℕ → ℕ = λ r. cond (some r) (reservation_cost I P r) 0 in
    let is : ℕ → ℕ = λ r. cond (some r) (reservation_cost I F r) 0 in
    let equal : sum_by was (numbers n) ≡ sum_by is (numbers n) = sum_same was is n (λ r lt.
    elim (cases_Bool (some r)) [
      | inl here ↦ rw here (sym (same r lt here))
      | inr gone ↦ rw gone refl
    ]) in
    let le : sum_by is (numbers n) ≤ sum_by (reservation_cost I F) (numbers n) = sum_by-le-sum_by is (reservation_cost I F) (numbers n) (λ r. part-le (some r) (reservation_cost I F r)) in
    omega (arith, equal, le)

pub saves-worse : (I : Situation) (P : PlanRows) (m : Move) (first others : List Step) (some : ℕ → Bool) → IsValid I → IsPlanFor I (after_steps I P first) → least I P ≡ None → m.steps ≡ first ++ others → (after_steps I P first).groups ≡ P.groups → list_all keeps_rows others ≡ true → ((r : ℕ) → r < reservations_of I → some r ≡ true → IsLeftAlone I P (after_steps I P first) others r) → cost I P ≤ operating_cost I (after_steps I P first) + position_cost I (after_steps I P first) + cost_of_some I P some → is_better I P m ≡ false
unfolding is_better after_move
saves-worse I P m first others some valid plan feasible are same keeps alone less =
    let Q = after_steps I P first in
    let F = after_steps I Q others in
    let is : after_steps I P m.steps ≡ F = ap (after_steps I P) are ∙ steps-append I P first others in
    let rows : F.rows ≡ Q.rows = steps-rows I Q others keeps in
    let rest = some-cost I P F some (λ r lt here. left-alone I P Q others r valid plan feasible same lt (alone r lt here)) in
    let dear : cost I P ≤ cost I F = omega (arith, less, rest, cost_is I F, flying-same I Q F rows, positions-same I Q F rows) in
    let moved : cost I P ≤ cost I (after_steps I P m.steps) = subst (λ (R : PlanRows). cost I P ≤ cost I R) (sym is) dear in
    and_right _ _ (le-ltb (cost I (after_steps I P m.steps)) (cost I P) moved)

-- ---- a move that touches nobody who costs anything

abbrev costs_something : Situation → PlanRows → ℕ → Bool
costs_something I P r = not (eqb (reservation_cost I P r) 0)

costs-apart : (n : ℕ) → not (eqb n 0) ≡ true → n ≡ 0 → ⊥
costs-apart n some none = true≢false (sym some ∙ ap not (eq-eqb n 0 none))

part-all : (n : ℕ) → cond (not (eqb n 0)) n 0 ≡ n
part-all n =
    elim (cases_eq n 0) [
      | inl none ↦ rw (eq-eqb n 0 none) (sym none)
      | inr some ↦ rw (ne_eqb n 0 some) refl
    ]

all-cost : (I : Situation) (P : PlanRows) → cost_of_some I P (costs_something I P) ≡ sum_by (reservation_cost I P) (numbers (reservations_of I))
all-cost I P =
    sum_same (λ r. cond (costs_something I P r) (reservation_cost I P r) 0) (reservation_cost I P) (reservations_of I) (λ r lt. part-all (reservation_cost I P r))

pub nothing-saved : (I : Situation) (P : PlanRows) (m : Move) (first others : List Step) → IsValid I → IsPlanFor I (after_steps I P first) → least I P ≡ None → m.steps ≡ first ++ others → (after_steps I P first).groups ≡ P.groups → list_all keeps_rows others ≡ true → ((r : ℕ) → r < reservations_of I → (reservation_cost I P r ≡ 0) ⊎ IsLeftAlone I P (after_steps I P first) others r) → operating_cost I P ≤ operating_cost I (after_steps I P first) → position_cost I P ≤ position_cost I (after_steps I P first) → is_better I P m ≡ false
nothing-saved I P m first others valid plan feasible are same keeps each flying positions =
    saves-worse I P m first others (costs_something I P) valid plan feasible are same keeps
    (λ r lt some. elim (each r lt) [
      | inl none ↦ absurd (costs-apart (reservation_cost I P r) some none)
      | inr alone ↦ alone
    ])
    (omega (arith, cost_is I P, all-cost I P, flying, positions))
