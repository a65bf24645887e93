-- A move makes a plan no cheaper where flying, the positions and those whom it leaves alone cost as much as the plan does.
use Rattle.std.proofs.Common.{◌≡◌, ℕ, ◌+◌, ◌<◌, ◌≤◌, inl, inr, Bool, true, false, cond, List, ◌++◌, refl, sym, ap, subst, arith, ◌∙◌}
use Rattle.std.specs.Prelude.{None, sum_by}
use Rattle.std.specs.List.{list_all}
use Rattle.std.proofs.lemmas.Bool.{cases_Bool, and_right, le-ltb}
use Rattle.std.proofs.lemmas.List.Sums.{sum_by-le-sum_by}
use Rattle.desk_data.specs.Situation.{Situation, reservations_of}
use Rattle.desk_data.specs.PlanRows.{PlanRows}
use Rattle.desk_data.specs.Valid.{IsPlanFor, IsValid}
use Rattle.plan_moves.specs.declared.moves.Move.{Move}
use Rattle.plan_moves.specs.declared.moves.Step.{Step}
use Rattle.desk_rules.specs.Numbers.{numbers}
use Rattle.desk_rules.specs.Least.{least}
use Rattle.desk_rules.specs.Cost.{cost, operating_cost, position_cost}
use Rattle.desk_model.specs.Steps.{after_steps, after_move}
use Rattle.plan_checks.specs.Amounts.{reservation_cost}
use Rattle.plan_checks.proofs.BalanceLaws.{cost_is}
use Rattle.step_laws.proofs.SumLaws.{sum_same}
use Rattle.near_moves.specs.Descent.{is_better}
use Rattle.near_moves.proofs.KeptLaws.{steps-append}
use Rattle.near_moves.specs.RowRules.{keeps_rows}
use Rattle.near_moves.proofs.RowLaws.{steps-rows}
use Rattle.near_untouched.specs.Alone.{IsLeftAlone, cost_of_some}
use Rattle.near_untouched.proofs.AloneLaws.{left-alone, flying-same, positions-same}

part-le : (b : Bool) (n : ℕ) → cond b n 0 ≤ n
part-le true n = omega arith
part-le false n = omega arith

-- those of some reservations that cost the same cost at most what all do
some-le : (I : Situation) (P F : PlanRows) (some : ℕ → Bool) → ((r : ℕ) → r < reservations_of I → some r ≡ true → reservation_cost I F r ≡ reservation_cost I P r) → cost_of_some I P some ≤ sum_by (reservation_cost I F) (numbers (reservations_of I))
some-le I P F some same =
    let n = reservations_of I in
    let was : ℕ → ℕ = λ r. cond (some r) (reservation_cost I P r) 0 in
    let is : ℕ → ℕ = λ r. cond (some r) (reservation_cost I F r) 0 in
    let equal : sum_by was (numbers n) ≡ sum_by is (numbers n) = sum_same was is n (λ r lt.
    elim (cases_Bool (some r)) [
      | inl here ↦ rw here (sym (same r lt here))
      | inr gone ↦ rw gone refl
    ]) in
    let le : sum_by is (numbers n) ≤ sum_by (reservation_cost I F) (numbers n) = sum_by-le-sum_by is (reservation_cost I F) (numbers n) (λ r. part-le (some r) (reservation_cost I F r)) in
    omega (arith, equal, le)

pub saves-dear : (I : Situation) (P : PlanRows) (m : Move) (first others : List Step) (some : ℕ → Bool) → IsValid I → IsPlanFor I (after_steps I P first) → least I P ≡ None → m.steps ≡ first ++ others → (after_steps I P first).groups ≡ P.groups → list_all keeps_rows others ≡ true → ((r : ℕ) → r < reservations_of I → some r ≡ true → IsLeftAlone I P (after_steps I P first) others r) → cost I P ≤ operating_cost I (after_steps I P first) + position_cost I (after_steps I P first) + cost_of_some I P some → cost I P ≤ cost I (after_move I P m)
unfolding after_move
saves-dear I P m first others some valid plan feasible are same keeps alone less =
    let Q = after_steps I P first in
    let F = after_steps I Q others in
    let is : after_steps I P m.steps ≡ F = ap (after_steps I P) are ∙ steps-append I P first others in
    let rows : F.rows ≡ Q.rows = steps-rows I Q others keeps in
    let rest = some-le I P F some (λ r lt here. left-alone I P Q others r valid plan feasible same lt (alone r lt here)) in
    let dear : cost I P ≤ cost I F = omega (arith, less, rest, cost_is I F, flying-same I Q F rows, positions-same I Q F rows) in
    subst (λ (R : PlanRows). cost I P ≤ cost I R) (sym is) dear

-- a move that makes the plan no cheaper is not better
pub dear-worse : (I : Situation) (P : PlanRows) (m : Move) → cost I P ≤ cost I (after_move I P m) → is_better I P m ≡ false
unfolding is_better
dear-worse I P m dear = and_right _ _ (le-ltb (cost I (after_move I P m)) (cost I P) dear)
