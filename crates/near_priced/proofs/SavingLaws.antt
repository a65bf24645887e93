-- How it is worked out what those save at most who are on a leg.
use Rattle.std.proofs.Common.{◌≡◌, ℕ, zero, suc, ◌≤◌, inl, inr, Bool, true, false, cond, eqb, List, length, take, refl, sym, ap, ◌∙◌, arith}
use Rattle.std.specs.Prelude.{min, sum_by}
use Rattle.std.specs.Option.{is_some}
use Rattle.std.proofs.lemmas.Bool.{true≢false, cases_Bool, cases_eq, eq-eqb, ne_eqb}
use Rattle.std.proofs.lemmas.List.{take_all}
use Rattle.std.proofs.lemmas.List.Sums.{sum_by_push, sum_by-le-sum_by}
use Rattle.desk_units.specs.declared.numbers.Res.{Res}
use Rattle.desk_data.specs.declared.row.Group.{Group}
use Rattle.desk_data.specs.Situation.{Situation, reservations_of}
use Rattle.desk_data.specs.PlanRows.{PlanRows, groups_at}
use Rattle.desk_rules.specs.Cost.{arrives}
use Rattle.desk_rules.specs.Numbers.{numbers}
use Rattle.plan_checks.specs.Amounts.{group_cost, path_cost, path_end}
use Rattle.plan_checks.proofs.EndLaws.{ended_is}
use Rattle.board_kit.specs.Users.{HasUsers, has_user, users_at, uses}
use Rattle.near_priced.specs.Saved.{least_of, least_after, saved_by, saved_on, uncarried_cost}
use Rattle.near_priced.proofs.PricedLaws.{some_of, any-le}

-- ---- a group

pub least-none : (I : Situation) (S : PlanRows) (r : ℕ) (group : Group) → is_some (path_end I S group.path) ≡ false → least_of I S r group ≡ uncarried_cost I r group.count
unfolding least_of path_end
least-none I S r group none =
    elim (cases_Bool (arrives S group.path)) [
      | inl here ↦
          let some : is_some (path_end I S group.path) ≡ true = rw here refl in
          absurd (true≢false (sym some ∙ none))
      | inr gone ↦ rw gone refl
    ]

pub least-some : (I : Situation) (S : PlanRows) (r : ℕ) (group : Group) → is_some (path_end I S group.path) ≡ true → least_of I S r group ≡ min (path_cost I r group (path_end I S group.path)) (uncarried_cost I r group.count)
unfolding least_of path_end
least-some I S r group some =
    elim (cases_Bool (arrives S group.path)) [
      | inl here ↦
          let there : least_of I S r group ≡ min (group_cost I S r group) (uncarried_cost I r group.count) = rw here refl in
          omega (arith, there, ended_is I S r group)
      | inr gone ↦
          let none : is_some (path_end I S group.path) ≡ false = rw gone refl in
          absurd (true≢false (sym some ∙ none))
    ]

-- all groups
pub all-least : (I : Situation) (S : PlanRows) (r k : ℕ) → length (groups_at S r) ≤ k → sum_by (least_of I S r) (take k (groups_at S r)) ≡ least_after I S r
unfolding least_after
all-least I S r k all = ap (sum_by (least_of I S r)) (take_all k (groups_at S r) all)

-- ---- a leg

part-less : (a b : Bool) (c : ℕ) → (a ≡ true → b ≡ true) → cond a c 0 ≤ cond b c 0
part-less true b c holds = rw (holds refl) (omega arith)
part-less false b c holds = omega arith

-- the weight of one number, and of none that is not reached
none-yet : (weight : ℕ → ℕ) (k n : ℕ) → n ≤ k → some_of weight n (eqb k) ≡ 0
none-yet weight k zero less = refl
none-yet weight k (suc n) less =
    let rest = none-yet weight k n (omega (arith, less)) in
    let apart : cond (eqb k n) (weight n) 0 ≡ 0 = rw (ne_eqb k n (λ same. omega (arith, same, less))) refl in
    omega (arith, sum_by_push (λ r. cond (eqb k r) (weight r) 0) (numbers n) n, rest, apart)

one-le : (weight : ℕ → ℕ) (k n : ℕ) → some_of weight n (eqb k) ≤ weight k
one-le weight k zero = omega arith
one-le weight k (suc n) =
    let push = sum_by_push (λ r. cond (eqb k r) (weight r) 0) (numbers n) n in
    elim (cases_eq k n) [
      | inl same ↦
          let none = none-yet weight k n (omega (arith, same)) in
          let here : cond (eqb k n) (weight n) 0 ≡ weight k = rw (eq-eqb k n same) (ap weight (sym same)) in
          omega (arith, push, none, here)
      | inr other ↦
          let rest = one-le weight k n in
          let apart : cond (eqb k n) (weight n) 0 ≡ 0 = rw (ne_eqb k n other) refl in
          omega (arith, push, rest, apart)
    ]

-- those that are listed for a leg save at least what those do that have somebody on it
pub saved-listed : (I : Situation) (P S : PlanRows) (lists : List (List Res)) (x : ℕ) → HasUsers P (has_user lists) → saved_on I P S x ≤ sum_by (λ (res : Res). saved_by I P S res.0) (users_at lists x)
saved-listed I P S lists x has =
    let n = reservations_of I in
    let weight = saved_by I P S in
    let kept : saved_on I P S x ≤ some_of weight n (has_user lists x) =
    sum_by-le-sum_by (λ r. cond (uses P x r) (weight r) 0) (λ r. cond (has_user lists x r) (weight r) 0) (numbers n) (λ r. part-less (uses P x r) (has_user lists x r) (weight r) (has.whole x r)) in
    let each : some_of weight n (has_user lists x) ≤ sum_by (λ (res : Res). some_of weight n (eqb res.0)) (users_at lists x) = any-le weight n (λ (res : Res) r. eqb res.0 r) (users_at lists x) in
    let one : sum_by (λ (res : Res). some_of weight n (eqb res.0)) (users_at lists x) ≤ sum_by (λ (res : Res). weight res.0) (users_at lists x) =
    sum_by-le-sum_by (λ (res : Res). some_of weight n (eqb res.0)) (λ (res : Res). weight res.0) (users_at lists x) (λ res. one-le weight res.0 n) in
    omega (arith, kept, each, one)
