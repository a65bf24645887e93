-- A move that takes one Tidy, and then Refills alone.
use Rattle.std.proofs.Common.{◌≡◌, ℕ, ◌+◌, ◌≤◌, inl, inr, Bool, true, List, [], ◌∷◌, ◌++◌, refl, sym, ap, subst, ◌∙◌, arith}
use Rattle.std.specs.Prelude.{None, sum_by}
use Rattle.std.specs.List.{list_all}
use Rattle.std.proofs.lemmas.Bool.{cases_Bool, and_from, and_parts}
use Rattle.std.proofs.lemmas.List.Sums.{sum_by-le-sum_by}
use Rattle.desk_units.specs.declared.numbers.Leg.{Leg}
use Rattle.desk_data.specs.declared.row.Row.{Row}
use Rattle.desk_data.specs.declared.row.Group.{Group}
use Rattle.desk_data.specs.Situation.{Situation}
use Rattle.desk_data.specs.PlanRows.{PlanRows, row_at}
use Rattle.desk_data.specs.Valid.{IsPlanFor, IsValid}
use Rattle.plan_moves.specs.declared.moves.Move.{Move}
use Rattle.plan_moves.specs.declared.moves.Step.{Step}
use Rattle.plan_moves.specs.declared.moves.Step.TheVariants.{Set, Push, Swap, Rebook, Tidy, Refill}
use Rattle.desk_rules.specs.Least.{least}
use Rattle.desk_rules.specs.Cost.{cost, operating_cost, position_cost}
use Rattle.desk_rules.specs.Rows.{is_row}
use Rattle.desk_model.specs.Push.{after_push}
use Rattle.desk_model.specs.Swap.{after_swap}
use Rattle.desk_model.specs.Steps.{after_set, after_step, after_steps, after_move}
use Rattle.desk_model.proofs.PushLaws.{after_push-groups}
use Rattle.desk_model.proofs.SwapLaws.{after_swap-groups}
use Rattle.near_moves.specs.RowRules.{keeps_rows}
use Rattle.near_moves.proofs.RowLaws.{steps-rows}
use Rattle.near_draft.specs.Drafts.{AreAllChanged, Drafted, IsDraftOf, plan_of}
use Rattle.near_draft.specs.Legs.{numbers_of}
use Rattle.near_draft.proofs.ChangeLaws.{drafted-groups}
use Rattle.near_priced.specs.declared.payments.Payments.{Payments}
use Rattle.near_priced.specs.Priced.{paid_booked, refilled}
use Rattle.near_priced.specs.Saved.{refills_leg, saved_on, tidies_once}
use Rattle.near_priced.specs.Tables.{ArePayments, amount, refill_amount}
use Rattle.near_priced.proofs.SavedLaws.{refills-tidy, saved-costs}
use Rattle.near_priced.proofs.PricedLaws.{tidied-rows}
use Rattle.near_priced.proofs.RuleOutLaws.{legs-are, refills-are}

-- what steps make of plan P is what a Tidy makes of plan S, and then Refills of the legs that the steps refill
record IsTidied (I : Situation) (P S : PlanRows) (steps : List Step) : Type 0 where
  refills : List Step
  all : list_all refills_leg refills ≡ true
  legs : refilled refills ≡ refilled steps
  made : after_steps I P steps ≡ after_steps I S (Tidy ∷ refills)

-- ---- plans with the same rows and groups

plan-same : (P Q : PlanRows) → Q.rows ≡ P.rows → Q.groups ≡ P.groups → Q ≡ P
plan-same P Q rows groups =
    ap (λ (r : List Row). let plan : PlanRows = record { rows = r; groups = Q.groups } in plan) rows
    ∙ ap (λ (g : List (List Group)). let plan : PlanRows = record { rows = P.rows; groups = g } in plan) groups

set-groups : (P : PlanRows) (x : ℕ) (was new : Row) → (after_set P x was new).groups ≡ P.groups
set-groups P x was new = elim (cases_Bool (is_row (row_at P x) was)) [
  | inl here ↦ rw here refl
  | inr other ↦ rw other refl
]

-- ---- the steps that a draft takes, and the others

tidied-from : (I : Situation) (P : PlanRows) (first others : List Step) → tidies_once (first ++ others) ≡ true → list_all keeps_rows others ≡ true → (after_steps I P first).groups ≡ P.groups → IsTidied I P (after_steps I P first) (first ++ others)
unfolding after_step
tidied-from I P [] [] once keeps same = absurd cc
tidied-from I P [] (Set leg was new ∷ others) once keeps same = absurd cc
tidied-from I P [] (Push plane after ∷ others) once keeps same = absurd cc
tidied-from I P [] (Swap first second at ∷ others) once keeps same = absurd cc
tidied-from I P [] (Rebook res path to count ∷ others) once keeps same = absurd cc
tidied-from I P [] (Tidy ∷ others) once keeps same = record { refills = others; all = once; legs = refl; made = refl }
tidied-from I P [] (Refill leg ∷ others) once keeps same = absurd cc
tidied-from I P (Set leg was new ∷ first) others once keeps same =
    let rest = tidied-from I (after_set P leg.0 was new) first others once keeps (same ∙ sym (set-groups P leg.0 was new)) in
    record { refills = rest.refills; all = rest.all; legs = rest.legs; made = rest.made }
tidied-from I P (Push plane after ∷ first) others once keeps same =
    let rest = tidied-from I (after_push I P plane.0 after) first others once keeps (same ∙ sym (after_push-groups I P plane.0 after)) in
    record { refills = rest.refills; all = rest.all; legs = rest.legs; made = rest.made }
tidied-from I P (Swap one second at ∷ first) others once keeps same =
    let rest = tidied-from I (after_swap P one.0 second.0 at.0) first others once keeps (same ∙ sym (after_swap-groups P one.0 second.0 at.0)) in
    record { refills = rest.refills; all = rest.all; legs = rest.legs; made = rest.made }
tidied-from I P (Rebook res path to count ∷ first) others once keeps same = absurd cc
tidied-from I P (Tidy ∷ first) others once keeps same =
    let S = after_steps I P (Tidy ∷ first) in
    let front : list_all refills_leg first ≡ true = front-of refills_leg first others once in
    let rows : S.rows ≡ P.rows = steps-rows I P (Tidy ∷ first) (tidied-rows (Tidy ∷ first) (refills-tidy first front)) in
    record { refills = first ++ others; all = once; legs = refl; made = ap (λ (R : PlanRows). after_steps I R (Tidy ∷ first ++ others)) (sym (plan-same P S rows same)) }
  where
    front-of : (test : Step → Bool) (xs ys : List Step) → list_all test (xs ++ ys) ≡ true → list_all test xs ≡ true
    front-of test [] ys all = refl
    front-of test (x ∷ xs) ys all =
        let parts = and_parts (test x) (list_all test (xs ++ ys)) all in
        and_from (test x) (list_all test xs) parts.0 (front-of test xs ys parts.1)
tidied-from I P (Refill leg ∷ first) others once keeps same = absurd cc

-- ---- a move

pub save-out : (I : Situation) (P : PlanRows) (payments : Payments) (m : Move) (D : Drafted) (legs : List Leg) (dearer : ℕ) → IsValid I → IsPlanFor I (plan_of D) → ArePayments I P payments → IsDraftOf I P m D → tidies_once m.steps ≡ true → AreAllChanged P (plan_of D) (numbers_of legs) → operating_cost I P + position_cost I P + dearer ≡ operating_cost I (plan_of D) + position_cost I (plan_of D) → sum_by (λ (leg : Leg). saved_on I P (plan_of D) leg.0) legs + sum_by (refill_amount payments.booked.items) m.steps ≤ dearer → least I P ≡ None → cost I P ≤ cost I (after_move I P m)
unfolding after_move
save-out I P payments m D legs dearer valid plan are is once changed costs saved feasible =
    let S = plan_of D in
    let first = is.first in
    let others = is.others in
    let booked = payments.booked.items in
    let groups : S.groups ≡ P.groups = drafted-groups D.rows D.changes ∙ ap (λ (R : PlanRows). R.groups) is.plan in
    let there : (after_steps I P first).groups ≡ P.groups = ap (λ (R : PlanRows). R.groups) (sym is.made) ∙ groups in
    let tidied = tidied-from I P first others (ap tidies_once (sym is.steps) ∙ once) is.keeps there in
    let made : after_steps I P m.steps ≡ after_steps I S (Tidy ∷ tidied.refills) =
    ap (after_steps I P) is.steps ∙ tidied.made ∙ ap (λ (R : PlanRows). after_steps I R (Tidy ∷ tidied.refills)) (sym is.made) in
    let back : sum_by (paid_booked I P) (refilled tidied.refills) ≤ sum_by (amount booked) (refilled tidied.refills) = sum_by-le-sum_by (paid_booked I P) (amount booked) (refilled tidied.refills) are.amounts.booked_on_leg in
    let steps : sum_by (amount booked) (refilled tidied.refills) ≡ sum_by (refill_amount booked) m.steps =
    ap (sum_by (amount booked)) tidied.legs ∙ refills-are booked (first ++ others) ∙ ap (sum_by (refill_amount booked)) (sym is.steps) in
    let dear = saved-costs I P S tidied.refills valid plan tidied.all (numbers_of legs) feasible groups changed
    (omega (arith, costs, saved, back, steps, legs-are (saved_on I P S) legs)) in
    subst (λ (R : PlanRows). cost I P ≤ cost I R) (sym made) dear
