-- What is looked up of a plan, and what that says of a move and its draft.
use Rattle.std.proofs.Common.{◌≡◌, ℕ, ◌+◌, ◌≤◌, Bool, true, List, [], ◌∷◌, ◌++◌, refl, sym, ap, subst, ◌∙◌, arith}
use Rattle.std.specs.Prelude.{None, sum_by}
use Rattle.std.specs.List.{list_all}
use Rattle.std.proofs.lemmas.Bool.{and_parts}
use Rattle.std.proofs.lemmas.List.Sums.{sum_by-cons, sum_by-append, sum_by-le-sum_by}
use Rattle.desk_units.specs.declared.numbers.Leg.{Leg}
use Rattle.desk_data.specs.Situation.{Situation}
use Rattle.desk_data.specs.PlanRows.{PlanRows}
use Rattle.desk_data.specs.Valid.{IsPlanFor, IsValid}
use Rattle.plan_moves.specs.declared.moves.Move.{Move}
use Rattle.plan_moves.specs.declared.moves.Step.{Step}
use Rattle.plan_moves.specs.declared.moves.Step.TheVariants.{Set, Push, Swap, Rebook, Tidy, Refill}
use Rattle.desk_rules.specs.Least.{least}
use Rattle.desk_rules.specs.Cost.{cost, operating_cost, position_cost}
use Rattle.desk_model.specs.Steps.{after_steps, after_move}
use Rattle.near_moves.specs.RowRules.{keeps_rows}
use Rattle.near_draft.specs.Drafts.{AreAllChanged, Drafted, IsDraftOf, plan_of}
use Rattle.near_draft.specs.Legs.{numbers_of}
use Rattle.near_draft.proofs.ChangeLaws.{drafted-groups}
use Rattle.near_priced.specs.declared.payments.Payments.{Payments}
use Rattle.near_priced.specs.Priced.{names_no_path, paid_on, paid_booked, refilled, tidies}
use Rattle.near_priced.specs.Tables.{ArePayments, amount, refill_amount}
use Rattle.near_priced.proofs.PricedLaws.{priced-dear}

-- ---- steps

last-of-both : (test : Step → Bool) (first others : List Step) → list_all test (first ++ others) ≡ true → list_all test others ≡ true
last-of-both test [] others all = all
last-of-both test (step ∷ first) others all =
    last-of-both test first others (and_parts (test step) (list_all test (first ++ others)) all).1

-- steps that leave rows as they are and name no path
tidying : (steps : List Step) → list_all names_no_path steps ≡ true → list_all keeps_rows steps ≡ true → list_all tidies steps ≡ true
tidying [] named keeps = refl
tidying (Set leg was new ∷ steps) named keeps = absurd cc
tidying (Push plane after ∷ steps) named keeps = absurd cc
tidying (Swap first second at ∷ steps) named keeps = absurd cc
tidying (Rebook res path to count ∷ steps) named keeps = absurd cc
tidying (Tidy ∷ steps) named keeps = tidying steps named keeps
tidying (Refill leg ∷ steps) named keeps = tidying steps named keeps

-- ---- amounts

pub refills-are : (amounts : List ℕ) (steps : List Step) → sum_by (amount amounts) (refilled steps) ≡ sum_by (refill_amount amounts) steps
refills-are amounts [] = refl
refills-are amounts (Set leg was new ∷ steps) = (let rest = refills-are amounts steps in omega (arith, rest, sum_by-cons (refill_amount amounts) (Set leg was new) steps))
refills-are amounts (Push plane after ∷ steps) = (let rest = refills-are amounts steps in omega (arith, rest, sum_by-cons (refill_amount amounts) (Push plane after) steps))
refills-are amounts (Swap first second at ∷ steps) = (let rest = refills-are amounts steps in omega (arith, rest, sum_by-cons (refill_amount amounts) (Swap first second at) steps))
refills-are amounts (Rebook res path to count ∷ steps) = (let rest = refills-are amounts steps in omega (arith, rest, sum_by-cons (refill_amount amounts) (Rebook res path to count) steps))
refills-are amounts (Tidy ∷ steps) = (let rest = refills-are amounts steps in omega (arith, rest, sum_by-cons (refill_amount amounts) Tidy steps))
refills-are amounts (Refill leg ∷ steps) = (let rest = refills-are amounts steps in omega (arith, rest, sum_by-cons (refill_amount amounts) (Refill leg) steps, sum_by-cons (amount amounts) leg.0 (refilled steps)))

pub legs-are : (amount : ℕ → ℕ) (legs : List Leg) → sum_by amount (numbers_of legs) ≡ sum_by (λ (leg : Leg). amount leg.0) legs
legs-are amount [] = refl
legs-are amount (leg ∷ legs) = (let rest = legs-are amount legs in omega (arith, rest, sum_by-cons amount leg.0 (numbers_of legs), sum_by-cons (λ (l : Leg). amount l.0) leg legs))

-- ---- a move

pub rule-out : (I : Situation) (P : PlanRows) (payments : Payments) (m : Move) (D : Drafted) (legs : List Leg) (dearer : ℕ) → IsValid I → IsPlanFor I (plan_of D) → ArePayments I P payments → IsDraftOf I P m D → list_all names_no_path m.steps ≡ true → AreAllChanged P (plan_of D) (numbers_of legs) → operating_cost I P + position_cost I P + dearer ≡ operating_cost I (plan_of D) + position_cost I (plan_of D) → sum_by (λ (leg : Leg). amount payments.on.items leg.0) legs + sum_by (refill_amount payments.booked.items) m.steps ≤ dearer → least I P ≡ None → cost I P ≤ cost I (after_move I P m)
rule-out I P payments m D legs dearer valid plan are is named changed costs paid feasible =
    let first = is.first in
    let others = is.others in
    let Q = after_steps I P first in
    let made : plan_of D ≡ Q = is.made in
    let on = payments.on.items in
    let booked = payments.booked.items in
    let no_path : list_all names_no_path others ≡ true = last-of-both names_no_path first others (ap (list_all names_no_path) (sym is.steps) ∙ named) in
    let groups : Q.groups ≡ P.groups = ap (λ (R : PlanRows). R.groups) (sym made) ∙ drafted-groups D.rows D.changes ∙ ap (λ (R : PlanRows). R.groups) is.plan in
    let on_legs = sum_by-le-sum_by (paid_on I P) (amount on) (numbers_of legs) are.amounts.on_leg in
    let on_refills = sum_by-le-sum_by (paid_booked I P) (amount booked) (refilled others) are.amounts.booked_on_leg in
    let steps : sum_by (refill_amount booked) m.steps ≡ sum_by (refill_amount booked) first + sum_by (refill_amount booked) others = ap (sum_by (refill_amount booked)) is.steps ∙ sum_by-append (refill_amount booked) first others in
    let flying : operating_cost I (plan_of D) ≡ operating_cost I Q = ap (operating_cost I) made in
    let positions : position_cost I (plan_of D) ≡ position_cost I Q = ap (position_cost I) made in
    priced-dear I P m first others (numbers_of legs) valid (subst (IsPlanFor I) made plan) feasible is.steps groups (tidying others no_path is.keeps) (subst (λ (R : PlanRows). AreAllChanged P R (numbers_of legs)) made changed)
    (omega (arith, costs, paid, on_legs, on_refills, steps, flying, positions, legs-are (amount on) legs, refills-are booked others))
