-- Steps that leave rows as they are, and rules that ask rows alone.
use Rattle.std.proofs.Common.{◌≡◌, true, false, List, [], ◌∷◌, ◌++◌, refl, sym, ap, ◌∙◌}
use Rattle.std.specs.Prelude.{None, nat_lt}
use Rattle.std.specs.List.{list_all}
use Rattle.std.proofs.lemmas.Bool.{true≢false, and_parts, ltb-true}
use Rattle.desk_data.specs.declared.broken.Broken.{Broken}
use Rattle.desk_data.specs.declared.broken.Broken.TheVariants.{C1, C2, C3, C4, C5, C6, C7, C8, C9, C10, C11, C12, C13, C14, C15}
use Rattle.desk_data.specs.declared.row.Row.{Row}
use Rattle.desk_data.specs.Situation.{Situation, legs_of, planes_of, airports_of, reservations_of}
use Rattle.desk_data.specs.PlanRows.{PlanRows}
use Rattle.plan_moves.specs.declared.moves.Move.{Move}
use Rattle.plan_moves.specs.declared.moves.Step.{Step}
use Rattle.plan_moves.specs.declared.moves.Step.TheVariants.{Set, Push, Swap, Rebook, Tidy, Refill}
use Rattle.desk_rules.specs.Numbers.{numbers}
use Rattle.desk_rules.specs.Rules.{keeps_c1, keeps_c2, keeps_c3, keeps_c4, keeps_c5, keeps_c6, keeps_c7}
use Rattle.desk_rules.specs.Maintenance.{keeps_c8, keeps_c9}
use Rattle.desk_rules.specs.Slots.{keeps_c10, keeps_c11}
use Rattle.desk_rules.specs.Least.{all_hours, breaks, least}
use Rattle.desk_rules.proofs.LeastLaws.{feasible-holds}
use Rattle.desk_rules.proofs.RulesLaws.{breaks-from}
use Rattle.desk_model.specs.Rebook.{after_rebook}
use Rattle.desk_model.specs.Tidy.{after_tidy}
use Rattle.desk_model.specs.Refill.{after_refill}
use Rattle.desk_model.specs.Steps.{after_step, after_steps}
use Rattle.near_moves.specs.Descent.{is_better}
use Rattle.near_moves.proofs.KeptLaws.{broken-worse, steps-append, refilled-rows}
use Rattle.near_moves.specs.RowRules.{is_of_rows, keeps_rows}

-- ---- steps

step-rows : (I : Situation) (P : PlanRows) (step : Step) → keeps_rows step ≡ true → (after_step I P step).rows ≡ P.rows
unfolding after_step after_tidy after_refill after_rebook
step-rows I P (Set leg was new) keeps = absurd cc
step-rows I P (Push plane after) keeps = absurd cc
step-rows I P (Swap first second at) keeps = absurd cc
step-rows I P (Rebook res path to count) keeps = refl
step-rows I P Tidy keeps = refl
step-rows I P (Refill leg) keeps = refilled-rows I leg.0 P (numbers (reservations_of I))

pub steps-rows : (I : Situation) (P : PlanRows) (steps : List Step) → list_all keeps_rows steps ≡ true → (after_steps I P steps).rows ≡ P.rows
steps-rows I P [] keeps = refl
steps-rows I P (step ∷ steps) keeps =
    let parts = and_parts (keeps_rows step) (list_all keeps_rows steps) keeps in
    steps-rows I (after_step I P step) steps parts.1 ∙ step-rows I P step parts.0

-- ---- rules

-- rows with no groups
abbrev bare : List Row → PlanRows
bare rows = record { rows = rows; groups = [] }

pub rows-break : (I : Situation) (P Q : PlanRows) (item : Broken) → is_of_rows I item ≡ true → Q.rows ≡ P.rows → breaks I Q item ≡ breaks I P item
unfolding breaks keeps_c1 keeps_c2 keeps_c3 keeps_c4 keeps_c5 keeps_c6 keeps_c7 keeps_c8 keeps_c9 keeps_c10 keeps_c11
rows-break I P Q (C1 x) is same = ap (λ (rows : List Row). breaks I (bare rows) (C1 x)) same
rows-break I P Q (C2 x) is same = ap (λ (rows : List Row). breaks I (bare rows) (C2 x)) same
rows-break I P Q (C3 x) is same = ap (λ (rows : List Row). breaks I (bare rows) (C3 x)) same
rows-break I P Q (C4 x) is same = ap (λ (rows : List Row). breaks I (bare rows) (C4 x)) same
rows-break I P Q (C5 x) is same = ap (λ (rows : List Row). breaks I (bare rows) (C5 x)) same
rows-break I P Q (C6 x) is same = ap (λ (rows : List Row). breaks I (bare rows) (C6 x)) same
rows-break I P Q (C7 x) is same = ap (λ (rows : List Row). breaks I (bare rows) (C7 x)) same
rows-break I P Q (C8 p) is same = ap (λ (rows : List Row). breaks I (bare rows) (C8 p)) same
rows-break I P Q (C9 p) is same = ap (λ (rows : List Row). breaks I (bare rows) (C9 p)) same
rows-break I P Q (C10 a h) is same = ap (λ (rows : List Row). breaks I (bare rows) (C10 a h)) same
rows-break I P Q (C11 a h) is same = ap (λ (rows : List Row). breaks I (bare rows) (C11 a h)) same
rows-break I P Q (C12 x c) is same = absurd cc
rows-break I P Q (C13 r) is same = absurd cc
rows-break I P Q (C14 r) is same = absurd cc
rows-break I P Q (C15 r) is same = absurd cc

-- a feasible plan breaks no item
pub none-broken : (I : Situation) (P : PlanRows) (item : Broken) → is_of_rows I item ≡ true → least I P ≡ None → breaks I P item ≡ false
none-broken I P (C1 x) is none = breaks-from I P (C1 x) ((feasible-holds I P none).c1 x.0 (ltb-true x.0 (legs_of I) is))
none-broken I P (C2 x) is none = breaks-from I P (C2 x) ((feasible-holds I P none).c2 x.0 (ltb-true x.0 (legs_of I) is))
none-broken I P (C3 x) is none = breaks-from I P (C3 x) ((feasible-holds I P none).c3 x.0 (ltb-true x.0 (legs_of I) is))
none-broken I P (C4 x) is none = breaks-from I P (C4 x) ((feasible-holds I P none).c4 x.0 (ltb-true x.0 (legs_of I) is))
none-broken I P (C5 x) is none = breaks-from I P (C5 x) ((feasible-holds I P none).c5 x.0 (ltb-true x.0 (legs_of I) is))
none-broken I P (C6 x) is none = breaks-from I P (C6 x) ((feasible-holds I P none).c6 x.0 (ltb-true x.0 (legs_of I) is))
none-broken I P (C7 x) is none = breaks-from I P (C7 x) ((feasible-holds I P none).c7 x.0 (ltb-true x.0 (legs_of I) is))
none-broken I P (C8 p) is none = breaks-from I P (C8 p) ((feasible-holds I P none).c8 p.0 (ltb-true p.0 (planes_of I) is))
none-broken I P (C9 p) is none = breaks-from I P (C9 p) ((feasible-holds I P none).c9 p.0 (ltb-true p.0 (planes_of I) is))
none-broken I P (C10 a h) is none =
    let parts = and_parts (nat_lt a.0 (airports_of I)) (nat_lt h all_hours) is in
    breaks-from I P (C10 a h) ((feasible-holds I P none).c10 a.0 h (ltb-true a.0 (airports_of I) parts.0) (ltb-true h all_hours parts.1))
none-broken I P (C11 a h) is none =
    let parts = and_parts (nat_lt a.0 (airports_of I)) (nat_lt h all_hours) is in
    breaks-from I P (C11 a h) ((feasible-holds I P none).c11 a.0 h (ltb-true a.0 (airports_of I) parts.0) (ltb-true h all_hours parts.1))
none-broken I P (C12 x c) is none = absurd cc
none-broken I P (C13 r) is none = absurd cc
none-broken I P (C14 r) is none = absurd cc
none-broken I P (C15 r) is none = absurd cc

-- ---- moves

-- an item that is broken stays so
pub stays-broken : (I : Situation) (Q : PlanRows) (others : List Step) (item : Broken) → list_all keeps_rows others ≡ true → is_of_rows I item ≡ true → breaks I Q item ≡ true → least I (after_steps I Q others) ≡ None → ⊥
stays-broken I Q others item keeps is broken none =
    let R = after_steps I Q others in
    true≢false (sym broken ∙ sym (rows-break I Q R item is (steps-rows I Q others keeps)) ∙ none-broken I R item is none)

pub first-break : (I : Situation) (P : PlanRows) (m : Move) (first others : List Step) (item : Broken) → m.steps ≡ first ++ others → list_all keeps_rows others ≡ true → is_of_rows I item ≡ true → breaks I (after_steps I P first) item ≡ true → is_better I P m ≡ false
first-break I P m first others item are keeps is broken =
    broken-worse I P m (first ++ others) are (λ none.
    stays-broken I (after_steps I P first) others item keeps is broken (ap (least I) (sym (steps-append I P first others)) ∙ none))
