-- Steps that leave each leg to the aircraft that flies it.
use Rattle.std.proofs.Common.{◌≡◌, ℕ, inl, inr, true, false, List, [], ◌∷◌, ◌++◌, refl, sym, ap, subst, ◌∙◌}
use Rattle.std.specs.Prelude.{Option, None, Some, ◌&&◌, fold, is_none, nat_lt}
use Rattle.std.specs.List.{list_all}
use Rattle.std.proofs.lemmas.Bool.{true≢false, cases_Bool, and_parts}
use Rattle.desk_units.specs.declared.numbers.Leg.{Leg}
use Rattle.desk_units.specs.declared.numbers.Cabin.{Cabin}
use Rattle.desk_data.specs.declared.row.Row.{Row}
use Rattle.desk_data.specs.Situation.{Situation, reservations_of}
use Rattle.desk_data.specs.PlanRows.{PlanRows}
use Rattle.plan_moves.specs.declared.moves.Move.{Move}
use Rattle.plan_moves.specs.declared.moves.Step.{Step}
use Rattle.plan_moves.specs.declared.moves.Step.TheVariants.{Set, Push, Swap, Rebook, Tidy, Refill}
use Rattle.desk_rules.specs.Numbers.{numbers}
use Rattle.desk_rules.specs.Maintenance.{flies}
use Rattle.desk_rules.specs.Least.{least}
use Rattle.desk_rules.specs.Cost.{cost}
use Rattle.desk_model.specs.Rebook.{after_rebook}
use Rattle.desk_model.specs.Tidy.{after_tidy}
use Rattle.desk_model.specs.Refill.{is_refilled, after_refilling, after_refill}
use Rattle.desk_model.specs.Steps.{after_step, after_steps, after_move}
use Rattle.step_laws.proofs.PushedLaws.{pushed-flies}
use Rattle.near_moves.specs.Descent.{is_better}
use Rattle.near_moves.specs.Chains.{keeps_aircraft}

pub none_of : {X : Type 0} (o : Option X) → is_none o ≡ true → o ≡ None
none_of None is = refl
none_of (Some x) is = absurd (true≢false (sym is))

-- steps that make a plan that breaks a rule make no better one
pub broken-worse : (I : Situation) (P : PlanRows) (m : Move) (steps : List Step) → m.steps ≡ steps → (least I (after_steps I P steps) ≡ None → ⊥) → is_better I P m ≡ false
unfolding is_better after_move
broken-worse I P m steps is breaks =
    let Q = after_steps I P m.steps in
    elim (cases_Bool (is_none (least I Q) && nat_lt (cost I Q) (cost I P))) [
      | inr worse ↦ worse
      | inl better ↦ absurd (breaks (subst (λ (done : List Step). least I (after_steps I P done) ≡ None) is (none_of (least I Q) (and_parts (is_none (least I Q)) (nat_lt (cost I Q) (cost I P)) better).0)))
    ]

pub steps-append : (I : Situation) (P : PlanRows) (xs ys : List Step) → after_steps I P (xs ++ ys) ≡ after_steps I (after_steps I P xs) ys
steps-append I P [] ys = refl
steps-append I P (x ∷ xs) ys = steps-append I (after_step I P x) xs ys

-- who flies which leg is in the rows alone
by_rows : (P Q : PlanRows) (p x : ℕ) → Q.rows ≡ P.rows → flies Q p x ≡ flies P p x
by_rows P Q p x same = ap (λ (rows : List Row). let S : PlanRows = record { rows = rows; groups = [] } in flies S p x) same

rebook-rows : (P : PlanRows) (r : ℕ) (path to : List (Leg × Cabin)) (count : ℕ) → (after_rebook P r path to count).rows ≡ P.rows
unfolding after_rebook
rebook-rows P r path to count = refl

refilling-rows : (I : Situation) (x : ℕ) (P : PlanRows) (r : ℕ) → (after_refilling I x P r).rows ≡ P.rows
unfolding after_rebook
refilling-rows I x P r =
    elim (cases_Bool (is_refilled I P x r)) [
      | inl refills ↦ rw refills refl
      | inr other ↦ rw other refl
    ]

pub refilled-rows : (I : Situation) (x : ℕ) (P : PlanRows) (rs : List ℕ) → (fold (after_refilling I x) P rs).rows ≡ P.rows
refilled-rows I x P [] = refl
refilled-rows I x P (r ∷ rs) = refilled-rows I x (after_refilling I x P r) rs ∙ refilling-rows I x P r

one-flies : (I : Situation) (P : PlanRows) (step : Step) (p x : ℕ) → keeps_aircraft step ≡ true → flies (after_step I P step) p x ≡ flies P p x
unfolding after_step after_tidy after_refill after_rebook
one-flies I P (Set leg was new) p x keeps = absurd cc
one-flies I P (Push plane after) p x keeps = pushed-flies I P plane.0 after p x
one-flies I P (Swap first second at) p x keeps = absurd cc
one-flies I P (Rebook res path to count) p x keeps = refl
one-flies I P Tidy p x keeps = refl
one-flies I P (Refill leg) p x keeps = by_rows P (fold (after_refilling I leg.0) P (numbers (reservations_of I))) p x (refilled-rows I leg.0 P (numbers (reservations_of I)))

pub kept-flies : (I : Situation) (P : PlanRows) (steps : List Step) (p x : ℕ) → list_all keeps_aircraft steps ≡ true → flies (after_steps I P steps) p x ≡ flies P p x
kept-flies I P [] p x keeps = refl
kept-flies I P (step ∷ steps) p x keeps =
    let parts = and_parts (keeps_aircraft step) (list_all keeps_aircraft steps) keeps in
    kept-flies I (after_step I P step) steps p x parts.1 ∙ one-flies I P step p x parts.0
