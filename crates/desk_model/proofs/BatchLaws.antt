-- What is answered to a batch.
use Rattle.std.proofs.Common.{◌≡◌, inl, inr, true, List, [], ◌∷◌, refl, sym, ap, subst, ◌∙◌}
use Rattle.std.specs.Prelude.{find, Option, None, Some}
use Rattle.std.specs.List.{AllByRecursion}
use Rattle.std.proofs.lemmas.Bool.{cases_Bool}
use Rattle.std.proofs.lemmas.List.Folds.{find-append}
use Rattle.std.proofs.lemmas.List.Elements.{recursion_from_All}
use Rattle.day_orders.specs.declared.orders.Batch.{Batch}
use Rattle.desk_data.specs.declared.broken.Broken.{Broken}
use Rattle.desk_data.specs.Progress.{with_batch}
use Rattle.desk_data.specs.Situation.{Situation}
use Rattle.desk_data.specs.PlanRows.{PlanRows}
use Rattle.desk_rules.specs.Least.{breaks, least}
use Rattle.desk_rules.specs.Words.{Meets, IsLeast}
use Rattle.desk_rules.proofs.FindLaws.{cons-none}
use Rattle.desk_rules.proofs.RulesLaws.{breaks-holds, breaks-from}
use Rattle.desk_rules.proofs.LeastLaws.{feasible-holds, least-holds}
use Rattle.desk_model.specs.declared.answer.Answer.TheVariants.{Taken, NoPlan}
use Rattle.desk_model.specs.declared.answer.Event.TheVariants as event
use Rattle.desk_units.specs.declared.money.Grains.{Grains}
use Rattle.desk_model.specs.declared.fallbacks.Which.{Which}
use Rattle.desk_model.specs.declared.fallbacks.Which.TheVariants.{Keep, Shift, Ground}
use Rattle.desk_model.specs.Fallback.{fallback, shifted, grounded, chosen_or, last_choice, rows_of, rows_named}
use Rattle.desk_model.specs.States.{State, fallback_on, batch_answer, answer}
use Rattle.desk_model.specs.Batches.{AnswersBatch}
use Rattle.desk_model.proofs.FallbackLaws.{infeasible}

-- ---- the first item

none_found : (I : Situation) (P : PlanRows) (xs : List Broken) → AllByRecursion (Meets I P) xs → find (breaks I P) xs ≡ None
none_found I P [] met = refl
none_found I P (x ∷ xs) met = cons-none (breaks I P) x xs (breaks-from I P x met.0) (none_found I P xs met.1)

-- an item that the rows break, and none before it, is the first
pub least-from : (I : Situation) (P : PlanRows) (item : Broken) → IsLeast I P item → least I P ≡ Some item
unfolding least
least-from I P item h =
    let broken : breaks I P item ≡ true
    = elim (cases_Bool (breaks I P item)) [
      | inl holds ↦ holds
      | inr met ↦ absurd (h.broken (breaks-holds I P item met))
    ] in
    ap (find (breaks I P)) h.place
    ∙ find-append (breaks I P) h.before (item ∷ h.after)
    ∙ rw (none_found I P h.before (recursion_from_All (Meets I P) h.before h.kept), broken) refl

-- ---- the answer to a batch

tells_by : (J : Situation) (P : PlanRows) (a b c : Option Broken) → least J P ≡ a → least J (shifted J P) ≡ b → least J (grounded J P) ≡ c → AnswersBatch J P (batch_answer J (chosen_or Keep P a (chosen_or Shift (shifted J P) b (last_choice (grounded J P) c))))
tells_by J P None b c p s g = record {
  keep = λ price. ((λ h. (feasible-holds J P p, cc)), (λ both. ap (Taken Keep) (sym both.1)));
  shift = λ price. ((λ h. absurd cc), (λ all. absurd (all.0 (feasible-holds J P p))));
  ground = λ price. ((λ h. absurd cc), (λ all. absurd (all.0 (feasible-holds J P p))));
  none = λ item. ((λ h. absurd cc), (λ all. absurd (all.0 (feasible-holds J P p))));
}
tells_by J P (Some i) None c p s g = record {
  keep = λ price. ((λ h. absurd cc), (λ both. absurd (infeasible J P i p both.0)));
  shift = λ price. ((λ h. (infeasible J P i p, feasible-holds J (shifted J P) s, cc)), (λ all. ap (Taken Shift) (sym all.2)));
  ground = λ price. ((λ h. absurd cc), (λ all. absurd (all.1 (feasible-holds J (shifted J P) s))));
  none = λ item. ((λ h. absurd cc), (λ all. absurd (all.1 (feasible-holds J (shifted J P) s))));
}
tells_by J P (Some i) (Some j) None p s g = record {
  keep = λ price. ((λ h. absurd cc), (λ both. absurd (infeasible J P i p both.0)));
  shift = λ price. ((λ h. absurd cc), (λ all. absurd (infeasible J (shifted J P) j s all.1)));
  ground = λ price. ((λ h. (infeasible J P i p, infeasible J (shifted J P) j s, feasible-holds J (grounded J P) g, cc)), (λ all. ap (Taken Ground) (sym all.3)));
  none = λ item. ((λ h. absurd cc), (λ all. let both : None ≡ Some item = sym g ∙ least-from J (grounded J P) item all.2 in absurd cc));
}
tells_by J P (Some i) (Some j) (Some k) p s g = record {
  keep = λ price. ((λ h. absurd cc), (λ both. absurd (infeasible J P i p both.0)));
  shift = λ price. ((λ h. absurd cc), (λ all. absurd (infeasible J (shifted J P) j s all.1)));
  ground = λ price. ((λ h. absurd cc), (λ all. absurd (infeasible J (grounded J P) k g all.2)));
  none = λ item. (
    (λ h. let same : k ≡ item = cc in (infeasible J P i p, infeasible J (shifted J P) j s, subst (IsLeast J (grounded J P)) same (least-holds J (grounded J P) k g))),
    (λ all. let both : Some k ≡ Some item = sym g ∙ least-from J (grounded J P) item all.2 in let same : k ≡ item = cc in ap NoPlan same),
  );
}

pub answers_batch : (S : State) (B : Batch) → AnswersBatch (with_batch S.inst S.plan B) S.plan (answer S (event.Batch B))
unfolding answer fallback_on fallback
answers_batch S B =
    let J = with_batch S.inst S.plan B in
    tells_by J S.plan (least J S.plan) (least J (shifted J S.plan)) (least J (grounded J S.plan)) refl refl refl

-- ---- the rows of which something is reported

named_by : (J : Situation) (P : PlanRows) (a b c : Option Broken) (which : Which) (price : Grains) → batch_answer J (chosen_or Keep P a (chosen_or Shift (shifted J P) b (last_choice (grounded J P) c))) ≡ Taken which price → rows_of (chosen_or Keep P a (chosen_or Shift (shifted J P) b (last_choice (grounded J P) c))) ≡ rows_named J P which
named_by J P None b c which price h = let same : Keep ≡ which = cc in ap (rows_named J P) same
named_by J P (Some i) None c which price h = let same : Shift ≡ which = cc in ap (rows_named J P) same
named_by J P (Some i) (Some j) None which price h = let same : Ground ≡ which = cc in ap (rows_named J P) same
named_by J P (Some i) (Some j) (Some k) which price h = absurd cc

-- the rows are those that the name stands for
pub rows_of_name : (S : State) (B : Batch) (which : Which) (price : Grains) → answer S (event.Batch B) ≡ Taken which price → rows_of (fallback_on S B) ≡ rows_named (with_batch S.inst S.plan B) S.plan which
unfolding answer fallback_on fallback
rows_of_name S B which price h =
    let J = with_batch S.inst S.plan B in
    named_by J S.plan (least J S.plan) (least J (shifted J S.plan)) (least J (grounded J S.plan)) which price h

left_by : (J : Situation) (P : PlanRows) (a b c : Option Broken) (item : Broken) → batch_answer J (chosen_or Keep P a (chosen_or Shift (shifted J P) b (last_choice (grounded J P) c))) ≡ NoPlan item → rows_of (chosen_or Keep P a (chosen_or Shift (shifted J P) b (last_choice (grounded J P) c))) ≡ grounded J P
left_by J P None b c item h = absurd cc
left_by J P (Some i) None c item h = absurd cc
left_by J P (Some i) (Some j) None item h = absurd cc
left_by J P (Some i) (Some j) (Some k) item h = refl

-- where there is no plan they are those of Ground
pub rows_left : (S : State) (B : Batch) (item : Broken) → answer S (event.Batch B) ≡ NoPlan item → rows_of (fallback_on S B) ≡ grounded (with_batch S.inst S.plan B) S.plan
unfolding answer fallback_on fallback
rows_left S B item h =
    let J = with_batch S.inst S.plan B in
    left_by J S.plan (least J S.plan) (least J (shifted J S.plan)) (least J (grounded J S.plan)) item h
