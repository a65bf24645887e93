-- What becomes of a batch at an evaluator.
use Rattle.std.proofs.Common.{◌≡◌, [], refl, sym, ap, ◌∙◌}
use Rattle.std.specs.Prelude.{None, Some, Option}
use Rattle.day_orders.specs.declared.orders.Batch.{Batch}
use Rattle.desk_data.specs.declared.broken.Broken.{Broken}
use Rattle.desk_data.specs.Progress.{with_batch}
use Rattle.desk_data.specs.Situation.{Situation}
use Rattle.desk_data.specs.PlanRows.{PlanRows}
use Rattle.desk_rules.specs.Least.{least}
use Rattle.desk_rules.specs.Cost.{cost, grains}
use Rattle.desk_model.specs.declared.answer.Answer.TheVariants.{Taken, NoPlan}
use Rattle.desk_model.specs.declared.answer.Event.TheVariants as event
use Rattle.desk_model.specs.declared.fallbacks.Which.{Which}
use Rattle.desk_model.specs.declared.fallbacks.Fallback.TheVariants as fallen
use Rattle.desk_model.specs.Fallback.{fallback}
use Rattle.desk_model.specs.States.{State, fallback_on, answer, after}
use Rattle.desk_model.proofs.StateLaws.{KnowsBroken, after-known}
use Rattle.desk_eval.specs.Evaluated.{Evaluated}
use Rattle.desk_core.specs.Judged.{state_in}
use Rattle.desk_core.specs.Taken.{IsTaken}

chosen_answer : (E : Evaluated) (B : Batch) (which : Which) (Q : PlanRows) → fallback (with_batch E.inst E.rows B) E.rows ≡ fallen.Chosen which Q → answer (state_in E) (event.Batch B) ≡ Taken which (grains (cost (with_batch E.inst E.rows B) Q))
unfolding answer fallback_on
chosen_answer E B which Q is = rw is refl

chosen_after : (E : Evaluated) (B : Batch) (which : Which) (Q : PlanRows) → fallback (with_batch E.inst E.rows B) E.rows ≡ fallen.Chosen which Q → after (state_in E) (event.Batch B) ≡ record { inst = with_batch E.inst E.rows B; plan = Q; broken = None }
unfolding after fallback_on
chosen_after E B which Q is = rw is refl

left_answer : (E : Evaluated) (B : Batch) (item : Broken) (Q : PlanRows) → fallback (with_batch E.inst E.rows B) E.rows ≡ fallen.NoPlan item Q → answer (state_in E) (event.Batch B) ≡ NoPlan item
unfolding answer fallback_on
left_answer E B item Q is = rw is refl

left_after : (E : Evaluated) (B : Batch) (item : Broken) (Q : PlanRows) → fallback (with_batch E.inst E.rows B) E.rows ≡ fallen.NoPlan item Q → after (state_in E) (event.Batch B) ≡ record { inst = with_batch E.inst E.rows B; plan = Q; broken = Some item }
unfolding after fallback_on
left_after E B item Q is = rw is refl

-- the state after it is that of an evaluator with its instance and its rows, since the item is the first that the rows break
after_is : (S : State) (F : Evaluated) (b : Option Broken) → KnowsBroken S → S ≡ record { inst = F.inst; plan = F.rows; broken = b } → S ≡ state_in F
after_is S F b given is =
    let item : b ≡ least F.inst F.rows = sym (ap (λ (T : State). T.broken) is) ∙ given ∙ ap (λ (T : State). least T.inst T.plan) is in
    is ∙ ap (λ (o : Option Broken). let at : State = record { inst = F.inst; plan = F.rows; broken = o } in at) item

pub taken_chosen : (E F : Evaluated) (B : Batch) (which : Which) → fallback (with_batch E.inst E.rows B) E.rows ≡ fallen.Chosen which F.rows → F.inst ≡ with_batch E.inst E.rows B → F.past ≡ [] → IsTaken E B F (Taken which (grains (cost F.inst F.rows)))
taken_chosen E F B which is inst settled = record {
  answered = chosen_answer E B which F.rows is ∙ rw inst refl;
  inst = inst;
  reached = after_is (after (state_in E) (event.Batch B)) F None (after-known (state_in E) (event.Batch B) refl) (chosen_after E B which F.rows is ∙ rw inst refl);
  settled = settled;
}

pub taken_left : (E F : Evaluated) (B : Batch) (item : Broken) → fallback (with_batch E.inst E.rows B) E.rows ≡ fallen.NoPlan item F.rows → F.inst ≡ with_batch E.inst E.rows B → F.past ≡ [] → IsTaken E B F (NoPlan item)
taken_left E F B item is inst settled = record {
  answered = left_answer E B item F.rows is;
  inst = inst;
  reached = after_is (after (state_in E) (event.Batch B)) F (Some item) (after-known (state_in E) (event.Batch B) refl) (left_after E B item F.rows is ∙ rw inst refl);
  settled = settled;
}

-- ---- what was made of it

-- the rows of a plan, and an evaluator with an empty past opened on them
abbrev pub opened_on : Situation → PlanRows → Evaluated
opened_on J Q = record { inst = J; rows = Q; past = [] }

-- the day of an evaluator with a batch, by its plan
pub batch_added : (E : Evaluated) (B : Batch) (I J : Situation) (P : PlanRows) → I ≡ E.inst → P ≡ E.rows → J ≡ with_batch I P B → J ≡ with_batch E.inst E.rows B
batch_added E B I J P inst rows added =
    added ∙ ap (λ (K : Situation). with_batch K P B) inst ∙ ap (λ (Q : PlanRows). with_batch E.inst Q B) rows

fell_on : (E : Evaluated) (B : Batch) (J : Situation) (P : PlanRows) → J ≡ with_batch E.inst E.rows B → P ≡ E.rows → fallback (with_batch E.inst E.rows B) E.rows ≡ fallback J P
fell_on E B J P inst rows = sym (ap (fallback J) rows ∙ ap (λ (K : Situation). fallback K E.rows) inst)

pub chosen_by : (E F : Evaluated) (B : Batch) (J : Situation) (P Q : PlanRows) (which : Which) → J ≡ with_batch E.inst E.rows B → P ≡ E.rows → fallback J P ≡ fallen.Chosen which Q → F ≡ opened_on J Q → IsTaken E B F (Taken which (grains (cost F.inst F.rows)))
chosen_by E F B J P Q which inst rows fell opened =
    taken_chosen E F B which
    (fell_on E B J P inst rows ∙ fell ∙ ap (fallen.Chosen which) (sym (ap (λ (G : Evaluated). G.rows) opened)))
    (ap (λ (G : Evaluated). G.inst) opened ∙ inst)
    (ap (λ (G : Evaluated). G.past) opened)

pub left_by : (E F : Evaluated) (B : Batch) (J : Situation) (P Q : PlanRows) (item : Broken) → J ≡ with_batch E.inst E.rows B → P ≡ E.rows → fallback J P ≡ fallen.NoPlan item Q → F ≡ opened_on J Q → IsTaken E B F (NoPlan item)
left_by E F B J P Q item inst rows fell opened =
    taken_left E F B item
    (fell_on E B J P inst rows ∙ fell ∙ ap (fallen.NoPlan item) (sym (ap (λ (G : Evaluated). G.rows) opened)))
    (ap (λ (G : Evaluated). G.inst) opened ∙ inst)
    (ap (λ (G : Evaluated). G.past) opened)
