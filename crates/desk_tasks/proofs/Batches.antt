-- A day takes one batch after another.
use Rattle.std.proofs.Common.{◌≡◌, ℕ, ◌+◌, ◌<◌, ◌≤◌, List, [], ◌∷◌, length, get_or, drop, refl, sym, ap, ◌∙◌, add-one, suc}
use Rattle.std.proofs.Math.Seq.{drop-cons}
use Rattle.std.proofs.Math.ListN.{drop_of_length-le}
use Rattle.day_orders.specs.declared.orders.Batch.{Batch}
use Rattle.desk_data.specs.Progress.{with_batch}
use Rattle.desk_data.specs.Situation.{Situation}
use Rattle.desk_data.specs.PlanRows.{PlanRows}
use Rattle.desk_data.proofs.BatchLaws.{with_batch-parts}
use Rattle.desk_tasks.specs.Judge.{with_batches}

-- the batches that are left, on the day as it is now, make the day with all of them; and its rows stay
pub record Continues (I J : Situation) (P : PlanRows) (left batches : List Batch) : Type 0 where
  pub parts : J.parts ≡ I.parts
  pub rest : with_batches J P left ≡ with_batches I P batches

pub continues-next : (I J K : Situation) (P : PlanRows) (B : Batch) (i : ℕ) (batches : List Batch) → i < length batches → B ≡ get_or batches i B → K ≡ with_batch J P B → Continues I J P (drop i batches) batches → Continues I K P (drop (i + 1) batches) batches
continues-next I J K P B i batches lt at is h =
    let left : drop i batches ≡ B ∷ drop (i + 1) batches = rw add-one (drop-cons batches i B lt ∙ ap (λ (x : Batch). x ∷ drop (suc i) batches) (sym at)) in
    record {
      parts = ap (λ (S : Situation). S.parts) is ∙ (with_batch-parts J P B ∙ h.parts);
      rest = ap (λ (S : Situation). with_batches S P (drop (i + 1) batches)) is ∙ ap (λ (bs : List Batch). with_batches J P bs) (sym left) ∙ h.rest;
    }

pub continues-end : (I J : Situation) (P : PlanRows) (i : ℕ) (batches : List Batch) → length batches ≤ i → Continues I J P (drop i batches) batches → J ≡ with_batches I P batches
continues-end I J P i batches le h = ap (λ (bs : List Batch). with_batches J P bs) (sym (drop_of_length-le batches le)) ∙ h.rest

pub batches-parts : (I : Situation) (P : PlanRows) (batches : List Batch) → (with_batches I P batches).parts ≡ I.parts
batches-parts I P [] = refl
batches-parts I P (B ∷ batches) = batches-parts (with_batch I P B) P batches ∙ with_batch-parts I P B
