-- What a batch makes of a day.
use Rattle.std.proofs.Common.{◌≡◌, ℕ, ◌++◌, refl}
use Rattle.std.proofs.lemmas.List.Elements.{All-append, All-nil}
use Rattle.day_orders.specs.declared.orders.Batch.{Batch}
use Rattle.desk_data.specs.declared.parts.Parts.{Parts}
use Rattle.desk_data.specs.PlanRows.{PlanRows}
use Rattle.desk_data.specs.Progress.{moment_or_now, progress_at, with_batch}
use Rattle.desk_data.specs.Situation.{Situation, begun, fresh_day, now_of}
use Rattle.desk_data.specs.Valid.{AreParts, IsBatch, IsOrder, IsPlanFor, IsValid}
use Rattle.desk_data.proofs.ProgressLaws.{first_progress-valid, moment_or_now-le, progress_at-valid}

-- the rows stay
pub with_batch-parts : (I : Situation) (P : PlanRows) (B : Batch) → (with_batch I P B).parts ≡ I.parts
with_batch-parts I P B = refl

-- the batch's orders come after those taken before
pub with_batch-orders : (I : Situation) (P : PlanRows) (B : Batch) → (with_batch I P B).orders ≡ I.orders ++ B.orders
with_batch-orders I P B = refl

-- and the day has gone on to the batch's moment
pub with_batch-progress : (I : Situation) (P : PlanRows) (B : Batch) → (with_batch I P B).progress ≡ progress_at I P (moment_or_now (now_of I) B.at)
with_batch-progress I P B = refl

-- a day before any batch is valid, and so is a valid day with a batch
pub fresh_day-valid : (parts : Parts) → AreParts parts → IsValid (fresh_day parts)
fresh_day-valid parts are = record { parts = are; orders = All-nil (IsOrder parts); progress = first_progress-valid parts are }

pub with_batch-valid : (I : Situation) (P : PlanRows) (B : Batch) → IsValid I → IsPlanFor I P → IsBatch I.parts B → IsValid (with_batch I P B)
with_batch-valid I P B valid plan batch = record {
  parts = valid.parts;
  orders = All-append (IsOrder I.parts) I.orders B.orders valid.orders batch.orders;
  progress = progress_at-valid I P (moment_or_now (now_of I) B.at) valid plan (moment_or_now-le I.parts.from.0 (now_of I) B.at valid.progress.soon batch.at);
}

-- a plan for a day is one for any day of the same rows, and so for the day with a batch
pub plan-parts : (I J : Situation) (P : PlanRows) → J.parts ≡ I.parts → IsPlanFor I P → IsPlanFor J P
plan-parts I J P same plan = record {
  sound = plan.sound;
  legs = rw same plan.legs;
  res = rw same plan.res;
  rows = rw same plan.rows;
  groups = rw same plan.groups;
}

pub with_batch-plan : (I : Situation) (P Q : PlanRows) (B : Batch) → IsPlanFor I Q → IsPlanFor (with_batch I P B) Q
with_batch-plan I P Q B plan = plan-parts I (with_batch I P B) Q (with_batch-parts I P B) plan

-- what has begun stays as it is
pub with_batch-begun : (I : Situation) (P : PlanRows) (B : Batch) (r : ℕ) → begun (with_batch I P B) r ≡ begun I r
unfolding begun
with_batch-begun I P B r = refl
