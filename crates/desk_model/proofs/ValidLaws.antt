-- Plans stay plans for their instance.
use Rattle.std.proofs.Common.{ℕ, ◌<◌, Bool, true, false, cond, ◌∙◌, arith}
use Rattle.std.proofs.lemmas.List.{length-set}
use Rattle.std.proofs.lemmas.List.Elements.{All-set, All-get_or}
use Rattle.desk_data.specs.declared.row.Row.{Row}
use Rattle.desk_data.specs.declared.row.Row.TheVariants.{Flown, Cancelled}
use Rattle.desk_data.specs.Situation.{Situation, legs_of, planes_of}
use Rattle.desk_data.specs.PlanRows.{PlanRows, IsRow, row_at, with_row}
use Rattle.desk_data.specs.Valid.{IsRowOf, IsPlanFor}
use Rattle.desk_rules.specs.Rows.{is_row}
use Rattle.desk_model.specs.Steps.{after_set}

pub row_is_sound : (planes : ℕ) (row : Row) → IsRowOf planes row → IsRow row
row_is_sound planes (Flown plane dep) h = h.1
row_is_sound planes Cancelled h = tt

-- a plan for the instance has a row for each leg
pub row_of_plan : (I : Situation) (P : PlanRows) (x : ℕ) → x < legs_of I → IsPlanFor I P → IsRowOf (planes_of I) (row_at P x)
row_of_plan I P x within plan = All-get_or (IsRowOf (planes_of I)) P.rows x Cancelled (let legs = plan.legs in omega (arith, legs, within)) plan.rows

pub with_row-valid : (I : Situation) (P : PlanRows) (x : ℕ) (row : Row) → IsRowOf (planes_of I) row → IsPlanFor I P → IsPlanFor I (with_row P x row)
with_row-valid I P x row fits h = record {
  sound = record { rows = All-set IsRow P.rows x row (row_is_sound (planes_of I) row fits) h.sound.rows; groups = h.sound.groups };
  legs = length-set P.rows x row ∙ h.legs;
  res = h.res;
  rows = All-set (IsRowOf (planes_of I)) P.rows x row fits h.rows;
  groups = h.groups;
}

cond_valid : (I : Situation) (b : Bool) (P Q : PlanRows) → IsPlanFor I P → IsPlanFor I Q → IsPlanFor I (cond b P Q)
cond_valid I true P Q p q = p
cond_valid I false P Q p q = q

pub after_set-valid : (I : Situation) (P : PlanRows) (x : ℕ) (was new : Row) → IsRowOf (planes_of I) new → IsPlanFor I P → IsPlanFor I (after_set P x was new)
after_set-valid I P x was new fits h =
    cond_valid I (is_row (row_at P x) was) (with_row P x new) P (with_row-valid I P x new fits h) h
