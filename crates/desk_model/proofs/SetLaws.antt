-- What Set does.
use Rattle.std.proofs.Common.{◌≡◌, ℕ, ◌<◌, Bool, true, false, cond, length, refl, sym, subst, ◌∙◌}
use Rattle.std.proofs.lemmas.Bool.{true≢false}
use Rattle.std.proofs.lemmas.List.{get_or-set_same, get_or-set_other}
use Rattle.desk_data.specs.declared.row.Row.{Row}
use Rattle.desk_data.specs.declared.row.Row.TheVariants.{Cancelled}
use Rattle.desk_data.specs.PlanRows.{PlanRows, row_at, with_row}
use Rattle.desk_rules.specs.Rows.{is_row}
use Rattle.desk_rules.proofs.LegLaws.{is_row-holds, is_row-from}
use Rattle.desk_model.specs.Steps.{after_set, SetsLeg}

-- another row for leg x leaves the other legs
pub with_row-same : (P : PlanRows) (x : ℕ) (row : Row) → x < length P.rows → row_at (with_row P x row) x ≡ row
with_row-same P x row within = get_or-set_same P.rows x row Cancelled within

pub with_row-other : (P : PlanRows) (x y : ℕ) (row : Row) → (y ≡ x → ⊥) → row_at (with_row P x row) y ≡ row_at P y
with_row-other P x y row other = get_or-set_other P.rows x y row Cancelled other

sets_by : (P : PlanRows) (x : ℕ) (was new : Row) (b : Bool) → is_row (row_at P x) was ≡ b → SetsLeg P (cond b (with_row P x new) P) x was new
sets_by P x was new true is = record {
  becomes = λ within here. with_row-same P x new within;
  others = λ y other. with_row-other P x y new other;
  groups = refl;
  nothing = λ different. absurd (different (sym (is_row-holds (row_at P x) was is)));
}
sets_by P x was new false is = record {
  becomes = λ within here. absurd (true≢false (sym (subst (λ (row : Row). is_row (row_at P x) row ≡ true) here (is_row-from (row_at P x))) ∙ is));
  others = λ y other. refl;
  groups = refl;
  nothing = λ different. refl;
}

pub after_set-sets : (P : PlanRows) (x : ℕ) (was new : Row) → SetsLeg P (after_set P x was new) x was new
after_set-sets P x was new = sets_by P x was new (is_row (row_at P x) was) refl
