-- What steps and moves make of a plan. A step that finds nothing to do leaves the plan as it is.
use Rattle.std.specs.Prelude.{◌≡◌, ℕ, ◌<◌, if◌then◌else◌, List, [], ◌∷◌, length}
use Rattle.desk_data.specs.declared.row.Row.{Row}
use Rattle.plan_moves.specs.declared.moves.Step.{Step}
use Rattle.plan_moves.specs.declared.moves.Step.TheVariants.{Set, Push, Swap, Rebook, Tidy, Refill}
use Rattle.plan_moves.specs.declared.moves.Move.{Move}
use Rattle.desk_data.specs.Situation.{Situation}
use Rattle.desk_data.specs.PlanRows.{PlanRows, row_at, with_row}
use Rattle.desk_rules.specs.Rows.{is_row}
use Rattle.desk_model.specs.Push.{after_push}
use Rattle.desk_model.specs.Swap.{after_swap}
use Rattle.desk_model.specs.Rebook.{after_rebook}
use Rattle.desk_model.specs.Tidy.{after_tidy}
use Rattle.desk_model.specs.Refill.{after_refill}

-- Set: where the row of leg x is `was` it becomes `new`
abbrev pub after_set : PlanRows → ℕ → Row → Row → PlanRows
after_set P x was new = if is_row (row_at P x) was then with_row P x new else P

-- what a Set makes of plan P: where the row of leg x is `was`, plan Q has `new` there, and every other leg keeps its row; else nothing changes. No passenger is moved
pub record SetsLeg (P Q : PlanRows) (x : ℕ) (was new : Row) : Type 0 where
  pub becomes : x < length P.rows → row_at P x ≡ was → row_at Q x ≡ new
  pub others : (y : ℕ) → (y ≡ x → ⊥) → row_at Q y ≡ row_at P y
  pub groups : Q.groups ≡ P.groups
  pub nothing : (row_at P x ≡ was → ⊥) → Q ≡ P

-- each kind of step is defined in a file of its own
unfoldable pub after_step : Situation → PlanRows → Step → PlanRows
after_step I P (Set leg was new) = after_set P leg.0 was new
after_step I P (Push plane after) = after_push I P plane.0 after
after_step I P (Swap first second at) = after_swap P first.0 second.0 at.0
after_step I P (Rebook res path to count) = after_rebook P res.0 path to count
after_step I P Tidy = after_tidy I P
after_step I P (Refill leg) = after_refill I P leg.0

-- steps are taken in order
abbrev pub after_steps : Situation → PlanRows → List Step → PlanRows
after_steps I P [] = P
after_steps I P (step ∷ steps) = after_steps I (after_step I P step) steps

unfoldable pub after_move : Situation → PlanRows → Move → PlanRows
after_move I P m = after_steps I P m.steps
