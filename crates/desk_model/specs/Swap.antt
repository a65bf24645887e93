-- Swap: two aircraft fly each other's legs from a moment on.
use Rattle.std.specs.Prelude.{◌≡◌, ℕ, ◌<◌, ◌≤◌, nat_le, ◌==◌, if◌then◌else◌, map}
use Rattle.desk_data.specs.declared.row.Row.{Row}
use Rattle.desk_data.specs.declared.row.Row.TheVariants.{Flown, Cancelled}
use Rattle.desk_data.specs.PlanRows.{PlanRows, row_at}
use Rattle.desk_rules.specs.Words.{Flies}

-- of two aircraft the one that another is not; a third is itself
abbrev pub other_plane : ℕ → ℕ → ℕ → ℕ
other_plane p q plane = if plane == p then q else (if plane == q then p else plane)

-- the row of a leg: where it departs at the moment or after it, it goes from one of the two aircraft to the other, at its time
abbrev pub row_after_swap : ℕ → ℕ → ℕ → Row → Row
row_after_swap p q at (Flown plane dep) = if nat_le at dep.0 then Flown (record { 0 = other_plane p q plane.0 }) dep else Flown plane dep
row_after_swap p q at Cancelled = Cancelled

-- Swap: each row by itself, as it stands at the step's start
unfoldable pub after_swap : PlanRows → ℕ → ℕ → ℕ → PlanRows
after_swap P p q at = record P { rows = map (row_after_swap p q at) P.rows }

-- what becomes of leg x, of plan P before the step and plan Q after it
pub record SwapsLeg (P Q : PlanRows) (p q at x : ℕ) : Type 0 where
  -- a leg of either aircraft that departs at the moment or after it goes to the other, at its time
  pub first : (d : ℕ) → Flies P x p d → at ≤ d → Flies Q x q d
  pub second : (d : ℕ) → Flies P x q d → at ≤ d → Flies Q x p d
  -- a leg that departs before it stays, as one of a third aircraft does, and one that is cancelled
  pub earlier : (plane d : ℕ) → Flies P x plane d → d < at → row_at Q x ≡ row_at P x
  pub third : (plane d : ℕ) → Flies P x plane d → (plane ≡ p → ⊥) → (plane ≡ q → ⊥) → row_at Q x ≡ row_at P x
  pub cancelled : row_at P x ≡ Cancelled → row_at Q x ≡ Cancelled
