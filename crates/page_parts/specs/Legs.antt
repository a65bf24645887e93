-- What changed of the legs from one plan to another.
use Rattle.std.specs.Prelude.{ℕ, ◌-◌, Bool, true, false, not, ◌&&◌, ◌==◌, nat_lt, if◌then◌else◌, List, [], ◌∷◌}
use Rattle.std.specs.List.{flat_map}
use Rattle.desk_data.specs.declared.row.Row.{Row}
use Rattle.desk_data.specs.declared.row.Row.TheVariants.{Flown, Cancelled}
use Rattle.desk_data.specs.PlanRows.{PlanRows, row_at}
use Rattle.desk_rules.specs.Numbers.{numbers}
use Rattle.page_parts.specs.declared.leg_changes.Shift.{Shift}
use Rattle.page_parts.specs.declared.leg_changes.Shift.TheVariants as shift_is
use Rattle.page_parts.specs.declared.leg_changes.LegChange.{LegChange}
use Rattle.page_parts.specs.declared.leg_changes.LegChange.TheVariants as change
use Rattle.page_parts.specs.declared.leg_changes.ChangedLeg.{ChangedLeg}

-- by how many minutes a departure is earlier or later than it was
abbrev pub shift : ℕ → ℕ → Shift
shift was now = if nat_lt now was then shift_is.Earlier (was - now) else (if nat_lt was now then shift_is.Later (now - was) else shift_is.Same)

-- two rows are the same: both cancelled, or flown by one aircraft at one moment
abbrev pub same_row : Row → Row → Bool
same_row (Flown plane dep) (Flown other at) = plane.0 == other.0 && dep.0 == at.0
same_row (Flown plane dep) Cancelled = false
same_row Cancelled (Flown other at) = false
same_row Cancelled Cancelled = true

-- what became of a leg whose row was this
abbrev pub leg_change : Row → Row → LegChange
leg_change (Flown plane dep) (Flown other at) = change.Moved (shift dep.0 at.0) (not (plane.0 == other.0))
leg_change (Flown plane dep) Cancelled = change.Cancelled
leg_change Cancelled row = change.Restored

-- leg x, if its row is another one
abbrev pub changed_leg : PlanRows → PlanRows → ℕ → List ChangedLeg
changed_leg P Q x =
    if same_row (row_at P x) (row_at Q x) then []
    else (let one : ChangedLeg = record { leg = record { 0 = x }; change = leg_change (row_at P x) (row_at Q x) } in one ∷ [])

-- of the first n legs those with another row, in order
abbrev pub changed_legs : PlanRows → PlanRows → ℕ → List ChangedLeg
changed_legs P Q n = flat_map (changed_leg P Q) (numbers n)
