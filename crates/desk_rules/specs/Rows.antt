-- The rows of legs.
use Rattle.std.specs.Prelude.{Bool, true, false, ◌&&◌, ◌==◌}
use Rattle.desk_data.specs.declared.row.Row.{Row}
use Rattle.desk_data.specs.declared.row.Row.TheVariants.{Flown, Cancelled}

-- whether two rows are the same
abbrev pub is_row : Row → Row → Bool
is_row (Flown plane dep) (Flown other later) = (plane.0 == other.0) && (dep.0 == later.0)
is_row Cancelled Cancelled = true
is_row (Flown plane dep) Cancelled = false
is_row Cancelled (Flown plane dep) = false
