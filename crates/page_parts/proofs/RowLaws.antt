-- Rows that are the same are one.
use Rattle.std.proofs.Common.{◌≡◌, true, refl, arith}
use Rattle.desk_data.specs.declared.row.Row.{Row}
use Rattle.desk_data.specs.declared.row.Row.TheVariants.{Flown, Cancelled}
use Rattle.page_parts.specs.Legs.{same_row}

pub same_row-itself : (row : Row) → same_row row row ≡ true
same_row-itself (Flown plane dep) = grind arith
same_row-itself Cancelled = refl

pub same_row-one : (row other : Row) → same_row row other ≡ true → row ≡ other
same_row-one (Flown plane dep) (Flown other at) same = grind arith
same_row-one (Flown plane dep) Cancelled same = absurd (cc)
same_row-one Cancelled (Flown other at) same = absurd (cc)
same_row-one Cancelled Cancelled same = refl
