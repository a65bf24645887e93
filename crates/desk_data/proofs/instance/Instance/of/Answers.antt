use Rattle.std.specs.Arc.{arc_value}
use Rattle.desk_data.proofs.WholeLemmas.{whole_fresh}
use Rattle.desk_data.proofs.instance.Instance.of.Goals as goal

pub invariant_of-result : goal.invariant_of-result
invariant_of-result c =
    rw (c.in_ok-parts.ensures.ok, c.in_ok-news.ensures.ok, c.in_ok-left.ensures.ok)
    (whole_fresh c.args.parts c.in_ok-of-2.field-0 c.in_ok-of-3.field-0 (arc_value c.in_ok-prices.prices) (arc_value c.in_ok-bookings.bookings) c.requires c.in_ok-of-2.ensures.orders c.in_ok-of-2.ensures.kept c.in_ok-of-3.ensures.progress c.in_ok-of-3.ensures.kept (rw c.in_ok-prices.ensures.ok c.in_ok-of.ensures) (rw c.in_ok-bookings.ensures.ok c.in_ok-bookings_of.ensures))
