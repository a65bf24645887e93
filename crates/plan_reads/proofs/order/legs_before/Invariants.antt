use Rattle.std.proofs.Common.{◌≡◌, ℕ, ◌<◌, length, get_or}
use Rattle.std.specs.Prelude.{None}
use Rattle.desk_data.specs.declared.row.Row.TheVariants.{Cancelled}
use Rattle.plan_reads.specs.Before.{IsLegBefore}
use Rattle.plan_reads.specs.Order.{rotation_leg_at}
use Rattle.plan_reads.proofs.order.legs_before.Given as goal

abbrev pub invariant-loop-k : goal.invariant-loop-k
invariant-loop-k g l = (let rows = (g.P.ReadPlan.plan_of l.plan).rows in record {
  legs : length l.before.items ≡ length rows;
  right : (j : ℕ) → j < l.k → IsLegBefore rows (length rows) (rotation_leg_at l.flown.items j).at.leg.0 (get_or l.before.items (rotation_leg_at l.flown.items j).at.leg.0 None);
  blank : (y : ℕ) → y < length rows → get_or rows y Cancelled ≡ Cancelled → get_or l.before.items y None ≡ None;
})
