use Rattle.std.proofs.Common.{◌≡◌, ◌≤◌, take}
use Rattle.std.specs.Prelude.{Some}
use Rattle.std.specs.List.{All}
use Rattle.desk_data.specs.declared.info.Maint.{Maint}
use Rattle.desk_data.specs.Situation.{plane_at, spans}
use Rattle.near_dear.proofs.times.free_from.Given as goal

-- the spans so far are over
abbrev pub invariant-loop-span : goal.invariant-loop-span
invariant-loop-span l = record {
  maintenance : (maint : Maint) → (plane_at l.inst l.fn.plane.0).maint ≡ Some maint → maint.to.0 ≤ l.from;
  service : All (λ span. span.1.0 ≤ l.from) (take l.span-index (spans l.inst l.fn.plane.0));
}
