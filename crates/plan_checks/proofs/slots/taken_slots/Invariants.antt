use Rattle.std.proofs.Common.{◌≡◌}
use Rattle.std.specs.List.{All}
use Rattle.hour_counts.specs.Slots.{IsSlot}
use Rattle.plan_checks.specs.TakenSlots.{slots}
use Rattle.plan_checks.proofs.slots.taken_slots.Given as goal

abbrev pub invariant-loop-x : goal.invariant-loop-x
invariant-loop-x l = record {
  taken : l.taken.items ≡ slots l.inst l.plan l.movement l.x;
  ranges : All (IsSlot l.inst) l.taken.items;
}
