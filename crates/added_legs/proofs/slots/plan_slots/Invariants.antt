use Rattle.std.proofs.Common.{◌≡◌}
use Rattle.std.specs.List.{All}
use Rattle.plan_checks.specs.TakenSlots.{slots}
use Rattle.added_legs.specs.Hours.{IsTaken}
use Rattle.added_legs.proofs.slots.plan_slots.Given as goal

abbrev pub invariant-loop-x : goal.invariant-loop-x
invariant-loop-x l = record {
  taken : l.taken.items ≡ slots l.inst l.plan l.movement l.x;
  ranges : All (IsTaken l.inst l.movement) l.taken.items;
}
