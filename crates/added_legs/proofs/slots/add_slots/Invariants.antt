use Rattle.std.proofs.Common.{◌≡◌, ◌++◌}
use Rattle.std.specs.List.{All}
use Rattle.added_legs.specs.Hours.{IsTaken, extra_slots}
use Rattle.added_legs.proofs.slots.add_slots.Given as goal

abbrev pub invariant-loop-p : goal.invariant-loop-p
invariant-loop-p l = record {
  taken : l.taken.items ≡ l.initial.taken.items ++ extra_slots l.inst l.movement l.flights l.p;
  ranges : All (IsTaken l.inst l.movement) l.taken.items;
}
