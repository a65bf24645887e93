use Rattle.std.proofs.Common.{◌≡◌}
use mathlib.Core.List.{IsPrefix}
use Rattle.turn_book.specs.Passes.{first_book, known, seen, tags, IsPassOf}
use Rattle.desk_core.specs.Turned.{opening_of}
use Rattle.recovery_commands.specs.Taking.{TakesFirst}
use Rattle.recovery_commands.proofs.batches.take_batches.Given as goal

abbrev pub invariant-loop-batch : goal.invariant-loop-batch
invariant-loop-batch g l = record {
  of : IsPassOf opening_of l.turn l.pass;
  tags : tags l.pass ≡ tags l.initial.pass;
  began : IsPrefix (seen l.initial.pass) (seen l.pass);
  can : g.T.Telling.can l.telling (first_book l.turn) (seen l.pass);
  taken : TakesFirst l.batch-index l.batches (known l.initial.pass) (known l.pass);
}
