use Rattle.std.proofs.Common.{◌≡◌}
use Rattle.desk_core.specs.Recorded.{state_of}
use Rattle.desk_pool.specs.Finders.{IsFinderOf}
use Rattle.recovery_commands.specs.Ending.{after_steps}
use Rattle.recovery_commands.proofs.descent.descend.Given as goal

-- so many steps were taken, and what was noted is of the day
abbrev pub invariant-loop : goal.invariant-loop
invariant-loop g l = record {
  steps : l.book ≡ after_steps l.counter l.most l.fn.book;
  finder : IsFinderOf (state_of l.fn.book).inst l.search.finder;
}
