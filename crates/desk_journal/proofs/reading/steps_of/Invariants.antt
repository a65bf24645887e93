use Rattle.std.proofs.Common.{◌≡◌, ◌-◌}
use Rattle.desk_journal.specs.Reading.{many, behind_front, step_at}
use Rattle.desk_journal.proofs.reading.steps_of.Given as goal

abbrev pub invariant-loop : goal.invariant-loop
invariant-loop l = behind_front l.steps.items (many step_at (l.count - l.counter) l.rest) ≡ many step_at l.count l.bytes
