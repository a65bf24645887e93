use Rattle.std.proofs.Common.{◌≡◌, ◌-◌}
use Rattle.desk_journal.specs.Reading.{many, behind_front, pair_at}
use Rattle.desk_journal.proofs.reading.pairs_of.Given as goal

abbrev pub invariant-loop : goal.invariant-loop
invariant-loop l = behind_front l.pairs.items (many pair_at (l.count - l.counter) l.rest) ≡ many pair_at l.count l.bytes
