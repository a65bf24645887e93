use Rattle.std.proofs.Common.{◌≡◌, ◌+◌, ◌<◌, ◌^◌, length}
use Rattle.desk_text.specs.Lines.{lines_from}
use Rattle.desk_text.proofs.reading.next_line.Given as goal

-- the lines that are left are all
abbrev pub invariant-loop-rest : goal.invariant-loop-rest
invariant-loop-rest l = record {
  same : lines_from (l.passed + 1) l.rest ≡ lines_from (l.fn.passed + 1) l.bytes;
  room : l.passed + length l.rest < 2 ^ 32;
}

abbrev pub decreases-loop-rest : goal.decreases-loop-rest
decreases-loop-rest l = length l.rest
