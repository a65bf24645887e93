use Rattle.std.proofs.Common.{length, take, ◌-◌, ◌≤◌}
use Rattle.std.specs.Io.KnownBytes.{Appends}
use Rattle.desk_folder.proofs.puts.put_report.Given as goal

-- what is put so far is the text up to `at`
abbrev pub invariant-loop-at : goal.invariant-loop-at
invariant-loop-at g l = let before = g.O.Sink.report l.initial.sink in let now = g.O.Sink.report l.sink in record {
  within : l.at ≤ length l.text;
  bytes : Appends before.written now.written (take l.at l.text);
  kept : before.faults ≤ now.faults;
}

abbrev pub decreases-loop-at : goal.decreases-loop-at
decreases-loop-at g l = length l.text - l.at
