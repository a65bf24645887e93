use Rattle.std.proofs.Common.{length, take, ◌-◌, ◌≤◌}
use Rattle.std.specs.Io.KnownBytes.{Appends}
use Rattle.desk_folder.specs.Outside.{WritesOnly}
use Rattle.desk_folder.proofs.puts.put_text.Given as goal

-- what is put so far is the text up to `at`
abbrev pub invariant-loop-at : goal.invariant-loop-at
invariant-loop-at g l = let before = g.F.Folder.outside l.initial.folder in let now = g.F.Folder.outside l.folder in record {
  within : l.at ≤ length l.text;
  bytes : Appends (before.written l.file) (now.written l.file) (take l.at l.text);
  kept : before.put_faults l.file ≤ now.put_faults l.file;
  others : WritesOnly l.file before now;
}

abbrev pub decreases-loop-at : goal.decreases-loop-at
decreases-loop-at g l = length l.text - l.at
