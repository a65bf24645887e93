use Rattle.std.proofs.Common.{◌≡◌, ◌+◌, ◌≤◌, drop, length}
use Rattle.desk_text.specs.Lines.{fields}
use Rattle.desk_text.proofs.CountLemmas.{beginnings}
use Rattle.desk_text.proofs.fields.count_fields.Given as goal

-- those that were counted, and those that begin in what is left
abbrev pub invariant-loop-byte : goal.invariant-loop-byte
invariant-loop-byte l = record { sum : l.count + beginnings l.inside (drop l.byte-index l.line) ≡ length (fields l.line); room : l.count ≤ l.byte-index }
