use Rattle.std.proofs.Common.{◌≡◌, ◌++◌, take}
use Rattle.output_texts.specs.Quoting.{doubled}
use Rattle.output_texts.proofs.quoting.push_doubled.Given as goal

abbrev pub invariant-loop-byte : goal.invariant-loop-byte
invariant-loop-byte l = l.text.items ≡ l.initial.text.items ++ doubled (take l.byte-index l.field)
