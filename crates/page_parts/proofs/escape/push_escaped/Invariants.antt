use Rattle.std.proofs.Common.{◌≡◌, ◌++◌, take}
use Rattle.page_parts.specs.Escaped.{escaped}
use Rattle.page_parts.proofs.escape.push_escaped.Given as goal

-- the bytes so far, as they stand on a page
abbrev pub invariant-loop-byte : goal.invariant-loop-byte
invariant-loop-byte l = l.out.items ≡ l.initial.out.items ++ escaped (take l.byte-index l.bytes)
