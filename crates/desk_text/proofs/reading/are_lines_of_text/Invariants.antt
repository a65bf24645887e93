use Rattle.std.proofs.Common.{◌≡◌, ◌||◌, eqb, take}
use Rattle.std.specs.List.{list_all}
use Rattle.desk_text.specs.Lines.{is_text}
use Rattle.desk_text.proofs.reading.are_lines_of_text.Given as goal

-- the bytes so far
abbrev pub invariant-loop-byte : goal.invariant-loop-byte
invariant-loop-byte l = l.fit ≡ list_all (λ byte. is_text byte || eqb byte 10) (take l.byte-index l.bytes)
