use Rattle.std.proofs.Common.{◌≡◌, ◌++◌, take, All}
use Rattle.std.specs.List.{flat_map}
use Rattle.std.specs.String.{string_bytes}
use Rattle.desk_words.specs.Shown.{IsShown, shown_byte}
use Rattle.desk_words.proofs.shown.push_bytes.Given as goal

abbrev pub invariant-loop-byte : goal.invariant-loop-byte
invariant-loop-byte l = record {
  text : string_bytes l.text ≡ string_bytes l.initial.text ++ flat_map shown_byte (take l.byte-index l.bytes);
  shown : All IsShown (string_bytes l.initial.text) → All IsShown (string_bytes l.text);
}
