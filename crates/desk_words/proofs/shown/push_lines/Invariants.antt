use Rattle.std.proofs.Common.{◌≡◌, ◌++◌, take, All}
use Rattle.std.specs.List.{flat_map}
use Rattle.std.specs.String.{string_bytes}
use Rattle.desk_words.specs.Shown.{IsShown, shown_line}
use Rattle.desk_words.proofs.shown.push_lines.Given as goal

abbrev pub invariant-loop-line : goal.invariant-loop-line
invariant-loop-line l = record {
  text : string_bytes l.text ≡ string_bytes l.initial.text ++ flat_map (λ line. shown_line line.now) (take l.line-index l.lines);
  shown : All IsShown (string_bytes l.initial.text) → All IsShown (string_bytes l.text);
}
