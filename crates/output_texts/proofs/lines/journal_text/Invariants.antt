use Rattle.std.proofs.Common.{◌≡◌, ◌≤◌, take}
use Rattle.std.specs.List.{enumerate_from, flat_map}
use Rattle.output_texts.specs.Lines.{batches, line_at}
use Rattle.output_texts.proofs.lines.journal_text.Given as goal

abbrev pub invariant-loop-entry : goal.invariant-loop-entry
invariant-loop-entry l = record {
  lines : l.text.items ≡ flat_map (line_at l.inst l.entries) (enumerate_from 0 (take l.entry-index l.entries));
  number : l.batches ≡ batches (take l.entry-index l.entries);
  few : l.batches ≤ l.entry-index;
}
