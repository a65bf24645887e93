use Rattle.std.proofs.Common.{◌≡◌, ◌+◌, ◌*◌, length}
use Rattle.std.specs.Prelude.{All}
use Rattle.file_readers.specs.Airports.{caps_of}
use Rattle.file_rows.specs.Facts.{IsCap}
use Rattle.file_readers.proofs.CapLemmas.{prepended}
use Rattle.file_readers.proofs.airports.caps.Given as goal

-- the caps so far, and those of the fields that are left after them, are the caps of all
abbrev pub invariant-loop-caps : goal.invariant-loop-caps
invariant-loop-caps l = record {
  read : prepended l.caps.items (caps_of l.fields) ≡ caps_of l.fn.fields;
  size : 4 * length l.caps.items + length l.fields ≡ length l.fn.fields;
  facts : All IsCap l.caps.items;
}

abbrev pub decreases-loop-caps : goal.decreases-loop-caps
decreases-loop-caps l = length l.fields
