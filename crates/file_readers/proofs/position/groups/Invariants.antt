use Rattle.std.proofs.Common.{◌≡◌, length}
use Rattle.std.specs.Prelude.{All}
use Rattle.file_readers.specs.Position.{groups_of}
use Rattle.file_rows.specs.Facts.{IsGroup}
use Rattle.file_readers.proofs.GroupLemmas.{prepended}
use Rattle.file_readers.proofs.position.groups.Given as goal

-- the groups so far, and those of the fields that are left after them, are the groups of all
abbrev pub invariant-loop-groups : goal.invariant-loop-groups
invariant-loop-groups l = record {
  read : prepended l.groups.items (groups_of l.fields) ≡ groups_of l.fn.fields;
  facts : All IsGroup l.groups.items;
}

abbrev pub decreases-loop-groups : goal.decreases-loop-groups
decreases-loop-groups l = length l.fields
