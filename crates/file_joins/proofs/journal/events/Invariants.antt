use Rattle.std.proofs.Common.{◌≡◌, [], take, drop}
use Rattle.file_joins.specs.Join.{all_after, asked_of, batches_in}
use Rattle.file_joins.proofs.AllOf.{prepended}
use Rattle.file_joins.proofs.journal.events.Given as goal

-- the batch that is due is the number of batches so far, and the events so far, with those that are left after them, are the events of all
abbrev pub invariant-loop-row : goal.invariant-loop-row
invariant-loop-row l = record {
  count : l.due ≡ batches_in (take l.row-index l.rows);
  joined : prepended l.events.items (all_after (asked_of l.names l.batches) (take l.row-index l.rows) (drop l.row-index l.rows)) ≡ all_after (asked_of l.names l.batches) [] l.rows;
}
