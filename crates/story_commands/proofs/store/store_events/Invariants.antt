use Rattle.std.proofs.Common.{◌≡◌, ◌≤◌, List, ℕ, ◌++◌, drop, length}
use Rattle.std.specs.Prelude.{None, Some}
use Rattle.desk_disk.specs.FileStates.{DiskSide}
use Rattle.desk_disk.specs.Files.{IsAtRest, IsReady}
use Rattle.story_commands.proofs.RunLaws.{Continues}
use Rattle.desk_journal.specs.Payloads.{asked_in, batches_among}
use Rattle.story_commands.specs.Added.{all_entries, lacking}
use Rattle.story_commands.proofs.Storing.{Stands}
use Rattle.story_commands.proofs.store.store_events.Given as goal

abbrev pub invariant-loop-asked : goal.invariant-loop-asked
invariant-loop-asked g l =
    let shown = g.D.Disk.shown in
    record {
      goes : Continues l.fn.book.opening l.book (drop l.asked-index l.events) (all_entries l.fn.book l.events);
      longer : length l.fn.book.journal ≤ length l.book.journal;
      count : l.number ≡ batches_among (asked_in l.book.journal);
      few : l.number ≤ length l.book.journal;
      stands : (was : DiskSide) → shown l.fn.disk ≡ Some was → (records : List (List ℕ)) → IsAtRest records l.fn.tail was.file → Stands was (shown l.disk) records (records ++ lacking l.fn.book l.events) (length l.fn.book.journal) l.book.journal l.tail;
      ready : IsReady (shown l.disk) l.tail;
      kept : g.D.Disk.faults l.fn.disk ≤ g.D.Disk.faults l.disk;
      unshown : shown l.fn.disk ≡ None → shown l.disk ≡ None;
      directory : g.D.Disk.directory l.disk ≡ g.D.Disk.directory l.fn.disk;
    }
