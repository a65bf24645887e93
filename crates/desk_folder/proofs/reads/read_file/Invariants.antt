use Rattle.std.proofs.Common.{◌-◌, ◌+◌, ◌<◌, ◌≤◌, vec_len}
use Rattle.std.specs.Io.KnownBytes.{Consumes}
use Rattle.desk_folder.specs.Outside.{ReadsOnly}
use Rattle.desk_folder.proofs.reads.read_file.Given as goal

-- the bytes so far are those that the file has lost, and within the limit, and no fewer than turns were taken
abbrev pub invariant-loop-piece : goal.invariant-loop-piece
invariant-loop-piece g l = let before = g.F.Folder.outside l.initial.folder in let now = g.F.Folder.outside l.folder in record {
  bytes : Consumes (before.left l.file) (now.left l.file) l.bytes.items;
  fits : vec_len l.bytes ≤ l.limit;
  room : 0 < vec_len l.piece;
  kept : before.next_faults l.file ≤ now.next_faults l.file;
  turns : now.turns l.file ≤ before.turns l.file + vec_len l.bytes;
  others : ReadsOnly l.file before now;
}

-- the room that is left below the limit
abbrev pub decreases-loop-piece : goal.decreases-loop-piece
decreases-loop-piece g l = l.limit + 1 - vec_len l.bytes
