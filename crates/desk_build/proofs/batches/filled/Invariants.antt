use Rattle.std.proofs.Common.{take}
use Rattle.desk_build.proofs.FilledLemmas.{AreFilled}
use Rattle.desk_build.proofs.batches.filled.Given as goal

-- the batches that the rows so far fill
abbrev pub invariant-loop-fed : goal.invariant-loop-fed
invariant-loop-fed l = AreFilled l.tables.files.now (take l.fed-index l.rows) l.number l.done.items l.batch
