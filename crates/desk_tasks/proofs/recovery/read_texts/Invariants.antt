use Rattle.std.proofs.Common.{drop}
use Rattle.desk_folder.specs.Entries.{named_texts}
use Rattle.desk_tasks.specs.Facts.{as_rows}
use Rattle.desk_tasks.proofs.RecoveryLaws.{Continues}
use Rattle.desk_tasks.proofs.recovery.read_texts.Given as goal

abbrev pub invariant-loop-named : goal.invariant-loop-named
invariant-loop-named l = Continues l.rows (named_texts (drop l.named-index l.texts)) (as_rows l.fn.rows) (named_texts l.texts)
