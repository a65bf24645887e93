use Rattle.desk_tasks.specs.Paths.{KeepPaths}
use Rattle.desk_tasks.proofs.paths.are_paths_kept.Given as goal

abbrev pub invariant-loop-r : goal.invariant-loop-r
invariant-loop-r l = KeepPaths l.inst l.plan l.from l.r
