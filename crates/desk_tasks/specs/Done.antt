-- When a task is done, with whatever work.
use Rattle.std.specs.Prelude.{◌≡◌, ◌⊎◌}
use Rattle.desk_tasks.specs.declared.ending.Ending.{Ending}
use Rattle.desk_tasks.specs.declared.ending.Ending.TheVariants as ending
use Rattle.desk_tasks.specs.Runs.{World}
use Rattle.desk_tasks.specs.Finishing.{Completes}
use Rattle.desk_tasks.specs.Team.{Work}
use Rattle.desk_tasks.specs.Tasks.{Task, IsWorkOf, outcome_at, files_for}

-- a run made a work of the task, and what that comes to is written, up to how it ended
pub record IsDoneWith (before now : World) (t : Task) (how : Ending) : Type 0 where
  pub work : Work
  pub is : IsWorkOf t work
  pub completes : Completes (files_for t) before now (outcome_at work t) how

-- or memory ran out before anything was written
abbrev pub IsDoneSomehow : World → World → Task → Ending → Type 0
IsDoneSomehow before now t how = ((how ≡ ending.Memory) × (now ≡ before)) ⊎ IsDoneWith before now t how
