-- What comes after the input was read.
use Rattle.std.specs.Prelude.{◌≤◌, ◌⊎◌, ◌≡◌, List, []}
use Rattle.desk_folder.specs.declared.files.File.{File}
use Rattle.desk_folder.specs.Outputs.{WritesAmong}
use Rattle.desk_tasks.specs.declared.ending.Ending.{Ending}
use Rattle.desk_tasks.specs.declared.ending.Ending.TheVariants as ending
use Rattle.desk_tasks.specs.Outcome.{Outcome}
use Rattle.desk_tasks.specs.Runs.{World, HasCause, IsUnreported, IsWritten, Stops, StopsIn, StopsInReport}

-- what was written of an outcome, by the ending
abbrev pub Leaves : World → World → Outcome → Ending → Type 0
Leaves before now o ending.Done = (o.status ≡ 0) × IsWritten before now o.texts
Leaves before now o ending.NoPlan = (o.status ≡ 1) × IsWritten before now o.texts
Leaves before now o ending.BrokenRule = (o.status ≡ 7) × IsWritten before now o.texts
Leaves before now o (ending.WriteFault f) = StopsIn f before now o.texts
Leaves before now o ending.ReportFault = StopsInReport before now o.texts
Leaves before now o ending.Memory = IsUnreported before now ⊎ Stops before now o.texts
Leaves before now o other = ⊥

-- a task is done, and what it comes to is written, into these files alone
pub record Completes (files : List File) (before now : World) (o : Outcome) (how : Ending) : Type 0 where
  pub leaves : Leaves before now o how
  pub cause : HasCause [] files before now how
  pub only : WritesAmong files before.folder now.folder
  pub kept : before.sink.faults ≤ now.sink.faults

-- a run that wrote all of an outcome ends so, by its status
abbrev pub IsEndOf : Outcome → Ending → Type 0
IsEndOf o ending.Done = o.status ≡ 0
IsEndOf o ending.NoPlan = o.status ≡ 1
IsEndOf o ending.BrokenRule = o.status ≡ 7
IsEndOf o other = ⊥
