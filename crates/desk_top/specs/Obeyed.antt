-- What `store` does before the line that says why it was not done.
use Rattle.std.specs.Prelude.{◌≡◌, ◌⊎◌, Option}
use Rattle.desk_folder.specs.Outside.{Outside}
use Rattle.desk_disk.specs.FileStates.{DiskSide}
use Rattle.desk_words.specs.declared.asked.Command.TheVariants as command_is
use Rattle.desk_tasks.specs.declared.ending.Ending.{Ending}
use Rattle.desk_tasks.specs.declared.ending.Ending.TheVariants as ending
use Rattle.desk_tasks.specs.Runs.{World, world, IsUnreported, Obeys}
use Rattle.desk_tasks.proofs.Composed.{here, Prepares}
use Rattle.desk_tasks.specs.Keep.{KeptStory}
use Rattle.story_commands.specs.Journal.{KeepsStory}
use Rattle.desk_top.specs.Store.{kept_meaning}

-- how a run ends whose input sets no story
abbrev pub SetsNoStory : Ending → Type 0
SetsNoStory (ending.Refused r) = Unit {0}
SetsNoStory (ending.ReadFault f) = Unit {0}
SetsNoStory ending.Memory = Unit {0}
SetsNoStory other = ⊥

-- the input sets no story: the disk is not asked
pub record SetsNone (before now : World) (shown shown' : Option DiskSide) (how : Ending) : Type 0 where
  pub unread : SetsNoStory how
  pub obeys : Obeys (kept_meaning 0) (here command_is.Store) before now how
  pub unreported : IsUnreported before now
  pub same : shown' ≡ shown

-- it sets one, and that is kept
pub record SetsStory (before now : World) (shown shown' : Option DiskSide) (how : Ending) : Type 0 where
  pub k : KeptStory
  pub mid : Outside
  pub prepares : Prepares (kept_meaning 0) command_is.Store before.folder mid k
  pub keeps : KeepsStory k (world mid before.sink) now shown shown' how

abbrev pub ObeysStore : World → World → Option DiskSide → Option DiskSide → Ending → Type 0
ObeysStore before now shown shown' how = SetsNone before now shown shown' how ⊎ SetsStory before now shown shown' how
