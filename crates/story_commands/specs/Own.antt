-- Files that runs of a story left, one after another.
use Rattle.std.specs.Prelude.{◌≡◌, ◌≢◌, ℕ, ◌≤◌, List, ◌++◌, length}
use Rattle.day_orders.specs.declared.orders.Batch.{Batch}
use Rattle.desk_model.specs.declared.answer.Event.{Event}
use Rattle.desk_disk.specs.FileStates.{DiskSide}
use Rattle.desk_disk.specs.Crashes.{LeavesOnly}
use Rattle.desk_journal.specs.Payloads.{AreNext, asked_in}
use Rattle.desk_tasks.specs.declared.ending.DiskEnd.TheVariants as disk_end
use Rattle.desk_tasks.specs.declared.ending.Ending.{Ending}
use Rattle.desk_tasks.specs.declared.ending.Ending.TheVariants as ending
use Rattle.desk_tasks.specs.Play.{history}
use Rattle.desk_tasks.specs.Keep.{KeptStory}
use Rattle.story_commands.specs.Held.{entered, story_payloads, AreFirst}
use Rattle.story_commands.specs.Left.{HoldsBeginning}
use Rattle.story_commands.specs.Journal.{HoldsRecords}

-- the events of a story's history may stand one behind another in a journal of its day: its batches are those of the day in their
-- order, and its moves fit
abbrev pub CanBeStored : KeptStory → Type 0
CanBeStored k = AreNext k.story.day k.batches 0 (asked_in (history k.story))

-- a story's own file, with the first entries of its history, at least n of them: empty, or as runs of the story leave it, whatever
-- moments they were stopped at
abbrev pub IsOwn : KeptStory → ℕ → List ℕ → Type 0
IsOwn k n c = HoldsBeginning (story_payloads k.story) n c

-- the next run opens it, and finds at least n entries, which are the first of the history
pub record OpensFor (k : KeptStory) (n : ℕ) (c : List ℕ) : Type 0 where
  pub records : List (List ℕ)
  pub held : HoldsRecords k records c
  pub first : AreFirst records (story_payloads k.story)
  pub least : n ≤ length (entered records)

-- the day of a story with more events behind its own, and with more batches behind its own
pub record Extends (later k : KeptStory) : Type 0 where
  pub day : later.story.day ≡ k.story.day
  pub events : (more : List (ℕ × Event)) × (later.story.events ≡ k.story.events ++ more)
  pub batches : (more : List Batch) × (later.batches ≡ k.batches ++ more)

-- a run that began with the story's own file, with n entries or more: at each moment a crash leaves such a file, and the run does
-- not end as if it were damaged or of others
pub record GoesOn (k : KeptStory) (n : ℕ) (was now : DiskSide) (how : Ending) : Type 0 where
  pub always : LeavesOnly was now (IsOwn k n)
  pub undamaged : how ≢ ending.OnDisk disk_end.Damaged
  pub own : (line : ℕ) → how ≢ ending.OnDisk (disk_end.Other line)
