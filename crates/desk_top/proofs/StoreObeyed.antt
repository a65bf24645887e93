-- A run that keeps its journal on a disk, from how its reading ended.
use Rattle.std.proofs.Common.{◌≡◌, inl, inr, ℕ, List, refl, subst}
use Rattle.std.specs.Prelude.{Option, Ok, Err}
use Rattle.desk_folder.specs.Outside.{Outside, SinkSide}
use Rattle.desk_disk.specs.FileStates.{DiskSide}
use Rattle.desk_words.specs.declared.asked.Command.TheVariants as command_is
use Rattle.desk_tasks.specs.declared.ending.Ending.{Ending}
use Rattle.desk_tasks.specs.Commands.{files_read}
use Rattle.desk_tasks.specs.Inputs.{Inputs, Tells}
use Rattle.desk_tasks.specs.Reading.{ReadsAmong}
use Rattle.desk_tasks.specs.Runs.{World, world, AreRead, Obeys}
use Rattle.desk_tasks.proofs.Composed.{here, InOrder, Tries, obeys-refused, obeys-unread, obeys-memory}
use Rattle.desk_tasks.specs.declared.fault.StoryFault.{StoryFault}
use Rattle.desk_tasks.specs.declared.fault.StoryFault.TheVariants as fault
use Rattle.desk_tasks.specs.declared.keep.InputKept.{InputKept}
use Rattle.desk_tasks.specs.Story.{rows_of, kept_of}
use Rattle.desk_tasks.specs.Faults.{story_end}
use Rattle.desk_tasks.specs.Facts.{as_kept, CanBeRun}
use Rattle.desk_tasks.specs.StoryReading.{StopsAtFault, HasReadCause, GivesTask}
use Rattle.day_orders.specs.declared.orders.Batch.{Batch}
use Rattle.desk_model.specs.declared.answer.Event.{Event}
use Rattle.story_commands.specs.Journal.{kept_story, KeepsStory}
use Rattle.desk_top.specs.Store.{kept_meaning}
use Rattle.desk_top.specs.Obeyed.{SetsNoStory, ObeysStore}

-- with a story that can't be had, the definition's view of one plays no part
abbrev Gives : StoryFault → Inputs → Type 0
Gives e x = GivesTask as_kept (Err e) (rows_of command_is.Store x) (kept_of x)

tried : (before now : Outside) → ReadsAmong (files_read command_is.Store) before now → InOrder (kept_meaning 0) command_is.Store before now → Tries (kept_meaning 0) command_is.Store before now
tried before now only order = record { only = only; in_order = order }

by_fault : (before now : Outside) (sink : SinkSide) (e : StoryFault) → Tries (kept_meaning 0) command_is.Store before now → StopsAtFault before now e → HasReadCause (files_read command_is.Store) before now e
    → ((x : Inputs) → Tells (files_read command_is.Store) before x → Gives e x) → Obeys (kept_meaning 0) (here command_is.Store) (world before sink) (world now sink) (story_end e)
by_fault before now sink (fault.Refused r) t stops cause gives = obeys-refused (kept_meaning 0) command_is.Store before now sink r t gives
by_fault before now sink (fault.ReadFault f) t stops cause gives = obeys-unread (kept_meaning 0) command_is.Store before now sink f t cause.0 cause.1 stops gives
by_fault before now sink fault.Memory t stops cause gives = obeys-memory (kept_meaning 0) command_is.Store before now sink t

unread_end : (e : StoryFault) → SetsNoStory (story_end e)
unread_end (fault.Refused r) = tt
unread_end (fault.ReadFault f) = tt
unread_end fault.Memory = tt

pub obeyed-none : (before now : Outside) (sink : SinkSide) (shown : Option DiskSide) (e : StoryFault) → ReadsAmong (files_read command_is.Store) before now → InOrder (kept_meaning 0) command_is.Store before now → StopsAtFault before now e → HasReadCause (files_read command_is.Store) before now e
    → ((x : Inputs) → Tells (files_read command_is.Store) before x → Gives e x) → ObeysStore (world before sink) (world now sink) shown shown (story_end e)
obeyed-none before now sink shown e only order stops cause gives = inl (record {
  unread = unread_end e;
  obeys = by_fault before now sink e (tried before now only order) stops cause gives;
  unreported = record { written = only.written; sink = refl };
  same = refl;
})

-- wherever its lists lie in memory
pub keeps-as : (kept : InputKept) (batches : List Batch) (events : List (ℕ × Event)) (before now : World) (shown shown' : Option DiskSide) (how : Ending) → batches ≡ (as_kept kept).batches → events ≡ (as_kept kept).story.events
    → KeepsStory (kept_story (as_kept kept).story.day batches events) before now shown shown' how → KeepsStory (as_kept kept) before now shown shown' how
keeps-as kept batches events before now shown shown' how same also h =
    subst (λ (es : List (ℕ × Event)). KeepsStory (kept_story (as_kept kept).story.day (as_kept kept).batches es) before now shown shown' how) also
    (subst (λ (bs : List Batch). KeepsStory (kept_story (as_kept kept).story.day bs events) before now shown shown' how) same h)

pub obeyed-story : (before mid : Outside) (sink : SinkSide) (now : World) (shown shown' : Option DiskSide) (kept : InputKept) (how : Ending) → ReadsAmong (files_read command_is.Store) before mid → InOrder (kept_meaning 0) command_is.Store before mid → AreRead (files_read command_is.Store) before mid
    → ((x : Inputs) → Tells (files_read command_is.Store) before x → kept_of x ≡ Ok (as_kept kept)) → CanBeRun kept.story → KeepsStory (as_kept kept) (world mid sink) now shown shown' how → ObeysStore (world before sink) now shown shown' how
obeyed-story before mid sink now shown shown' kept how only order read gives runs keeps = inr (record {
  k = as_kept kept;
  mid = mid;
  prepares = record { tries = tried before mid only order; read = read; sets = gives; sound = runs.asked };
  keeps = keeps;
})
