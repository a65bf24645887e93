-- A run that keeps its journal on a disk, from the naming of its directories.
use Rattle.std.proofs.Common.{◌≡◌, ◌⊎◌, inl, inr, ℕ, ◌+◌, ◌≤◌, true, false, List, [], refl, sym, ap, subst, ◌∙◌, arith}
use Rattle.std.specs.Prelude.{Option, Some, None, IfSome, Result, Ok, Err}
use Rattle.std.specs.Option.{option_map}
use Rattle.desk_folder.specs.declared.files.File.{File}
use Rattle.desk_folder.specs.declared.faults.FolderFault.{FolderFault}
use Rattle.desk_folder.specs.Outside.{Outside, SinkSide, Directories, PlacesOnly}
use Rattle.desk_folder.specs.Calls.{Names, Rose}
use Rattle.desk_disk.specs.declared.faults.DiskFault.{DiskFault}
use Rattle.desk_disk.specs.declared.faults.DiskFault.TheVariants as disk_fault
use Rattle.desk_disk.specs.FileStates.{DiskSide, HasNothingPending, stays}
use Rattle.desk_disk.specs.Calls.{Stays}
use Rattle.desk_disk.specs.Crashes.{Leaves, LeavesOnly}
use Rattle.desk_disk.proofs.Runs.{starts, goes_on, joins}
use Rattle.desk_disk.proofs.Torn.{nothing_pending_is}
use Rattle.desk_disk.specs.Files.{IsOpening}
use Rattle.desk_words.specs.declared.asked.Command.{Command}
use Rattle.desk_words.specs.declared.asked.Command.TheVariants as command_is
use Rattle.desk_words.specs.Commands.{Asking}
use Rattle.desk_tasks.specs.declared.ending.DiskEnd.{DiskEnd}
use Rattle.desk_tasks.specs.declared.ending.DiskEnd.TheVariants as disk_end
use Rattle.desk_tasks.specs.declared.ending.Ending.{Ending}
use Rattle.desk_tasks.specs.declared.ending.Ending.TheVariants as ending
use Rattle.desk_tasks.specs.Commands.{asks, asks_disk, files_read, is_of_disk}
use Rattle.desk_tasks.specs.Inputs.{Inputs, Tells}
use Rattle.desk_tasks.specs.Reading.{IsUnread, HasFewTurns}
use Rattle.desk_tasks.specs.Outcome.{status_of}
use Rattle.desk_tasks.proofs.CausesLaw.{status_cases}
use Rattle.desk_tasks.specs.Runs.{World, world, TellsEnd, status_after}
use Rattle.desk_tasks.proofs.Composed.{here, at, Tries, obeys-memory, runs-placed, runs-tells_end}
use Rattle.desk_tasks.proofs.PromisedLaw.{promised}
use Rattle.desk_tasks.specs.Keep.{KeptStory}
use Rattle.story_commands.specs.Journal.{IsOnlyRead, IsOpened, LeavesJournal, OnlyOpens, PassesComparison, WhereShown}
use Rattle.desk_top.specs.Store.{kept_directories, kept_meaning, AreCounted, EndsAtDisk, FailsToName, JournalSays, RunsKept, RunsOnDisk, Keeps, StandsAlways, HoldsAll, HoldsSince, HasBegun, IsPlacedAt, IsWrittenAt, UnlessNamed, WritesNothing}
use Rattle.desk_top.proofs.Placed.{obeys-unplaced, obeys-unnamed, unbegun-tells_end}
use Rattle.desk_top.proofs.StoreLaws.{only_opens, shown_is}

-- ---- statuses

-- the statuses of runs whose directory may not be named
pub not-placed : (how : Ending) (answer : Result (Unit {0}) FolderFault) (code : ℕ) → code ≡ status_after how answer → (status_of how ≡ 4) ⊎ ((status_of how ≡ 6) ⊎ (status_of how ≡ 8)) → IsPlacedAt code → ⊥
not-placed how answer code is late at = elim (status_cases how answer code is) [
  | inl e ↦ never (status_of how) code e late at
  | inr e ↦ never 6 code e (inr (inl refl)) at
]
  where
    never : (s code : ℕ) → code ≡ s → (s ≡ 4) ⊎ ((s ≡ 6) ⊎ (s ≡ 8)) → IsPlacedAt code → ⊥
    never s code e (inl four) (inl le) = omega (arith, e, four, le)
    never s code e (inl four) (inr (inl is)) = omega (arith, e, four, is)
    never s code e (inl four) (inr (inr is)) = omega (arith, e, four, is)
    never s code e (inr (inl six)) (inl le) = omega (arith, e, six, le)
    never s code e (inr (inl six)) (inr (inl is)) = omega (arith, e, six, is)
    never s code e (inr (inl six)) (inr (inr is)) = omega (arith, e, six, is)
    never s code e (inr (inr eight)) (inl le) = omega (arith, e, eight, le)
    never s code e (inr (inr eight)) (inr (inl is)) = omega (arith, e, eight, is)
    never s code e (inr (inr eight)) (inr (inr is)) = omega (arith, e, eight, is)

-- where no directory is named, nothing is written, and the status says neither 0, 1 nor 5, nor 3, nor 8 unless the disk failed
pub not-written : (how : Ending) (answer : Result (Unit {0}) FolderFault) (code : ℕ) → code ≡ status_after how answer → (status_of how ≡ 4) ⊎ ((status_of how ≡ 6) ⊎ (status_of how ≡ 8)) → IsWrittenAt code → ⊥
not-written how answer code is late (inl le) = not-placed how answer code is late (inl le)
not-written how answer code is late (inr five) = not-placed how answer code is late (inr (inr five))

-- ---- the folder

pub tells-placed : (before placed : Outside) (x : Inputs) → PlacesOnly before placed → Tells (files_read command_is.Store) before x → Tells (files_read command_is.Store) placed x
tells-placed before placed x only tells f among = only.left f ∙ tells f among

unread_from : (before placed now : Outside) (f : File) → PlacesOnly before placed → IsUnread placed now f → IsUnread before now f
unread_from before placed now f only h = record { left = h.left ∙ only.left f; turns = h.turns ∙ only.turns f; faults = h.faults ∙ only.next_faults f }

few_from : (before placed now : Outside) (f : File) → PlacesOnly before placed → HasFewTurns placed now f → HasFewTurns before now f
few_from before placed now f only few = let stays : placed.turns f ≡ before.turns f = only.turns f in omega (arith, stays, few)

pub still : (folder : Outside) → PlacesOnly folder folder
still folder = record { left = λ f. refl; written = λ f. refl; turns = λ f. refl; next_faults = λ f. refl; put_faults = λ f. refl }

named_by : (d now : Option Directories) (dirs : Directories) (ok : Unit {0}) → Names d now dirs (let r : Result (Unit {0}) FolderFault = Ok ok in r) → IfSome d (λ was. now ≡ Some dirs)
named_by None now dirs ok names = tt
named_by (Some was) now dirs ok names = names

-- the directories that were named before a run that names none
still_named : (d mid now : Option Directories) (dirs : Directories) → now ≡ mid → IfSome d (λ was. mid ≡ Some dirs) → IfSome d (λ was. now ≡ Some dirs)
still_named None mid now dirs same h = tt
still_named (Some was) mid now dirs same h = same ∙ h

read_from : (before placed now : Option (List ℕ)) → placed ≡ before → IfSome placed (λ bytes. now ≡ Some []) → IfSome before (λ bytes. now ≡ Some [])
read_from before placed now same h = subst (λ (o : Option (List ℕ)). IfSome o (λ bytes. now ≡ Some [])) same h

at_disk_placed : (dirs : Directories) (before placed now : Outside) (sink sink' : SinkSide) (faults faults' : ℕ) (shown shown' : Option DiskSide) (code : ℕ) (ok : Unit {0}) → Names before.directories placed.directories dirs (let r : Result (Unit {0}) FolderFault = Ok ok in r) → PlacesOnly before placed
    → EndsAtDisk (Some (here command_is.Store)) (world placed sink) (world now sink') faults faults' shown shown' code → EndsAtDisk (Some (at command_is.Store dirs)) (world before sink) (world now sink') faults faults' shown shown' code
at_disk_placed dirs before placed now sink sink' faults faults' shown shown' code ok names only h = record {
  how = h.how;
  answer = h.answer;
  line = h.line;
  status = h.status;
  cause = h.cause;
  named = still_named before.directories placed.directories now.directories dirs h.named.directories (named_by before.directories placed.directories dirs ok names);
  read = λ f among. read_from (before.left f) (placed.left f) (now.left f) (only.left f) (h.read f among);
  says = λ x tells. h.says x (tells-placed before placed x only tells);
  written = λ f. h.written f ∙ only.written f;
  few = λ f. few_from before placed now f only (h.few f);
  unread = λ f other. unread_from before placed now f only (h.unread f other);
  unput = λ f. record { written = (h.unput f).written ∙ only.written f; faults = (h.unput f).faults ∙ only.put_faults f };
  sink_kept = h.sink_kept;
}

no_disk_placed : (dirs : Directories) (before placed now : Outside) (sink sink' : SinkSide) (faults faults' : ℕ) (shown shown' : Option DiskSide) (code : ℕ) (ok : Unit {0}) → Names before.directories placed.directories dirs (let r : Result (Unit {0}) FolderFault = Ok ok in r) → PlacesOnly before placed
    → FailsToName (Some (here command_is.Store)) (world placed sink) (world now sink') faults faults' shown shown' code → FailsToName (Some (at command_is.Store dirs)) (world before sink) (world now sink') faults faults' shown shown' code
no_disk_placed dirs before placed now sink sink' faults faults' shown shown' code ok names only h = record {
  answer = h.answer;
  line = h.line;
  status = h.status;
  cause = h.cause;
  named = still_named before.directories placed.directories now.directories dirs h.named.directories (named_by before.directories placed.directories dirs ok names);
  same = h.same;
  written = λ f. h.written f ∙ only.written f;
  unread = λ f. unread_from before placed now f only (h.unread f);
  unput = λ f. record { written = (h.unput f).written ∙ only.written f; faults = (h.unput f).faults ∙ only.put_faults f };
  sink_kept = h.sink_kept;
}

counted_placed : (before placed now : Outside) (sink sink' : SinkSide) (shown shown' : Option DiskSide) (held code : ℕ) → PlacesOnly before placed → AreCounted held (world placed sink) (world now sink') shown shown' code → AreCounted held (world before sink) (world now sink') shown shown' code
counted_placed before placed now sink sink' shown shown' held code only (inl h) = inl (record { unbegun = record { written = λ f. h.unbegun.written f ∙ only.written f; how = h.unbegun.how; line = h.unbegun.line }; late = h.late })
counted_placed before placed now sink sink' shown shown' held code only (inr h) = inr (λ x tells. h x (tells-placed before placed x only tells))

pub kept-placed : (dirs : Directories) (before placed now : Outside) (sink sink' : SinkSide) (faults faults' : ℕ) (shown shown' : Option DiskSide) (code : ℕ) (ok : Unit {0}) → Names before.directories placed.directories dirs (let r : Result (Unit {0}) FolderFault = Ok ok in r) → PlacesOnly before placed
    → RunsOnDisk (Some (here command_is.Store)) (world placed sink) (world now sink') faults faults' shown shown' code → RunsOnDisk (Some (at command_is.Store dirs)) (world before sink) (world now sink') faults faults' shown shown' code
kept-placed dirs before placed now sink sink' faults faults' shown shown' code ok names only (inl h) = inl (no_disk_placed dirs before placed now sink sink' faults faults' shown shown' code ok names only h)
kept-placed dirs before placed now sink sink' faults faults' shown shown' code ok names only (inr (inl h)) = inr (inl (at_disk_placed dirs before placed now sink sink' faults faults' shown shown' code ok names only h))
kept-placed dirs before placed now sink sink' faults faults' shown shown' code ok names only (inr (inr h)) = inr (inr (record {
  held = h.held;
  keeps = promised (kept_meaning h.held) (Some (at command_is.Store dirs)) (world before sink) (world now sink') code
      (runs-placed (kept_meaning h.held) command_is.Store dirs before placed now sink sink' code ok names only h.keeps.runs);
  counts = counted_placed before placed now sink sink' shown shown' h.held code only h.counts;
}))

-- a run that ended since the directories could not be named
unplaced_nothing : (before placed : Outside) (sink now : SinkSide) (how : Ending) (code : ℕ) → PlacesOnly before placed → (status_of how ≡ 4) ⊎ ((status_of how ≡ 6) ⊎ (status_of how ≡ 8)) → TellsEnd how sink now code → WritesNothing (world before sink) (world placed now) code
unplaced_nothing before placed sink now how code only late given = record {
  unbegun = unbegun-tells_end (world before sink) (world placed sink) now how code (record { written = only.written; sink = refl }) given;
  late = not-written how given.answer code given.status late;
}

pub kept-unplaced : (dirs : Directories) (before placed : Outside) (sink now : SinkSide) (faults faults' : ℕ) (shown shown' : Option DiskSide) (code : ℕ) → PlacesOnly before placed → Rose before.place_faults placed.place_faults → TellsEnd ending.PlaceFault sink now code → RunsOnDisk (Some (at command_is.Store dirs)) (world before sink) (world placed now) faults faults' shown shown' code
kept-unplaced dirs before placed sink now faults faults' shown shown' code only rose given = inr (inr (record {
  held = 0;
  keeps = promised (kept_meaning 0) (Some (at command_is.Store dirs)) (world before sink) (world placed now) code
      (runs-tells_end (kept_meaning 0) (Some (at command_is.Store dirs)) (world before sink) (world placed sink) now ending.PlaceFault code (obeys-unplaced (kept_meaning 0) command_is.Store dirs before placed sink only rose) given);
  counts = inl (unplaced_nothing before placed sink now ending.PlaceFault code only (inl refl) given);
}))

pub kept-unnamed : (dirs : Directories) (before placed : Outside) (sink now : SinkSide) (faults faults' : ℕ) (shown shown' : Option DiskSide) (code : ℕ) → PlacesOnly before placed → TellsEnd ending.Memory sink now code → RunsOnDisk (Some (at command_is.Store dirs)) (world before sink) (world placed now) faults faults' shown shown' code
kept-unnamed dirs before placed sink now faults faults' shown shown' code only given = inr (inr (record {
  held = 0;
  keeps = promised (kept_meaning 0) (Some (at command_is.Store dirs)) (world before sink) (world placed now) code
      (runs-tells_end (kept_meaning 0) (Some (at command_is.Store dirs)) (world before sink) (world placed sink) now ending.Memory code (obeys-unnamed (kept_meaning 0) command_is.Store dirs before placed sink only) given);
  counts = inl (unplaced_nothing before placed sink now ending.Memory code only (inr (inl refl)) given);
}))

-- the disk could not name its directory: nothing is read
pub kept-undisked : (before : World) (now : SinkSide) (faults faults' : ℕ) (shown shown' : Option DiskSide) (code : ℕ) → Rose faults faults' → shown' ≡ option_map stays shown → TellsEnd (ending.OnDisk disk_end.Fault) before.sink now code → RunsOnDisk (Some (here command_is.Store)) before (world before.folder now) faults faults' shown shown' code
kept-undisked before now faults faults' shown shown' code rose same given = inl (record {
  answer = given.answer;
  line = given.line;
  status = given.status;
  cause = rose;
  named = record { no_fault = λ e. absurd cc; directories = refl; faults = refl };
  same = same;
  written = λ f. refl;
  unread = λ f. record { left = refl; turns = refl; faults = refl };
  unput = λ f. record { written = refl; faults = refl };
  sink_kept = given.line.faults.kept;
})

nothing_read : (folder : Outside) → Tries (kept_meaning 0) command_is.Store folder folder
nothing_read folder = record {
  only = record {
    unread = λ f other. record { left = refl; turns = refl; faults = refl };
    kept = λ f. omega arith;
    few = λ f. omega arith;
    directories = refl;
    written = λ f. refl;
    place_faults = refl;
    put_faults = λ f. refl;
  };
  in_order = λ x tells r refused g lt. record { left = refl; turns = refl; faults = refl };
}

pub kept-unremembered : (before : World) (now : SinkSide) (faults faults' : ℕ) (shown shown' : Option DiskSide) (code : ℕ) → TellsEnd ending.Memory before.sink now code → RunsOnDisk (Some (here command_is.Store)) before (world before.folder now) faults faults' shown shown' code
kept-unremembered before now faults faults' shown shown' code given = inr (inr (record {
  held = 0;
  keeps = promised (kept_meaning 0) (Some (here command_is.Store)) before (world before.folder now) code
      (runs-tells_end (kept_meaning 0) (Some (here command_is.Store)) before before now ending.Memory code (obeys-memory (kept_meaning 0) command_is.Store before.folder before.folder before.sink (nothing_read before.folder)) given);
  counts = inl (unplaced_nothing before.folder before.folder before.sink now ending.Memory code (still before.folder) (inr (inl refl)) given);
}))

-- a file that had no byte before its directory was named has none that this run put there
pub begun-placed : (before placed now : Outside) (sink sink' : SinkSide) → PlacesOnly before placed → HasBegun (world before sink) (world now sink') → HasBegun (world placed sink) (world now sink')
begun-placed before placed now sink sink' only begun = (begun.0, λ e. begun.1 (e ∙ only.written begun.0))

pub began-placed : (before placed now : Outside) (sink sink' : SinkSide) (code : ℕ) → PlacesOnly before placed → IsWrittenAt code ⊎ HasBegun (world before sink) (world now sink') → IsWrittenAt code ⊎ HasBegun (world placed sink) (world now sink')
began-placed before placed now sink sink' code only (inl at) = inl at
began-placed before placed now sink sink' code only (inr begun) = inr (begun-placed before placed now sink sink' only begun)

-- ---- the disk

-- one call that leaves the file, and then a run
placed_leaves : (was now : DiskSide) (P : List ℕ → Type 0) → Leaves P was.file → LeavesOnly (stays was) now P → LeavesOnly was now P
placed_leaves was now P here run = joins was (stays was) now P (goes_on was was was.file P (starts was P here) here) run

opening_leaves : (was : DiskSide) → HasNothingPending was.file → Leaves (IsOpening was.file.bytes) was.file
opening_leaves was nothing c left = inl (nothing_pending_is was.file c nothing left)

pub opens-placed : (was now : DiskSide) → HasNothingPending was.file → OnlyOpens (stays was) now → OnlyOpens was now
opens-placed was now nothing run = placed_leaves was now (IsOpening was.file.bytes) (opening_leaves was nothing) run

passes_placed : (k : KeptStory) (records : List (List ℕ)) (was now : DiskSide) → HasNothingPending was.file → PassesComparison k records (stays was) now → PassesComparison k records was now
passes_placed k records was now nothing h = record {
  held = h.held;
  first = h.first;
  stores = record { compared = h.stores.compared; opening = opens-placed was h.stores.compared nothing h.stores.opening; adding = h.stores.adding };
}

keeps_placed : (x : Inputs) (was now : DiskSide) → HasNothingPending was.file → Keeps x (stays was) now → Keeps x was now
keeps_placed x was now nothing h = record { k = h.k; sets = h.sets; can = h.can; records = h.records; passes = passes_placed h.k h.records was now nothing h.passes }

pub always-placed : (x : Inputs) (was now : DiskSide) → HasNothingPending was.file → StandsAlways x (stays was) now → StandsAlways x was now
always-placed x was now nothing (inl h) = inl (opens-placed was now nothing h)
always-placed x was now nothing (inr h) = inr (keeps_placed x was now nothing h)

pub all-placed : (x : Inputs) (was now : DiskSide) → HasNothingPending was.file → HoldsAll x (stays was) now → HoldsAll x was now
all-placed x was now nothing h = record { keeps = record { k = h.keeps.k; sets = h.keeps.sets; can = h.keeps.can; records = h.keeps.records; passes = passes_placed h.keeps.k h.keeps.records was now nothing h.keeps.passes }; all = h.all }

since_placed : (held : ℕ) (x : Inputs) (was now : DiskSide) → HasNothingPending was.file → HoldsSince held x (stays was) now → HoldsSince held x was now
since_placed held x was now nothing h = (record { keeps = record { k = h.0.keeps.k; sets = h.0.keeps.sets; can = h.0.keeps.can; records = h.0.keeps.records; passes = passes_placed h.0.keeps.k h.0.keeps.records was now nothing h.0.keeps.passes }; all = h.0.all }, h.1)

read_placed : (was now : DiskSide) → HasNothingPending was.file → IsOnlyRead (stays was) now → IsOnlyRead was now
read_placed was now nothing h = record {
  same = h.same;
  leaves = placed_leaves was now (λ (c : List ℕ). c ≡ was.file.bytes) (λ c left. nothing_pending_is was.file c nothing left) h.leaves;
}

opened_placed : (was now : DiskSide) → IsOpened (stays was) now → IsOpened was now
opened_placed was now h = record { records = h.records; place = h.place; opens = h.opens; rest = h.rest; bytes = h.bytes }

leaves_placed : (k : KeptStory) (was now : DiskSide) (how : DiskEnd) → HasNothingPending was.file → LeavesJournal k (stays was) now (ending.OnDisk how) → LeavesJournal k was now (ending.OnDisk how)
leaves_placed k was now disk_end.Fault nothing (inl h) = inl (opens-placed was now nothing h)
leaves_placed k was now disk_end.Fault nothing (inr h) = inr (h.0, passes_placed k h.0 was now nothing h.1)
leaves_placed k was now disk_end.Damaged nothing h = (h.0, read_placed was now nothing h.1)
leaves_placed k was now (disk_end.Other line) nothing h = (h.0, opens-placed was now nothing h.1, opened_placed was now h.2)

-- what is shown after such a call
pub shown-placed : (shown mid shown' : Option DiskSide) (ok : Unit {0}) (P : DiskSide → DiskSide → Type 0) → IfSome shown (λ d. HasNothingPending d.file) → Stays shown mid (let r : Result (Unit {0}) DiskFault = Ok ok in r)
    → ((was now : DiskSide) → HasNothingPending was.file → P (stays was) now → P was now) → WhereShown mid shown' P → WhereShown shown shown' P
shown-placed shown mid shown' ok P nothing placed from run was is =
    let there : mid ≡ Some (stays was) = placed ∙ ap (option_map stays) is in
    let d = run (stays was) there in
    (d.0, d.1, from was d.0 (shown_is shown was is nothing) d.2)

pub pending-placed : (shown mid : Option DiskSide) (ok : Unit {0}) → IfSome shown (λ d. HasNothingPending d.file) → Stays shown mid (let r : Result (Unit {0}) DiskFault = Ok ok in r) → IfSome mid (λ d. HasNothingPending d.file)
pending-placed None mid ok nothing placed = subst (λ (o : Option DiskSide). IfSome o (λ d. HasNothingPending d.file)) (sym placed) tt
pending-placed (Some was) mid ok nothing placed = subst (λ (o : Option DiskSide). IfSome o (λ d. HasNothingPending d.file)) (sym placed) nothing

-- a call that failed to name the directory leaves the file too
pub shown-failed : (shown mid : Option DiskSide) (P : DiskSide → DiskSide → Type 0) → IfSome shown (λ d. HasNothingPending d.file) → Stays shown mid (let r : Result (Unit {0}) DiskFault = Err disk_fault.Failed in r)
    → ((was now : DiskSide) → OnlyOpens was now → P was now) → WhereShown shown mid P
shown-failed shown mid P nothing placed each was is =
    let none = shown_is shown was is nothing in
    (stays was, placed ∙ ap (option_map stays) is, each was (stays was) (opens-placed was (stays was) none (only_opens (stays was) none)))

-- its count of faults
pub at_most : (first faults faults' : ℕ) → first ≤ faults → faults ≤ faults' → first ≤ faults'
at_most first faults faults' le later = omega (arith, le, later)

pub risen : (first faults faults' : ℕ) → first ≤ faults → Rose faults faults' → Rose first faults'
risen first faults faults' le rose = omega (arith, le, rose)

-- the run after such a call
says_placed : (x : Inputs) (shown mid shown' : Option DiskSide) (ok : Unit {0}) (how : DiskEnd) → IfSome shown (λ d. HasNothingPending d.file) → Stays shown mid (let r : Result (Unit {0}) DiskFault = Ok ok in r) → JournalSays x mid shown' how → JournalSays x shown shown' how
says_placed x shown mid shown' ok how nothing placed h = (
  h.0,
  h.1,
  shown-placed shown mid shown' ok (λ was now. LeavesJournal h.0 was now (ending.OnDisk how)) nothing placed (λ was now none run. leaves_placed h.0 was now how none run) h.2,
)

counts_placed : (held : ℕ) (before now : World) (shown mid shown' : Option DiskSide) (code : ℕ) (ok : Unit {0}) → IfSome shown (λ d. HasNothingPending d.file) → Stays shown mid (let r : Result (Unit {0}) DiskFault = Ok ok in r) → AreCounted held before now mid shown' code → AreCounted held before now shown shown' code
counts_placed held before now shown mid shown' code ok nothing placed (inl h) = inl h
counts_placed held before now shown mid shown' code ok nothing placed (inr h) = inr (λ x tells. shown-placed shown mid shown' ok (HoldsSince held x) nothing placed (since_placed held x) (h x tells))

pub kept-disked : (before now : World) (first faults faults' : ℕ) (shown mid shown' : Option DiskSide) (code : ℕ) (ok : Unit {0}) → first ≤ faults → IfSome shown (λ d. HasNothingPending d.file) → Stays shown mid (let r : Result (Unit {0}) DiskFault = Ok ok in r)
    → RunsKept (Some (here command_is.Store)) before now faults faults' mid shown' code → RunsOnDisk (Some (here command_is.Store)) before now first faults' shown shown' code
kept-disked before now first faults faults' shown mid shown' code ok le nothing placed (inl h) = inr (inl (record {
  how = h.how;
  answer = h.answer;
  line = h.line;
  status = h.status;
  cause = λ is. risen first faults faults' le (h.cause is);
  named = h.named;
  read = h.read;
  says = λ x tells. says_placed x shown mid shown' ok h.how nothing placed (h.says x tells);
  written = h.written;
  few = h.few;
  unread = h.unread;
  unput = h.unput;
  sink_kept = h.sink_kept;
}))
kept-disked before now first faults faults' shown mid shown' code ok le nothing placed (inr h) = inr (inr (record { held = h.held; keeps = h.keeps; counts = counts_placed h.held before now shown mid shown' code ok nothing placed h.counts }))

pub unshown-placed : (shown mid : Option DiskSide) → mid ≡ option_map stays shown → shown ≡ None → mid ≡ None
unshown-placed shown mid placed none = placed ∙ ap (option_map stays) none

-- ---- the order of the two namings

-- a run that names no directories leaves those that were named
pub still-placed : (before now : World) (faults faults' : ℕ) (shown shown' : Option DiskSide) (code : ℕ) → RunsOnDisk (Some (here command_is.Store)) before now faults faults' shown shown' code → now.folder.directories ≡ before.folder.directories
still-placed before now faults faults' shown shown' code (inl h) = h.named.directories
still-placed before now faults faults' shown shown' code (inr (inl h)) = h.named.directories
still-placed before now faults faults' shown shown' code (inr (inr h)) = (h.keeps.alone.unnamed (here command_is.Store) refl refl).directories

pub folder-named : (P : Type 0) (d mid now : Option Directories) (dirs : Directories) (ok : Unit {0}) → Names d mid dirs (let r : Result (Unit {0}) FolderFault = Ok ok in r) → now ≡ mid → UnlessNamed d now dirs P
folder-named P None mid now dirs ok names same = tt
folder-named P (Some was) mid now dirs ok names same = λ other. absurd (other (same ∙ names))

pub disk-named : (P : Type 0) (d mid now : Option (List ℕ)) (output : List ℕ) → mid ≡ option_map (λ _. output) d → now ≡ mid → UnlessNamed d now output P
disk-named P None mid now output named same = tt
disk-named P (Some was) mid now output named same = λ other. absurd (other (same ∙ named))

-- what holds, holds whatever was named
pub holds-unnamed : {Name P : Type 0} (d now : Option Name) (name : Name) → P → UnlessNamed d now name P
holds-unnamed None now name h = tt
holds-unnamed (Some was) now name h = λ other. h

pub weaker-unnamed : {Name P Q : Type 0} (d now : Option Name) (name : Name) → (P → Q) → UnlessNamed d now name P → UnlessNamed d now name Q
weaker-unnamed None now name less h = tt
weaker-unnamed (Some was) now name less h = λ other. less (h other)

pub unread-placed : (before placed now : Outside) → PlacesOnly before placed → ((f : File) → IsUnread placed now f) → (f : File) → IsUnread before now f
unread-placed before placed now only h f = unread_from before placed now f only (h f)

pub unread-still : (folder : Outside) (f : File) → IsUnread folder folder f
unread-still folder f = record { left = refl; turns = refl; faults = refl }

-- ---- the directory of the disk

pub named-there : (d mid now : Option (List ℕ)) (output : List ℕ) → mid ≡ option_map (λ _. output) d → now ≡ mid → IfSome d (λ _. now ≡ Some output)
named-there None mid now output named same = tt
named-there (Some was) mid now output named same = same ∙ named

pub not-begun : (before placed : Outside) (sink sink' : SinkSide) → PlacesOnly before placed → HasBegun (world before sink) (world placed sink') → ⊥
not-begun before placed sink sink' only begun = begun.1 (only.written begun.0)

pub never-began : (before placed : Outside) (sink sink' : SinkSide) (how : Ending) (answer : Result (Unit {0}) FolderFault) (code : ℕ) → PlacesOnly before placed → code ≡ status_after how answer → (status_of how ≡ 4) ⊎ ((status_of how ≡ 6) ⊎ (status_of how ≡ 8)) → IsWrittenAt code ⊎ HasBegun (world before sink) (world placed sink') → ⊥
never-began before placed sink sink' how answer code only is late (inl at) = not-written how answer code is late at
never-began before placed sink sink' how answer code only is late (inr begun) = not-begun before placed sink sink' only begun

pub eight-only : (how : Ending) (answer : Result (Unit {0}) FolderFault) (code : ℕ) → code ≡ status_after how answer → (status_of how ≡ 4) ⊎ (status_of how ≡ 6) → code ≡ 8 → ⊥
eight-only how answer code is late eight = elim (status_cases how answer code is) [
  | inl e ↦ never (status_of how) (sym e ∙ eight) late
  | inr e ↦ omega (arith, e, eight)
]
  where
    never : (s : ℕ) → s ≡ 8 → (s ≡ 4) ⊎ (s ≡ 6) → ⊥
    never s is (inl four) = omega (arith, is, four)
    never s is (inr six) = omega (arith, is, six)

-- ---- the words

pub kept-asked : (o : Option Asking) (dirs : Directories) → Some dirs ≡ kept_directories o → o ≡ Some (command_is.Store, Some dirs)
kept-asked None dirs is = absurd cc
kept-asked (Some (command_is.Store, d)) dirs is = ap (λ (d : Option Directories). Some (command_is.Store, d)) (sym is)
kept-asked (Some (command_is.Replay crew, d)) dirs is = absurd cc
kept-asked (Some (command_is.Recover workers moves live watch, d)) dirs is = absurd cc
kept-asked (Some (command_is.Check crew, d)) dirs is = absurd cc
kept-asked (Some (command_is.Ferry, d)) dirs is = absurd cc
kept-asked (Some (command_is.Gen seed size, d)) dirs is = absurd cc
kept-asked (Some (command_is.Trial seed size, d)) dirs is = absurd cc

pub asks-store : (o : Option Asking) (dirs : Directories) → Some dirs ≡ kept_directories o → asks_disk (option_map asks o) ≡ true
asks-store o dirs is = ap (λ (o : Option Asking). asks_disk (option_map asks o)) (kept-asked o dirs is)

pub others-free : (o : Option Asking) → kept_directories o ≡ None → ((c : Command) → Some (c, None) ≡ o → is_of_disk c ≡ false) → asks_disk (option_map asks o) ≡ false
others-free None none free = refl
others-free (Some (command_is.Store, d)) none free = free command_is.Store (ap (λ (d : Option Directories). Some (command_is.Store, d)) (sym none))
others-free (Some (command_is.Replay crew, d)) none free = refl
others-free (Some (command_is.Recover workers moves live watch, d)) none free = refl
others-free (Some (command_is.Check crew, d)) none free = refl
others-free (Some (command_is.Ferry, d)) none free = refl
others-free (Some (command_is.Gen seed size, d)) none free = refl
others-free (Some (command_is.Trial seed size, d)) none free = refl

-- words that ask for such a journal are those of no other command
pub store-alone : (o : Option Asking) (own : Directories) → o ≡ Some (command_is.Store, Some own) → asks_disk (option_map asks o) ≡ false → ⊥
store-alone o own is free = (let no : true ≡ false = sym (ap (λ (o : Option Asking). asks_disk (option_map asks o)) is) ∙ free in cc)

pub other-asked : (o : Option Asking) (dirs : Directories) → kept_directories o ≡ None → o ≡ Some (command_is.Store, Some dirs) → ⊥
other-asked o dirs none is = (let both : Some dirs ≡ None = sym (ap kept_directories is) ∙ none in cc)

-- of one command's directories there is one pair
pub own-dirs : (o : Option Asking) (own dirs : Directories) → o ≡ Some (command_is.Store, Some own) → o ≡ Some (command_is.Store, Some dirs) → own ≡ dirs
own-dirs o own dirs is other = (let both : Some own ≡ Some dirs = sym (ap kept_directories is) ∙ ap kept_directories other in cc)

pub same-dirs : (o : Option Asking) (own dirs : Directories) (was now : Option (List ℕ)) → o ≡ Some (command_is.Store, Some own) → o ≡ Some (command_is.Store, Some dirs) → IfSome was (λ _. now ≡ Some own.output) → IfSome was (λ _. now ≡ Some dirs.output)
same-dirs o own dirs was now is other h = subst (λ (d : Directories). IfSome was (λ _. now ≡ Some d.output)) (own-dirs o own dirs is other) h
