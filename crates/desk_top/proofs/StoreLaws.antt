-- A run that keeps its journal on a disk, from how its reading and its keeping ended.
use Rattle.std.proofs.Common.{◌≡◌, ◌≢◌, ◌⊎◌, inl, inr, ℕ, ◌≤◌, List, refl, sym, ap, subst, ◌∙◌, arith}
use Rattle.std.specs.Prelude.{Option, Some, IfSome, Result, Ok}
use Rattle.desk_folder.specs.declared.files.File.{File}
use Rattle.desk_folder.specs.declared.faults.FolderFault.{FolderFault}
use Rattle.desk_folder.specs.Outside.{Outside, SinkSide}
use Rattle.desk_folder.specs.Calls.{Rose}
use Rattle.desk_disk.specs.FileStates.{DiskSide, HasNothingPending}
use Rattle.desk_disk.proofs.Runs.{starts}
use Rattle.desk_disk.proofs.Torn.{nothing_pending_is}
use Rattle.desk_disk.specs.Files.{IsOpening}
use Rattle.desk_words.specs.declared.asked.Command.TheVariants as command_is
use Rattle.desk_tasks.specs.declared.ending.DiskEnd.{DiskEnd}
use Rattle.desk_tasks.specs.declared.ending.DiskEnd.TheVariants as disk_end
use Rattle.desk_tasks.specs.declared.ending.Ending.{Ending}
use Rattle.desk_tasks.specs.declared.ending.Ending.TheVariants as ending
use Rattle.desk_tasks.specs.Commands.{asked_here, files_read}
use Rattle.desk_tasks.specs.Inputs.{Inputs, Tells}
use Rattle.desk_tasks.specs.Outcome.{status_of, Outcome}
use Rattle.desk_tasks.specs.Runs.{World, world, IsUnreported, TellsEnd, status_after}
use Rattle.desk_tasks.specs.Finishing.{Leaves}
use Rattle.desk_tasks.proofs.CausesLaw.{status_cases}
use Rattle.desk_tasks.proofs.Composed.{Prepares, obeys-done, obeys-memory, runs-tells_end}
use Rattle.desk_tasks.proofs.PromisedLaw.{promised}
use Rattle.desk_tasks.specs.Keep.{KeptStory, kept}
use Rattle.story_commands.specs.Journal.{EndsEarly, EndsWritten, IsEarly, KeepsStory, LeavesJournal, OnlyOpens, PassesComparison, WhereShown}
use Rattle.story_commands.proofs.Opening.{read_opens}
use Rattle.desk_tasks.specs.Story.{kept_of}
use Rattle.desk_top.proofs.Kept.{kept_stored}
use Rattle.desk_top.specs.Store.{kept_meaning, RunsKept, StandsAlways, HoldsAll, HoldsSince, HasBegun, IsWrittenAt, WritesNothing}
use Rattle.desk_top.specs.Obeyed.{SetsNoStory, SetsNone, SetsStory, ObeysStore}
use Rattle.desk_top.proofs.Placed.{unbegun-tells_end}

-- ---- statuses

-- a status of a run that wrote no file
abbrev IsLate : ℕ → Type 0
IsLate s = (2 ≤ s) × (s ≢ 5)

unread_late : (how : Ending) → SetsNoStory how → IsLate (status_of how)
unread_late (ending.Refused r) h = (omega arith, λ e. omega (arith, e))
unread_late (ending.ReadFault f) h = (omega arith, λ e. omega (arith, e))
unread_late ending.Memory h = (omega arith, λ e. omega (arith, e))
unread_late ending.Done h = absurd h
unread_late ending.NoPlan h = absurd h
unread_late ending.BrokenRule h = absurd h
unread_late ending.Usage h = absurd h
unread_late ending.PlaceFault h = absurd h
unread_late (ending.WriteFault f) h = absurd h
unread_late ending.ReportFault h = absurd h
unread_late (ending.OnDisk end) h = absurd h

disk_late : (end : DiskEnd) → IsLate (status_of (ending.OnDisk end))
disk_late disk_end.Fault = (omega arith, λ e. omega (arith, e))
disk_late disk_end.Damaged = (omega arith, λ e. omega (arith, e))
disk_late (disk_end.Other line) = (omega arith, λ e. omega (arith, e))

early_late : (how : Ending) → IsEarly how → IsLate (status_of how)
early_late (ending.OnDisk end) h = disk_late end
early_late ending.Memory h = (omega arith, λ e. omega (arith, e))
early_late (ending.Refused r) h = absurd h
early_late (ending.ReadFault f) h = absurd h
early_late ending.Done h = absurd h
early_late ending.NoPlan h = absurd h
early_late ending.BrokenRule h = absurd h
early_late ending.Usage h = absurd h
early_late ending.PlaceFault h = absurd h
early_late (ending.WriteFault f) h = absurd h
early_late ending.ReportFault h = absurd h

late_never : (s code : ℕ) → IsLate s → code ≡ s → IsWrittenAt code → ⊥
late_never s code late e (inl le) = omega (arith, late.0, e, le)
late_never s code late e (inr is) = late.1 (sym e ∙ is)

six_late : IsLate 6
six_late = (omega arith, λ e. omega (arith, e))

unwritten_at : (how : Ending) (answer : Result (Unit {0}) FolderFault) (code : ℕ) → IsLate (status_of how) → code ≡ status_after how answer → IsWrittenAt code → ⊥
unwritten_at how answer code late is at = elim (status_cases how answer code is) [
  | inl e ↦ late_never (status_of how) code late e at
  | inr e ↦ late_never 6 code six_late e at
]

not_begun : (before now : World) → ((f : File) → now.folder.written f ≡ before.folder.written f) → HasBegun before now → ⊥
not_begun before now same begun = begun.1 (same begun.0)

-- ---- a disk that nothing was asked of

pub only_opens : (was : DiskSide) → HasNothingPending was.file → OnlyOpens was was
only_opens was nothing = starts was (IsOpening was.file.bytes) (λ c left. inl (nothing_pending_is was.file c nothing left))

pub shown_is : (shown : Option DiskSide) (was : DiskSide) → shown ≡ Some was → IfSome shown (λ d. HasNothingPending d.file) → HasNothingPending was.file
shown_is shown was is h = subst (λ (o : Option DiskSide). IfSome o (λ d. HasNothingPending d.file)) is h

pub shown-same : (shown shown' : Option DiskSide) (P : DiskSide → DiskSide → Type 0) → shown' ≡ shown → IfSome shown (λ d. HasNothingPending d.file) → ((was : DiskSide) → OnlyOpens was was → P was was) → WhereShown shown shown' P
shown-same shown shown' P same nothing each was is = (was, same ∙ is, each was (only_opens was (shown_is shown was is nothing)))

-- ---- what is promised of the run

-- a run that ended so before it wrote anything
pub wrote_nothing : (before mid : World) (now : SinkSide) (how : Ending) (code : ℕ) → IsUnreported before mid → IsLate (status_of how) → TellsEnd how mid.sink now code → WritesNothing before (world mid.folder now) code
wrote_nothing before mid now how code same late given = record {
  unbegun = unbegun-tells_end before mid now how code same given;
  late = unwritten_at how given.answer code late given.status;
}

none_runs : (before mid : World) (now : SinkSide) (shown shown' : Option DiskSide) (faults faults' : ℕ) (how : Ending) (code : ℕ) → SetsNone before mid shown shown' how → TellsEnd how mid.sink now code → RunsKept (asked_here command_is.Store) before (world mid.folder now) faults faults' shown shown' code
none_runs before mid now shown shown' faults faults' how code h given = inr (record {
  held = 0;
  keeps = promised (kept_meaning 0) (asked_here command_is.Store) before (world mid.folder now) code (runs-tells_end (kept_meaning 0) (asked_here command_is.Store) before mid now how code h.obeys given);
  counts = inl (wrote_nothing before mid now how code h.unreported (unread_late how h.unread) given);
})

-- the same for any number of entries that were held
prepares_at : (held : ℕ) (before mid : Outside) (k : KeptStory) → Prepares (kept_meaning 0) command_is.Store before mid k → Prepares (kept_meaning held) command_is.Store before mid k
prepares_at held before mid k p = record { tries = record { only = p.tries.only; in_order = p.tries.in_order }; read = p.read; sets = p.sets; sound = p.sound }

stopped_runs : (before : World) (mid : Outside) (now : SinkSide) (faults faults' : ℕ) (shown shown' : Option DiskSide) (k : KeptStory) (how : Ending) (code : ℕ) → Prepares (kept_meaning 0) command_is.Store before.folder mid k → IsEarly how → (how ≡ ending.OnDisk disk_end.Fault → Rose faults faults')
    → WhereShown shown shown' (λ was now. LeavesJournal k was now how) → TellsEnd how before.sink now code → RunsKept (asked_here command_is.Store) before (world mid now) faults faults' shown shown' code
stopped_runs before mid now faults faults' shown shown' k (ending.OnDisk end) code p early failed disk given = inl (record {
  how = end;
  answer = given.answer;
  line = given.line;
  status = given.status;
  cause = λ is. failed (ap (λ (e : DiskEnd). let how : Ending = ending.OnDisk e in how) is);
  named = record { no_fault = λ e. absurd cc; directories = p.tries.only.directories; faults = p.tries.only.place_faults };
  read = p.read;
  says = λ x tells. (k, p.sets x tells, disk);
  written = p.tries.only.written;
  few = p.tries.only.few;
  unread = p.tries.only.unread;
  unput = λ f. record { written = p.tries.only.written f; faults = p.tries.only.put_faults f };
  sink_kept = given.line.faults.kept;
})
stopped_runs before mid now faults faults' shown shown' k ending.Memory code p early failed disk given = inr (record {
  held = 0;
  keeps = promised (kept_meaning 0) (asked_here command_is.Store) before (world mid now) code (runs-tells_end (kept_meaning 0) (asked_here command_is.Store) before (world mid before.sink) now ending.Memory code (obeys-memory (kept_meaning 0) command_is.Store before.folder mid before.sink p.tries) given);
  counts = inl (wrote_nothing before (world mid before.sink) now ending.Memory code (record { written = p.tries.only.written; sink = refl }) six_late given);
})
stopped_runs before mid now faults faults' shown shown' k (ending.Refused r) code p early failed disk given = absurd early
stopped_runs before mid now faults faults' shown shown' k (ending.ReadFault f) code p early failed disk given = absurd early
stopped_runs before mid now faults faults' shown shown' k ending.Done code p early failed disk given = absurd early
stopped_runs before mid now faults faults' shown shown' k ending.NoPlan code p early failed disk given = absurd early
stopped_runs before mid now faults faults' shown shown' k ending.BrokenRule code p early failed disk given = absurd early
stopped_runs before mid now faults faults' shown shown' k ending.Usage code p early failed disk given = absurd early
stopped_runs before mid now faults faults' shown shown' k ending.PlaceFault code p early failed disk given = absurd early
stopped_runs before mid now faults faults' shown shown' k (ending.WriteFault f) code p early failed disk given = absurd early
stopped_runs before mid now faults faults' shown shown' k ending.ReportFault code p early failed disk given = absurd early

-- the entries that the file held are counted
written_counted : (x : Inputs) (before now : World) (shown shown' : Option DiskSide) (k : KeptStory) (how : Ending) → kept_of x ≡ Ok k → (h : EndsWritten k before now shown shown' how) → WhereShown shown shown' (HoldsSince h.held x)
written_counted x before now shown shown' k how sets h was is =
    let d = h.disk was is in
    (d.0, d.1, (record { keeps = record { k = k; sets = sets; can = kept_stored x k sets; records = d.2.0; passes = d.2.1 }; all = d.2.2 }, d.2.3))

written_runs : (before mid : World) (now : SinkSide) (at : Outside) (shown shown' : Option DiskSide) (faults faults' : ℕ) (k : KeptStory) (how : Ending) (code : ℕ) → Prepares (kept_meaning 0) command_is.Store before.folder at k → EndsWritten k (world at before.sink) mid shown shown' how → TellsEnd how mid.sink now code → RunsKept (asked_here command_is.Store) before (world mid.folder now) faults faults' shown shown' code
written_runs before mid now at shown shown' faults faults' k how code p h given = inr (record {
  held = h.held;
  keeps = promised (kept_meaning h.held) (asked_here command_is.Store) before (world mid.folder now) code
      (runs-tells_end (kept_meaning h.held) (asked_here command_is.Store) before mid now how code
      (obeys-done (kept_meaning h.held) command_is.Store before.folder at mid.folder before.sink mid.sink k how (prepares_at h.held before.folder at k p) h.completes) given);
  counts = inr (λ x tells. written_counted x (world at before.sink) mid shown shown' k how (p.sets x tells) h);
})

early_runs : (before mid : World) (now : SinkSide) (at : Outside) (shown shown' : Option DiskSide) (faults faults' : ℕ) (k : KeptStory) (how : Ending) (code : ℕ) → Prepares (kept_meaning 0) command_is.Store before.folder at k → EndsEarly k (world at before.sink) mid shown shown' how → (how ≡ ending.OnDisk disk_end.Fault → Rose faults faults') → TellsEnd how mid.sink now code → RunsKept (asked_here command_is.Store) before (world mid.folder now) faults faults' shown shown' code
early_runs before mid now at shown shown' faults faults' k how code p h failed given =
    let sink : mid.sink ≡ before.sink = ap (λ (w : World). w.sink) h.same in
    let folder : mid.folder ≡ at = ap (λ (w : World). w.folder) h.same in
    subst (λ (o : Outside). RunsKept (asked_here command_is.Store) before (world o now) faults faults' shown shown' code) (sym folder)
    (stopped_runs before at now faults faults' shown shown' k how code p h.early failed h.disk (subst (λ (s : SinkSide). TellsEnd how s now code) sink given))

story_runs : (before mid : World) (now : SinkSide) (shown shown' : Option DiskSide) (faults faults' : ℕ) (how : Ending) (code : ℕ) (h : SetsStory before mid shown shown' how) → KeepsStory h.k (world h.mid before.sink) mid shown shown' how → (how ≡ ending.OnDisk disk_end.Fault → Rose faults faults') → TellsEnd how mid.sink now code → RunsKept (asked_here command_is.Store) before (world mid.folder now) faults faults' shown shown' code
story_runs before mid now shown shown' faults faults' how code h (inl early) failed given = early_runs before mid now h.mid shown shown' faults faults' h.k how code h.prepares early failed given
story_runs before mid now shown shown' faults faults' how code h (inr written) failed given = written_runs before mid now h.mid shown shown' faults faults' h.k how code h.prepares written given

pub store-runs : (before mid : World) (now : SinkSide) (shown shown' : Option DiskSide) (faults faults' : ℕ) (how : Ending) (code : ℕ) → ObeysStore before mid shown shown' how → (how ≡ ending.OnDisk disk_end.Fault → Rose faults faults') → TellsEnd how mid.sink now code → RunsKept (asked_here command_is.Store) before (world mid.folder now) faults faults' shown shown' code
store-runs before mid now shown shown' faults faults' how code (inl h) failed given = none_runs before mid now shown shown' faults faults' how code h given
store-runs before mid now shown shown' faults faults' how code (inr h) failed given = story_runs before mid now shown shown' faults faults' how code h h.keeps failed given

-- ---- the disk, at each moment

passes : (k : KeptStory) (x : Inputs) (was now : DiskSide) → kept_of x ≡ Ok k → OnlyOpens was now ⊎ ((records : List (List ℕ)) × PassesComparison k records was now) → StandsAlways x was now
passes k x was now sets (inl opens) = inl opens
passes k x was now sets (inr h) = inr (record { k = k; sets = sets; can = kept_stored x k sets; records = h.0; passes = h.1 })

left_always : (k : KeptStory) (x : Inputs) (was now : DiskSide) (how : Ending) → kept_of x ≡ Ok k → LeavesJournal k was now how → StandsAlways x was now
left_always k x was now (ending.OnDisk disk_end.Fault) sets h = passes k x was now sets h
left_always k x was now (ending.OnDisk disk_end.Damaged) sets h = inl (read_opens was now h.1)
left_always k x was now (ending.OnDisk (disk_end.Other line)) sets h = inl h.1
left_always k x was now ending.Memory sets h = passes k x was now sets h
left_always k x was now (ending.Refused r) sets h = passes k x was now sets h
left_always k x was now (ending.ReadFault f) sets h = passes k x was now sets h
left_always k x was now ending.Done sets h = passes k x was now sets h
left_always k x was now ending.NoPlan sets h = passes k x was now sets h
left_always k x was now ending.BrokenRule sets h = passes k x was now sets h
left_always k x was now ending.Usage sets h = passes k x was now sets h
left_always k x was now ending.PlaceFault sets h = passes k x was now sets h
left_always k x was now (ending.WriteFault f) sets h = passes k x was now sets h
left_always k x was now ending.ReportFault sets h = passes k x was now sets h

story_always : (x : Inputs) (before now : World) (shown shown' : Option DiskSide) (k : KeptStory) (how : Ending) → kept_of x ≡ Ok k → KeepsStory k before now shown shown' how → WhereShown shown shown' (StandsAlways x)
story_always x before now shown shown' k how sets (inl early) was is =
    let d = early.disk was is in
    (d.0, d.1, left_always k x was d.0 how sets d.2)
story_always x before now shown shown' k how sets (inr written) was is =
    let d = written.disk was is in
    (d.0, d.1, inr (record { k = k; sets = sets; can = kept_stored x k sets; records = d.2.0; passes = d.2.1 }))

pub store-always : (before mid : World) (shown shown' : Option DiskSide) (how : Ending) (x : Inputs) → IfSome shown (λ d. HasNothingPending d.file) → Tells (files_read command_is.Store) before.folder x → ObeysStore before mid shown shown' how → WhereShown shown shown' (StandsAlways x)
store-always before mid shown shown' how x nothing tells (inl h) = shown-same shown shown' (StandsAlways x) h.same nothing (λ was opens. inl opens)
store-always before mid shown shown' how x nothing tells (inr h) = story_always x (world h.mid before.sink) mid shown shown' h.k how (h.prepares.sets x tells) h.keeps

-- ---- at the end

written_all : (x : Inputs) (before now : World) (shown shown' : Option DiskSide) (k : KeptStory) (how : Ending) → kept_of x ≡ Ok k → EndsWritten k before now shown shown' how → WhereShown shown shown' (HoldsAll x)
written_all x before now shown shown' k how sets h was is =
    let d = h.disk was is in
    (d.0, d.1, record { keeps = record { k = k; sets = sets; can = kept_stored x k sets; records = d.2.0; passes = d.2.1 }; all = d.2.2 })

-- neither wrote a file
abbrev Began : World → World → ℕ → Type 0
Began before now code = IsWrittenAt code ⊎ HasBegun before now

never_began : (before now : World) (how : Ending) (answer : Result (Unit {0}) FolderFault) (code : ℕ) → IsLate (status_of how) → code ≡ status_after how answer → ((f : File) → now.folder.written f ≡ before.folder.written f) → Began before now code → ⊥
never_began before now how answer code late is same (inl at) = unwritten_at how answer code late is at
never_began before now how answer code late is same (inr begun) = not_begun before now same begun

early_same : (before mid : World) (at : Outside) → ((f : File) → at.written f ≡ before.folder.written f) → mid ≡ world at before.sink → (f : File) → mid.folder.written f ≡ before.folder.written f
early_same before mid at same is f = ap (λ (w : World). w.folder.written f) is ∙ same f

story_stored : (before mid : World) (now : SinkSide) (shown shown' : Option DiskSide) (how : Ending) (code : ℕ) (x : Inputs) (h : SetsStory before mid shown shown' how) → KeepsStory h.k (world h.mid before.sink) mid shown shown' how → Tells (files_read command_is.Store) before.folder x → TellsEnd how mid.sink now code → Began before (world mid.folder now) code → WhereShown shown shown' (HoldsAll x)
story_stored before mid now shown shown' how code x h (inl early) tells given began =
    absurd (never_began before (world mid.folder now) how given.answer code (early_late how early.early) given.status (early_same before mid h.mid h.prepares.tries.only.written early.same) began)
story_stored before mid now shown shown' how code x h (inr written) tells given began = written_all x (world h.mid before.sink) mid shown shown' h.k how (h.prepares.sets x tells) written

pub store-stored : (before mid : World) (now : SinkSide) (shown shown' : Option DiskSide) (how : Ending) (code : ℕ) (x : Inputs) → Tells (files_read command_is.Store) before.folder x → ObeysStore before mid shown shown' how → TellsEnd how mid.sink now code → IsWrittenAt code ⊎ HasBegun before (world mid.folder now) → WhereShown shown shown' (HoldsAll x)
store-stored before mid now shown shown' how code x tells (inl h) given began = absurd (never_began before (world mid.folder now) how given.answer code (unread_late how h.unread) given.status h.unreported.written began)
store-stored before mid now shown shown' how code x tells (inr h) given began = story_stored before mid now shown shown' how code x h h.keeps tells given began

-- ---- at 3

code_is : (how : Ending) (answer : Result (Unit {0}) FolderFault) (code s : ℕ) → code ≡ status_after how answer → code ≡ s → s ≢ 6 → status_of how ≡ s
code_is how answer code s is at other = elim (status_cases how answer code is) [
  | inl e ↦ sym e ∙ at
  | inr e ↦ absurd (other (sym at ∙ e))
]

three_opens : (k : KeptStory) (was now : DiskSide) (how : Ending) → IsEarly how → status_of how ≡ 3 → LeavesJournal k was now how → OnlyOpens was now
three_opens k was now (ending.OnDisk disk_end.Fault) early e h = absurd (omega (arith, e))
three_opens k was now (ending.OnDisk disk_end.Damaged) early e h = read_opens was now h.1
three_opens k was now (ending.OnDisk (disk_end.Other line)) early e h = h.1
three_opens k was now ending.Memory early e h = absurd (omega (arith, e))
three_opens k was now (ending.Refused r) early e h = absurd early
three_opens k was now (ending.ReadFault f) early e h = absurd early
three_opens k was now ending.Done early e h = absurd early
three_opens k was now ending.NoPlan early e h = absurd early
three_opens k was now ending.BrokenRule early e h = absurd early
three_opens k was now ending.Usage early e h = absurd early
three_opens k was now ending.PlaceFault early e h = absurd early
three_opens k was now (ending.WriteFault f) early e h = absurd early
three_opens k was now ending.ReportFault early e h = absurd early

-- a run that came to its writing ends with neither 3 nor 8
written_ends : (before now : World) (o : Outcome) (how : Ending) → Leaves before now o how → (status_of how ≢ 3) × (status_of how ≢ 8)
written_ends before now o ending.Done h = (λ e. omega (arith, e), λ e. omega (arith, e))
written_ends before now o ending.NoPlan h = (λ e. omega (arith, e), λ e. omega (arith, e))
written_ends before now o ending.BrokenRule h = (λ e. omega (arith, e), λ e. omega (arith, e))
written_ends before now o (ending.WriteFault f) h = (λ e. omega (arith, e), λ e. omega (arith, e))
written_ends before now o ending.ReportFault h = (λ e. omega (arith, e), λ e. omega (arith, e))
written_ends before now o ending.Memory h = (λ e. omega (arith, e), λ e. omega (arith, e))
written_ends before now o (ending.Refused r) h = absurd h
written_ends before now o (ending.ReadFault f) h = absurd h
written_ends before now o ending.Usage h = absurd h
written_ends before now o ending.PlaceFault h = absurd h
written_ends before now o (ending.OnDisk end) h = absurd h

story_refused : (before now : World) (shown shown' : Option DiskSide) (k : KeptStory) (how : Ending) → status_of how ≡ 3 → KeepsStory k before now shown shown' how → WhereShown shown shown' OnlyOpens
story_refused before now shown shown' k how e (inl early) = λ was is. (let d = early.disk was is in (d.0, d.1, three_opens k was d.0 how early.early e d.2))
story_refused before now shown shown' k how e (inr written) = absurd ((written_ends before now (kept written.held k.story) how written.completes.leaves).0 e)

pub store-refused : (before mid : World) (now : SinkSide) (shown shown' : Option DiskSide) (how : Ending) (code : ℕ) → IfSome shown (λ d. HasNothingPending d.file) → ObeysStore before mid shown shown' how → TellsEnd how mid.sink now code → code ≡ 3 → WhereShown shown shown' OnlyOpens
store-refused before mid now shown shown' how code nothing (inl h) given three = shown-same shown shown' OnlyOpens h.same nothing (λ was opens. opens)
store-refused before mid now shown shown' how code nothing (inr h) given three =
    story_refused (world h.mid before.sink) mid shown shown' h.k how (code_is how given.answer code 3 given.status three (λ e. omega (arith, e))) h.keeps

-- ---- at 8

eight_is : (how : Ending) → IsEarly how → status_of how ≡ 8 → how ≡ ending.OnDisk disk_end.Fault
eight_is (ending.OnDisk disk_end.Fault) early e = refl
eight_is (ending.OnDisk disk_end.Damaged) early e = absurd (omega (arith, e))
eight_is (ending.OnDisk (disk_end.Other line)) early e = absurd (omega (arith, e))
eight_is ending.Memory early e = absurd (omega (arith, e))
eight_is (ending.Refused r) early e = absurd early
eight_is (ending.ReadFault f) early e = absurd early
eight_is ending.Done early e = absurd early
eight_is ending.NoPlan early e = absurd early
eight_is ending.BrokenRule early e = absurd early
eight_is ending.Usage early e = absurd early
eight_is ending.PlaceFault early e = absurd early
eight_is (ending.WriteFault f) early e = absurd early
eight_is ending.ReportFault early e = absurd early

unread_eight : (how : Ending) → SetsNoStory how → status_of how ≡ 8 → ⊥
unread_eight (ending.Refused r) h e = omega (arith, e)
unread_eight (ending.ReadFault f) h e = omega (arith, e)
unread_eight ending.Memory h e = omega (arith, e)
unread_eight ending.Done h e = h
unread_eight ending.NoPlan h e = h
unread_eight ending.BrokenRule h e = h
unread_eight ending.Usage h e = h
unread_eight ending.PlaceFault h e = h
unread_eight (ending.WriteFault f) h e = h
unread_eight ending.ReportFault h e = h
unread_eight (ending.OnDisk end) h e = h

story_eight : (before now : World) (shown shown' : Option DiskSide) (k : KeptStory) (how : Ending) → status_of how ≡ 8 → KeepsStory k before now shown shown' how → how ≡ ending.OnDisk disk_end.Fault
story_eight before now shown shown' k how e (inl early) = eight_is how early.early e
story_eight before now shown shown' k how e (inr written) = absurd ((written_ends before now (kept written.held k.story) how written.completes.leaves).1 e)

how_eight : (before mid : World) (shown shown' : Option DiskSide) (how : Ending) → status_of how ≡ 8 → ObeysStore before mid shown shown' how → how ≡ ending.OnDisk disk_end.Fault
how_eight before mid shown shown' how e (inl h) = absurd (unread_eight how h.unread e)
how_eight before mid shown shown' how e (inr h) = story_eight (world h.mid before.sink) mid shown shown' h.k how e h.keeps

pub store-failed : (before mid : World) (now : SinkSide) (shown shown' : Option DiskSide) (faults faults' : ℕ) (how : Ending) (code : ℕ) → ObeysStore before mid shown shown' how → (how ≡ ending.OnDisk disk_end.Fault → Rose faults faults') → TellsEnd how mid.sink now code → code ≡ 8 → Rose faults faults'
store-failed before mid now shown shown' faults faults' how code h failed given eight =
    failed (how_eight before mid shown shown' how (code_is how given.answer code 8 given.status eight (λ e. omega (arith, e))) h)
