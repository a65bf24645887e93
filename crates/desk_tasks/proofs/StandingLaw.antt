-- What stands outside after a run, from how it ended.
use Rattle.std.proofs.Common.{◌≡◌, ℕ, false, ◌+◌, ◌≤◌, List, length, take, refl, sym, subst, ap, ◌∙◌, arith, inl, inr, ◌⊎◌}
use Rattle.std.specs.Prelude.{Option, Some, None, IfSome, Result, Ok, Err, nat_le}
use Rattle.std.specs.Io.KnownBytes.{Appends, Keeps}
use Rattle.std.proofs.KnownBytes.{Appends-trans}
use Rattle.std.proofs.lemmas.Bool.{cases_Bool, leb-true, leb-false}
use Rattle.std.proofs.lemmas.List.{take_all}
use Rattle.desk_folder.specs.declared.files.File.{File}
use Rattle.desk_folder.specs.declared.faults.FolderFault.{FolderFault}
use Rattle.desk_folder.specs.declared.faults.FolderFault.TheVariants as fault
use Rattle.desk_folder.specs.Outside.{Outside, SinkSide, Directories}
use Rattle.desk_folder.specs.Calls.{AppendsPrefix, Rose}
use Rattle.desk_folder.specs.Texts.{PutsReport}
use Rattle.desk_folder.specs.Outputs.{is_among, IsUnput}
use Rattle.desk_folder.proofs.PutAll.{keeps-same, appends-nothing, begins-whole, ArePut-less, ArePut-none, ArePut-either}
use Rattle.desk_tasks.specs.declared.refusal.Refusal.{Refusal}
use Rattle.desk_tasks.specs.declared.ending.Ending.{Ending}
use Rattle.desk_tasks.specs.declared.ending.Ending.TheVariants as ending
use Rattle.desk_tasks.specs.Commands.{Ask, files_read, files_written, reads, writes}
use Rattle.desk_tasks.specs.Inputs.{Inputs, Tells}
use Rattle.desk_tasks.specs.Reading.{IsUnread, HasFewTurns, StopsAt}
use Rattle.desk_tasks.specs.Outcome.{Texts, fault_text, status_of}
use Rattle.desk_tasks.specs.Runs.{World, Meaning, AreNamed, IsPlaced, IsUnreported, IsWritten, Stops, StopsIn, StopsInReport, SetsTask, Does, AreRead, IsUntouched, Obeys, EndsBy, Runs, status_after}
use Rattle.desk_tasks.specs.Causes.{IsDoneAt}
use Rattle.desk_tasks.specs.Standing.{texts_by, finished_texts, AreBegun, AreWhole, IsRefusedSo, ReportsFault, IsNamedAt, IsUnnamed}
use Rattle.desk_tasks.proofs.CausesLaw.{status_cases, cause_after, caused-by}

-- ---- before the fault's line: writing stopped somewhere, perhaps before its first byte or after its last one

stops_unreported : (before mid : World) (t : Texts) → IsUnreported before mid → Stops before mid t
stops_unreported before mid t h =
    let keeps : Keeps before.sink.written mid.sink.written = keeps-same before.sink.written mid.sink.written (ap (λ (s : SinkSide). s.written) h.sink) in
    let none : AppendsPrefix before.sink.written mid.sink.written t.report = (0, appends-nothing before.sink.written mid.sink.written keeps) in
    ArePut-none (λ f. Keeps before.sink.written mid.sink.written) (AppendsPrefix before.sink.written mid.sink.written t.report) t.files before.folder mid.folder
    (λ f among. h.written f) (λ f. keeps) none

stops_written : (before mid : World) (t : Texts) → IsWritten before mid t → Stops before mid t
stops_written before mid t h =
    ArePut-less (λ f. ⊥) (λ f. Keeps before.sink.written mid.sink.written) (Appends before.sink.written mid.sink.written t.report) (AppendsPrefix before.sink.written mid.sink.written t.report) t.files before.folder mid.folder
    (λ f none. absurd none) (begins-whole before.sink.written mid.sink.written t.report) h

stops_in_file : (before mid : World) (t : Texts) (f : File) → StopsIn f before mid t → Stops before mid t
stops_in_file before mid t f h =
    ArePut-less (λ g. (g ≡ f) × Keeps before.sink.written mid.sink.written) (λ g. Keeps before.sink.written mid.sink.written) ⊥ (AppendsPrefix before.sink.written mid.sink.written t.report) t.files before.folder mid.folder
    (λ g here. here.1) (λ none. absurd none) h

stops_in_report : (before mid : World) (t : Texts) → StopsInReport before mid t → Stops before mid t
stops_in_report before mid t h =
    ArePut-less (λ f. ⊥) (λ f. Keeps before.sink.written mid.sink.written) (AppendsPrefix before.sink.written mid.sink.written t.report) (AppendsPrefix before.sink.written mid.sink.written t.report) t.files before.folder mid.folder
    (λ f none. absurd none) (λ part. part) h

-- the texts of the task that the inputs set
stops_reported : {Rows Task : Type 0} (M : Meaning Rows Task) (a : Ask) (before mid : World) (x : Inputs) (t : Task) → SetsTask M a.command x t → Stops before mid (M.outcome t).texts → Stops before mid (finished_texts M (Some a) x)
stops_reported {Task = Task} M a before mid x t given h = subst (λ (r : Result Task Refusal). Stops before mid (texts_by M (files_written a.command) r)) (sym given) h

stops_does : {Rows Task : Type 0} (M : Meaning Rows Task) (a : Ask) (before mid : World) (x : Inputs) (how : Ending) → Obeys M a before mid how → Does M a.command before mid x how → Stops before mid (finished_texts M (Some a) x)
stops_does M a before mid x ending.Done run does = stops_reported M a before mid x does.0 does.1 (stops_written before mid (M.outcome does.0).texts does.2.written)
stops_does M a before mid x ending.NoPlan run does = stops_reported M a before mid x does.0 does.1 (stops_written before mid (M.outcome does.0).texts does.2.written)
stops_does M a before mid x ending.BrokenRule run does = stops_reported M a before mid x does.0 does.1 (stops_written before mid (M.outcome does.0).texts does.2.written)
stops_does M a before mid x ending.Usage run does = absurd does
stops_does M a before mid x (ending.Refused r) run does = stops_unreported before mid (finished_texts M (Some a) x) run.silent
stops_does M a before mid x ending.PlaceFault run does = stops_unreported before mid (finished_texts M (Some a) x) run.silent.0
stops_does M a before mid x (ending.ReadFault f) run does = stops_unreported before mid (finished_texts M (Some a) x) run.silent.0
stops_does M a before mid x (ending.WriteFault f) run does = stops_reported M a before mid x does.0 does.1 (stops_in_file before mid (M.outcome does.0).texts f does.2)
stops_does M a before mid x ending.ReportFault run does = stops_reported M a before mid x does.0 does.1 (stops_in_report before mid (M.outcome does.0).texts does.2)
stops_does M a before mid x ending.Memory run (inl h) = stops_unreported before mid (finished_texts M (Some a) x) h
stops_does M a before mid x ending.Memory run (inr does) = stops_reported M a before mid x does.0 does.1 does.2
stops_does M a before mid x (ending.OnDisk end) run does = absurd does

untouched : (before mid : World) → IsUntouched before mid → IsUnreported before mid
untouched before mid h = record { written = λ f. ap (λ (o : Outside). o.written f) h.folder; sink = h.sink }

stops_by : {Rows Task : Type 0} (M : Meaning Rows Task) (ask : Option Ask) (before mid : World) (x : Inputs) (how : Ending) → Tells (reads ask) before.folder x → EndsBy M ask before mid how → Stops before mid (finished_texts M ask x)
stops_by M None before mid x how tells ends = stops_unreported before mid (finished_texts M None x) (untouched before mid ends.1)
stops_by M (Some a) before mid x how tells ends = stops_does M a before mid x how ends (ends.does x tells)

-- so much of the report stands in the sink, none of it where an output file is not whole
record Reports (before mid : World) (t : Texts) : Type 0 where
  reported : ℕ
  sink : Appends before.sink.written mid.sink.written (take reported t.report)
  files : (reported ≡ 0) ⊎ AreWhole before.folder mid.folder t

unreported : (before mid : World) (t : Texts) → Keeps before.sink.written mid.sink.written → Reports before mid t
unreported before mid t h = record { reported = 0; sink = appends-nothing before.sink.written mid.sink.written h; files = inl refl }

reports_of : (before mid : World) (t : Texts) → Stops before mid t → Reports before mid t
reports_of before mid t h =
    elim (ArePut-either (λ f. Keeps before.sink.written mid.sink.written) (AppendsPrefix before.sink.written mid.sink.written t.report) t.files before.folder mid.folder h) [
      | inl whole ↦ record { reported = whole.1.0; sink = whole.1.1; files = inr whole.0 }
      | inr short ↦ unreported before mid t short.1
    ]

-- ---- 2, 3 and 4: nothing is written

silent_by : {Rows Task : Type 0} (M : Meaning Rows Task) (a : Ask) (before mid : World) (how : Ending) → 2 ≤ status_of how → status_of how ≤ 4 → Obeys M a before mid how → IsUnreported before mid
silent_by M a before mid (ending.Refused r) low high run = run.silent
silent_by M a before mid ending.PlaceFault low high run = run.silent.0
silent_by M a before mid (ending.ReadFault f) low high run = run.silent.0
silent_by M a before mid ending.Usage low high run = absurd (run.no_usage refl)
silent_by M a before mid ending.Done low high run = absurd (omega arith)
silent_by M a before mid ending.NoPlan low high run = absurd (omega arith)
silent_by M a before mid ending.BrokenRule low high run = absurd (omega arith)
silent_by M a before mid (ending.WriteFault f) low high run = absurd (omega arith)
silent_by M a before mid ending.ReportFault low high run = absurd (omega arith)
silent_by M a before mid ending.Memory low high run = absurd (omega arith)
silent_by M a before mid (ending.OnDisk end) low high run = absurd run.cause

silent_ask : {Rows Task : Type 0} (M : Meaning Rows Task) (ask : Option Ask) (before mid : World) (how : Ending) → 2 ≤ status_of how → status_of how ≤ 4 → EndsBy M ask before mid how → IsUnreported before mid
silent_ask M None before mid how low high ends = untouched before mid ends.1
silent_ask M (Some a) before mid how low high ends = silent_by M a before mid how low high ends

pub unwritten-of : {Rows Task : Type 0} (M : Meaning Rows Task) (ask : Option Ask) (before now : World) (code : ℕ) → Runs M ask before now code → 2 ≤ code → code ≤ 4 → (f : File) → now.folder.written f ≡ before.folder.written f
unwritten-of M ask before now code run low high f =
    elim (status_cases run.how run.answer code run.status) [
      | inl e ↦ (silent_ask M ask before (record { folder = now.folder; sink = run.sink }) run.how (omega (arith, e)) (omega (arith, e)) run.ends).written f
      | inr e ↦ absurd (omega (arith, e))
    ]

-- ---- no other file is read or written

unread_by : {Rows Task : Type 0} (M : Meaning Rows Task) (ask : Option Ask) (before mid : World) (how : Ending) → EndsBy M ask before mid how → (f : File) → is_among f (reads ask) ≡ false → IsUnread before.folder mid.folder f
unread_by M None before mid how ends f other = record { left = ap (λ (o : Outside). o.left f) ends.1.folder; turns = ap (λ (o : Outside). o.turns f) ends.1.folder; faults = ap (λ (o : Outside). o.next_faults f) ends.1.folder }
unread_by M (Some a) before mid how ends f other = ends.unread f other

pub unread-of : {Rows Task : Type 0} (M : Meaning Rows Task) (ask : Option Ask) (before now : World) (code : ℕ) → Runs M ask before now code → (f : File) → is_among f (reads ask) ≡ false → IsUnread before.folder now.folder f
unread-of M ask before now code run f other = unread_by M ask before (record { folder = now.folder; sink = run.sink }) run.how run.ends f other

few_by : {Rows Task : Type 0} (M : Meaning Rows Task) (ask : Option Ask) (before mid : World) (how : Ending) → EndsBy M ask before mid how → (f : File) → HasFewTurns before.folder mid.folder f
few_by M None before mid how ends f = let same : mid.folder.turns f ≡ before.folder.turns f = ap (λ (o : Outside). o.turns f) ends.1.folder in omega (arith, same)
few_by M (Some a) before mid how ends f = ends.few f

pub few-of : {Rows Task : Type 0} (M : Meaning Rows Task) (ask : Option Ask) (before now : World) (code : ℕ) → Runs M ask before now code → (f : File) → HasFewTurns before.folder now.folder f
few-of M ask before now code run f = few_by M ask before (record { folder = now.folder; sink = run.sink }) run.how run.ends f

pub in-order : {Rows Task : Type 0} (M : Meaning Rows Task) (a : Ask) (before now : World) (code : ℕ) → Runs M (Some a) before now code → (x : Inputs) → Tells (files_read a.command) before.folder x → (r : Refusal) → M.rows a.command x ≡ Err r → StopsAt r.file before.folder now.folder
in-order M a before now code run x tells r refused g lt = run.ends.in_order x tells r refused g lt

unput_by : {Rows Task : Type 0} (M : Meaning Rows Task) (ask : Option Ask) (before mid : World) (how : Ending) → EndsBy M ask before mid how → (f : File) → is_among f (writes ask) ≡ false → IsUnput before.folder mid.folder f
unput_by M None before mid how ends f other = record { written = ap (λ (o : Outside). o.written f) ends.1.folder; faults = ap (λ (o : Outside). o.put_faults f) ends.1.folder }
unput_by M (Some a) before mid how ends f other = ends.unput f other

pub unput-of : {Rows Task : Type 0} (M : Meaning Rows Task) (ask : Option Ask) (before now : World) (code : ℕ) → Runs M ask before now code → (f : File) → is_among f (writes ask) ≡ false → IsUnput before.folder now.folder f
unput-of M ask before now code run f other = unput_by M ask before (record { folder = now.folder; sink = run.sink }) run.how run.ends f other

-- ---- at 0, 1 and 7 all files were read to their end

read_by : {Rows Task : Type 0} (M : Meaning Rows Task) (a : Ask) (before mid : World) (how : Ending) (code : ℕ) → code ≡ status_of how → IsDoneAt code → Obeys M a before mid how → AreRead (files_read a.command) before.folder mid.folder
read_by M a before mid ending.Done code e done run = run.read
read_by M a before mid ending.NoPlan code e done run = run.read
read_by M a before mid ending.BrokenRule code e done run = run.read
read_by M a before mid ending.Usage code e done run = absurd (run.no_usage refl)
read_by M a before mid (ending.Refused r) code e (inl le) run = absurd (omega arith)
read_by M a before mid (ending.Refused r) code e (inr is) run = absurd (omega arith)
read_by M a before mid ending.PlaceFault code e (inl le) run = absurd (omega arith)
read_by M a before mid ending.PlaceFault code e (inr is) run = absurd (omega arith)
read_by M a before mid (ending.ReadFault f) code e (inl le) run = absurd (omega arith)
read_by M a before mid (ending.ReadFault f) code e (inr is) run = absurd (omega arith)
read_by M a before mid (ending.WriteFault f) code e (inl le) run = absurd (omega arith)
read_by M a before mid (ending.WriteFault f) code e (inr is) run = absurd (omega arith)
read_by M a before mid ending.ReportFault code e (inl le) run = absurd (omega arith)
read_by M a before mid ending.ReportFault code e (inr is) run = absurd (omega arith)
read_by M a before mid ending.Memory code e (inl le) run = absurd (omega arith)
read_by M a before mid ending.Memory code e (inr is) run = absurd (omega arith)
read_by M a before mid (ending.OnDisk end) code e done run = absurd run.cause

not_memory : (code : ℕ) → code ≡ 6 → IsDoneAt code → ⊥
not_memory code e (inl le) = omega (arith, e, le)
not_memory code e (inr is) = omega (arith, e, is)

pub read-of : {Rows Task : Type 0} (M : Meaning Rows Task) (a : Ask) (before now : World) (code : ℕ) → Runs M (Some a) before now code → IsDoneAt code → AreRead (files_read a.command) before.folder now.folder
read-of M a before now code run done =
    elim (status_cases run.how run.answer code run.status) [
      | inl e ↦ read_by M a before (record { folder = now.folder; sink = run.sink }) run.how code e done run.ends
      | inr e ↦ absurd (not_memory code e done)
    ]

-- ---- the output files, at any status

pub begun-of : {Rows Task : Type 0} (M : Meaning Rows Task) (ask : Option Ask) (before now : World) (code : ℕ) → Runs M ask before now code → (x : Inputs) → Tells (reads ask) before.folder x → AreBegun before.folder now.folder (finished_texts M ask x)
begun-of M ask before now code run x tells =
    let mid : World = record { folder = now.folder; sink = run.sink } in
    let t = finished_texts M ask x in
    ArePut-less (λ f. Keeps before.sink.written mid.sink.written) (λ f. Unit {0}) (AppendsPrefix before.sink.written mid.sink.written t.report) (Unit {0}) t.files before.folder now.folder
    (λ f keeps. tt) (λ part. tt) (stops_by M ask before mid x run.how tells run.ends)

-- ---- the sink

-- so much of a line was put
put_line : (sink now : SinkSide) (text : List ℕ) (answer : Result (Unit {0}) FolderFault) → PutsReport sink now text answer → AppendsPrefix sink.written now.written text
put_line sink now text (Ok done) h = begins-whole sink.written now.written text h.bytes
put_line sink now text (Err e) h = h.bytes

-- all of it, or why not
line_whole : (sink now : SinkSide) (faults : ℕ) (how : Ending) (answer : Result (Unit {0}) FolderFault) (code : ℕ) → faults ≤ sink.faults → code ≡ status_after how answer → (h : PutsReport sink now (fault_text how) answer)
    → (take (put_line sink now (fault_text how) answer h).0 (fault_text how) ≡ fault_text how) ⊎ ((code ≡ 6) ⊎ Rose faults now.faults)
unfolding put_line begins-whole
line_whole sink now faults how (Ok done) code le e h = inl (take_all (length (fault_text how)) (fault_text how) (omega arith))
line_whole sink now faults how (Err fault.Memory) code le e h = inr (inl e)
line_whole sink now faults how (Err fault.Failed) code le e h = let rose : Rose sink.faults now.faults = h.faults.rose refl in inr (inr (omega (arith, rose, le)))

kept_by : {Rows Task : Type 0} (M : Meaning Rows Task) (ask : Option Ask) (before mid : World) (how : Ending) → EndsBy M ask before mid how → before.sink.faults ≤ mid.sink.faults
kept_by M None before mid how ends = let same : mid.sink.faults ≡ before.sink.faults = ap (λ (s : SinkSide). s.faults) ends.1.sink in omega (arith, same)
kept_by M (Some a) before mid how ends = ends.kept

refused_in : {Rows Task : Type 0} (M : Meaning Rows Task) (ask : Option Ask) (before mid : World) (x : Inputs) (how : Ending) → Tells (reads ask) before.folder x → EndsBy M ask before mid how → (r : Refusal) → how ≡ ending.Refused r → IsRefusedSo M ask x r
refused_in M None before mid x how tells ends r is = absurd (let two : 2 ≡ 3 = ap status_of (sym ends.0 ∙ is) in omega (arith, two))
refused_in M (Some a) before mid x how tells ends r is = subst (λ (e : Ending). Does M a.command before mid x e) is (ends.does x tells)

early : (code : ℕ) → (code ≤ 4) ⊎ (5 ≤ code)
early code = elim (cases_Bool (nat_le code 4)) [
  | inl e ↦ inl (leb-true code 4 e)
  | inr e ↦ inr (leb-false code 4 e)
]

-- with status 2, 3 or 4 none of the report stands there
report_of : {Rows Task : Type 0} (M : Meaning Rows Task) (ask : Option Ask) (before mid : World) (x : Inputs) (how : Ending) (code : ℕ) → 2 ≤ code → (code ≡ status_of how) ⊎ (code ≡ 6) → Tells (reads ask) before.folder x → EndsBy M ask before mid how
    → (h : Reports before mid (finished_texts M ask x)) × (code ≤ 4 → h.reported ≡ 0)
unfolding unreported
report_of M ask before mid x how code low (inr e) tells ends = (reports_of before mid (finished_texts M ask x) (stops_by M ask before mid x how tells ends), λ le. absurd (omega (arith, e, le)))
report_of M ask before mid x how code low (inl e) tells ends = elim (early code) [
  | inl le ↦ (unreported before mid (finished_texts M ask x) (keeps-same before.sink.written mid.sink.written (ap (λ (s : SinkSide). s.written) (silent_ask M ask before mid how (omega (arith, e, low)) (omega (arith, e, le)) ends).sink)), λ le. refl)
  | inr gt ↦ (reports_of before mid (finished_texts M ask x) (stops_by M ask before mid x how tells ends), λ le. absurd (omega (arith, gt, le)))
]

pub fault-reported : {Rows Task : Type 0} (M : Meaning Rows Task) (ask : Option Ask) (before now : World) (code : ℕ) → Runs M ask before now code → (x : Inputs) → Tells (reads ask) before.folder x → 2 ≤ code → ReportsFault M ask before now x code
fault-reported M ask before now code run x tells low =
    let mid : World = record { folder = now.folder; sink = run.sink } in
    let status = status_cases run.how run.answer code run.status in
    let report = report_of M ask before mid x run.how code low status tells run.ends in
    let line = put_line run.sink now.sink (fault_text run.how) run.answer run.line in
    record {
      how = run.how;
      status = status;
      cause = cause_after (reads ask) (writes ask) before now run.sink run.how run.line.faults.kept (caused-by M ask before mid run.how run.ends);
      refusal = refused_in M ask before mid x run.how tells run.ends;
      reported = report.0.reported;
      line_bytes = line.0;
      sink = Appends-trans before.sink.written run.sink.written now.sink.written (take report.0.reported (finished_texts M ask x).report) (take line.0 (fault_text run.how)) report.0.sink line.1;
      unreported = report.1;
      files = report.0.files;
      line = line_whole run.sink now.sink before.sink.faults run.how run.answer code (kept_by M ask before mid run.how run.ends) run.status run.line;
    }

-- ---- the directories

not_named : (code n : ℕ) → code ≡ n → (n ≡ 4) ⊎ (n ≡ 6) → IsNamedAt code → ⊥
not_named code n e (inl four) (inl le) = omega (arith, e, four, le)
not_named code n e (inl four) (inr (inl is)) = omega (arith, e, four, is)
not_named code n e (inl four) (inr (inr is)) = omega (arith, e, four, is)
not_named code n e (inr six) (inl le) = omega (arith, e, six, le)
not_named code n e (inr six) (inr (inl is)) = omega (arith, e, six, is)
not_named code n e (inr six) (inr (inr is)) = omega (arith, e, six, is)

named_by : (dirs : Directories) (before mid : World) (how : Ending) (code : ℕ) → code ≡ status_of how → IsNamedAt code → AreNamed dirs before mid how → IfSome before.folder.directories (λ was. mid.folder.directories ≡ Some dirs)
named_by dirs before mid ending.Done code e at h = h
named_by dirs before mid ending.NoPlan code e at h = h
named_by dirs before mid ending.BrokenRule code e at h = h
named_by dirs before mid ending.Usage code e at h = h
named_by dirs before mid (ending.Refused r) code e at h = h
named_by dirs before mid (ending.ReadFault f) code e at h = h
named_by dirs before mid (ending.WriteFault f) code e at h = h
named_by dirs before mid ending.ReportFault code e at h = h
named_by dirs before mid (ending.OnDisk end) code e at h = h
named_by dirs before mid ending.PlaceFault code e at h = absurd (not_named code 4 e (inl refl) at)
named_by dirs before mid ending.Memory code e at h = absurd (not_named code 6 e (inr refl) at)

-- the directories that are asked for, by what is known of them
placed_as : (place other : Option Directories) (before mid : World) (how : Ending) → place ≡ other → IsPlaced place before mid how → IsPlaced other before mid how
placed_as place other before mid how is h = subst (λ (o : Option Directories). IsPlaced o before mid how) is h

pub named-of : {Rows Task : Type 0} (M : Meaning Rows Task) (a : Ask) (dirs : Directories) (before now : World) (code : ℕ) → Runs M (Some a) before now code → a.place ≡ Some dirs → IsNamedAt code → IfSome before.folder.directories (λ was. now.folder.directories ≡ Some dirs)
named-of M a dirs before now code run place at =
    let mid : World = record { folder = now.folder; sink = run.sink } in
    elim (status_cases run.how run.answer code run.status) [
      | inl e ↦ named_by dirs before mid run.how code e at (placed_as a.place (Some dirs) before mid run.how place run.ends.placed)
      | inr e ↦ absurd (not_named code 6 e (inr refl) at)
    ]

-- where no directories are to be named, none are, and no naming failed
pub unnamed-of : {Rows Task : Type 0} (M : Meaning Rows Task) (a : Ask) (before now : World) (code : ℕ) → Runs M (Some a) before now code → a.place ≡ None → IsUnnamed before now
unnamed-of M a before now code run place =
    let mid : World = record { folder = now.folder; sink = run.sink } in
    let none : IsPlaced None before mid run.how = placed_as a.place None before mid run.how place run.ends.placed in
    record { directories = none.directories; faults = none.faults }
