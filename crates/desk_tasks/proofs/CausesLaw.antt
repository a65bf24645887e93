-- When each status comes, from how a run ended.
use Rattle.std.proofs.Common.{◌≡◌, ℕ, true, ◌≤◌, List, [], refl, sym, subst, ap, ◌∙◌, arith, inl, inr, ◌⊎◌}
use Rattle.std.specs.Prelude.{Option, Some, None, Result, Ok, Err}
use Rattle.desk_folder.specs.declared.files.File.{File}
use Rattle.desk_folder.specs.declared.faults.FolderFault.{FolderFault}
use Rattle.desk_folder.specs.declared.faults.FolderFault.TheVariants as fault
use Rattle.desk_folder.specs.Outside.{SinkSide}
use Rattle.desk_folder.specs.Texts.{PutsReport}
use Rattle.desk_folder.specs.Outputs.{is_among}
use Rattle.desk_tasks.specs.declared.refusal.Refusal.{Refusal}
use Rattle.desk_tasks.specs.declared.ending.Ending.{Ending}
use Rattle.desk_tasks.specs.declared.ending.Ending.TheVariants as ending
use Rattle.desk_tasks.specs.declared.ending.DiskEnd.TheVariants as disk_end
use Rattle.desk_tasks.specs.Commands.{Ask, files_read, files_written, reads, writes}
use Rattle.desk_tasks.specs.Inputs.{Inputs, Tells}
use Rattle.desk_tasks.specs.Reading.{StandsFirst}
use Rattle.desk_tasks.specs.Outcome.{refusal_text, fault_text, status_of}
use Rattle.desk_tasks.specs.Runs.{World, Meaning, HasCause, Obeys, EndsBy, Runs, status_after}
use Rattle.desk_tasks.specs.Causes.{IsUnlessMemory, IsRefused, HasFault, IsNeeded, IsReadable, IsFaultless, AnswersBy, Answers}

-- the status is that of the ending, or memory ran out while the line was put
pub status_cases : (how : Ending) (answer : Result (Unit {0}) FolderFault) (code : ℕ) → code ≡ status_after how answer → (code ≡ status_of how) ⊎ (code ≡ 6)
status_cases how (Ok done) code e = inl e
status_cases how (Err fault.Failed) code e = inl e
status_cases how (Err fault.Memory) code e = inr e

-- a run by what is asked, where it is known what that is
pub run-asked : {Rows Task : Type 0} (M : Meaning Rows Task) (ask : Option Ask) (a : Ask) (before now : World) (code : ℕ) → ask ≡ Some a → Runs M ask before now code → Runs M (Some a) before now code
run-asked M ask a before now code is run = subst (λ (k : Option Ask). Runs M k before now code) is run

usage_by : (how : Ending) → status_of how ≡ 2 → how ≡ ending.Usage
usage_by ending.Usage e = refl
usage_by ending.Done e = absurd (omega arith)
usage_by ending.NoPlan e = absurd (omega arith)
usage_by ending.BrokenRule e = absurd (omega arith)
usage_by (ending.Refused r) e = absurd (omega arith)
usage_by ending.PlaceFault e = absurd (omega arith)
usage_by (ending.ReadFault f) e = absurd (omega arith)
usage_by (ending.WriteFault f) e = absurd (omega arith)
usage_by ending.ReportFault e = absurd (omega arith)
usage_by ending.Memory e = absurd (omega arith)
usage_by (ending.OnDisk disk_end.Fault) e = absurd (omega arith)
usage_by (ending.OnDisk disk_end.Damaged) e = absurd (omega arith)
usage_by (ending.OnDisk (disk_end.Other at)) e = absurd (omega arith)

-- ---- usage

usage_only_by : {Rows Task : Type 0} (M : Meaning Rows Task) (ask : Option Ask) (before now : World) (how : Ending) → EndsBy M ask before now how → status_of how ≡ 2 → ask ≡ None
usage_only_by M None before now how ends e = refl
usage_only_by M (Some a) before now how ends e = absurd (ends.no_usage (usage_by how e))

pub usage-only : {Rows Task : Type 0} (M : Meaning Rows Task) (ask : Option Ask) (before now : World) (code : ℕ) → Runs M ask before now code → code ≡ 2 → ask ≡ None
usage-only M ask before now code run is =
    elim (status_cases run.how run.answer code run.status) [
      | inl e ↦ usage_only_by M ask before (record { folder = now.folder; sink = run.sink }) run.how run.ends (sym e ∙ is)
      | inr e ↦ absurd (omega (arith, e, is))
    ]

usage_how : {Rows Task : Type 0} (M : Meaning Rows Task) (ask : Option Ask) (before now : World) (how : Ending) → EndsBy M ask before now how → ask ≡ None → how ≡ ending.Usage
usage_how M None before now how ends none = ends.0
usage_how M (Some a) before now how ends none = absurd cc

pub usage-from : {Rows Task : Type 0} (M : Meaning Rows Task) (ask : Option Ask) (before now : World) (code : ℕ) → Runs M ask before now code → ask ≡ None → IsUnlessMemory code 2
usage-from M ask before now code run none =
    let how : run.how ≡ ending.Usage = usage_how M ask before (record { folder = now.folder; sink = run.sink }) run.how run.ends none in
    elim (status_cases run.how run.answer code run.status) [
      | inl e ↦ inl (e ∙ ap status_of how)
      | inr e ↦ inr e
    ]

-- ---- refused

refused_line : (sink before now : SinkSide) (r : Refusal) (answer : Result (Unit {0}) FolderFault) → sink ≡ before → PutsReport sink now (fault_text (ending.Refused r)) answer → PutsReport before now (refusal_text r) answer
unfolding fault_text
refused_line sink before now r answer silent line = subst (λ (s : SinkSide). PutsReport s now (refusal_text r) answer) silent line

refused_by : {Rows Task : Type 0} (M : Meaning Rows Task) (a : Ask) (before now : World) (sink : SinkSide) (x : Inputs) (how : Ending) (answer : Result (Unit {0}) FolderFault) → status_of how ≡ 3 → Tells (files_read a.command) before.folder x → Obeys M a before (record { folder = now.folder; sink = sink }) how → PutsReport sink now.sink (fault_text how) answer → IsRefused M a.command before now x
refused_by M a before now sink x (ending.Refused r) answer e tells run line =
    let does = run.does x tells in
    record { refusal = r; first = does; written = run.silent.written; answer = answer; line = refused_line sink before.sink now.sink r answer run.silent.sink line }
refused_by M a before now sink x ending.Done answer e tells run line = absurd (omega arith)
refused_by M a before now sink x ending.NoPlan answer e tells run line = absurd (omega arith)
refused_by M a before now sink x ending.BrokenRule answer e tells run line = absurd (omega arith)
refused_by M a before now sink x ending.Usage answer e tells run line = absurd (omega arith)
refused_by M a before now sink x ending.PlaceFault answer e tells run line = absurd (omega arith)
refused_by M a before now sink x (ending.ReadFault f) answer e tells run line = absurd (omega arith)
refused_by M a before now sink x (ending.WriteFault f) answer e tells run line = absurd (omega arith)
refused_by M a before now sink x ending.ReportFault answer e tells run line = absurd (omega arith)
refused_by M a before now sink x ending.Memory answer e tells run line = absurd (omega arith)
refused_by M a before now sink x (ending.OnDisk end) answer e tells run line = absurd run.cause

pub refused-of : {Rows Task : Type 0} (M : Meaning Rows Task) (a : Ask) (before now : World) (code : ℕ) → Runs M (Some a) before now code → (x : Inputs) → Tells (files_read a.command) before.folder x → code ≡ 3 → IsRefused M a.command before now x
refused-of M a before now code run x tells is =
    elim (status_cases run.how run.answer code run.status) [
      | inl e ↦ refused_by M a before now run.sink x run.how run.answer (sym e ∙ is) tells run.ends run.line
      | inr e ↦ absurd (omega (arith, e, is))
    ]

-- ---- faults of the outside

-- a count that rose before the fault's line was put has risen after it
pub cause_after : (inputs outputs : List File) (before now : World) (sink : SinkSide) (how : Ending) → sink.faults ≤ now.sink.faults → HasCause inputs outputs before (record { folder = now.folder; sink = sink }) how → HasCause inputs outputs before now how
cause_after inputs outputs before now sink ending.PlaceFault kept h = h
cause_after inputs outputs before now sink (ending.ReadFault f) kept h = h
cause_after inputs outputs before now sink (ending.WriteFault f) kept h = h
cause_after inputs outputs before now sink ending.ReportFault kept h = omega (arith, h, kept)
cause_after inputs outputs before now sink ending.Done kept h = tt
cause_after inputs outputs before now sink ending.NoPlan kept h = tt
cause_after inputs outputs before now sink ending.BrokenRule kept h = tt
cause_after inputs outputs before now sink ending.Usage kept h = tt
cause_after inputs outputs before now sink (ending.Refused r) kept h = tt
cause_after inputs outputs before now sink ending.Memory kept h = tt
cause_after inputs outputs before now sink (ending.OnDisk end) kept h = h

-- a run that ended so had a cause
pub caused-by : {Rows Task : Type 0} (M : Meaning Rows Task) (ask : Option Ask) (before mid : World) (how : Ending) → EndsBy M ask before mid how → HasCause (reads ask) (writes ask) before mid how
caused-by M None before mid how ends = subst (λ (e : Ending). HasCause [] [] before mid e) (sym ends.0) tt
caused-by M (Some a) before mid how ends = ends.cause

pub fault-of : {Rows Task : Type 0} (M : Meaning Rows Task) (ask : Option Ask) (before now : World) (code : ℕ) → Runs M ask before now code → 4 ≤ code → code ≤ 5 → HasFault ask before now code
fault-of M ask before now code run low high =
    elim (status_cases run.how run.answer code run.status) [
      | inl e ↦
          let mid : World = record { folder = now.folder; sink = run.sink } in
          let made : HasFault ask before now code = record {
            how = run.how;
            status = sym e;
            cause = cause_after (reads ask) (writes ask) before now run.sink run.how run.line.faults.kept (caused-by M ask before mid run.how run.ends);
            sink = run.sink;
            answer = run.answer;
            line = run.line;
          } in made
      | inr e ↦ absurd (omega (arith, e, high))
    ]

-- ---- where no call fails

memory_answers : {Rows Task : Type 0} (M : Meaning Rows Task) (read : Result Task Refusal) (code : ℕ) → code ≡ 6 → AnswersBy M read code
memory_answers M (Ok t) code e = inr e
memory_answers M (Err r) code e = inr e

answers_task : {Rows Task : Type 0} (M : Meaning Rows Task) (read : Result Task Refusal) (t : Task) (code : ℕ) → read ≡ Ok t → code ≡ (M.outcome t).status → AnswersBy M read code
answers_task {Task = Task} M read t code is e = subst (λ (r : Result Task Refusal). AnswersBy M r code) (sym is) (inl e)

answers_refusal : {Rows Task : Type 0} (M : Meaning Rows Task) (read : Result Task Refusal) (r : Refusal) (code : ℕ) → read ≡ Err r → code ≡ 3 → AnswersBy M read code
answers_refusal {Task = Task} M read r code is e = subst (λ (r : Result Task Refusal). AnswersBy M r code) (sym is) (inl e)

faultless_by : {Rows Task : Type 0} (M : Meaning Rows Task) (a : Ask) (before now : World) (sink : SinkSide) (x : Inputs) (how : Ending) (code : ℕ) → code ≡ status_of how → Tells (files_read a.command) before.folder x → Obeys M a before (record { folder = now.folder; sink = sink }) how → HasCause (files_read a.command) (files_written a.command) before now how → IsFaultless (Some a) before now → Answers M a.command x code
faultless_by M a before now sink x ending.Done code e tells run cause none =
    let does = run.does x tells in answers_task M (M.task a.command x) does.0 code does.1 (e ∙ sym does.2.status_is)
faultless_by M a before now sink x ending.NoPlan code e tells run cause none =
    let does = run.does x tells in answers_task M (M.task a.command x) does.0 code does.1 (e ∙ sym does.2.status_is)
faultless_by M a before now sink x ending.BrokenRule code e tells run cause none =
    let does = run.does x tells in answers_task M (M.task a.command x) does.0 code does.1 (e ∙ sym does.2.status_is)
faultless_by M a before now sink x ending.Usage code e tells run cause none = absurd (run.no_usage refl)
faultless_by M a before now sink x (ending.Refused r) code e tells run cause none =
    let does = run.does x tells in answers_refusal M (M.task a.command x) r code does e
faultless_by M a before now sink x ending.PlaceFault code e tells run cause none = absurd (none.place cause)
faultless_by M a before now sink x (ending.ReadFault f) code e tells run cause none = absurd (none.next f cause.0 cause.1)
faultless_by M a before now sink x (ending.WriteFault f) code e tells run cause none = absurd (none.put f cause.0 cause.1)
faultless_by M a before now sink x ending.ReportFault code e tells run cause none = absurd (none.sink cause)
faultless_by M a before now sink x ending.Memory code e tells run cause none = memory_answers M (M.task a.command x) code e
faultless_by M a before now sink x (ending.OnDisk end) code e tells run cause none = absurd cause

pub complete-of : {Rows Task : Type 0} (M : Meaning Rows Task) (a : Ask) (before now : World) (code : ℕ) → Runs M (Some a) before now code → (x : Inputs) → Tells (files_read a.command) before.folder x → IsFaultless (Some a) before now → Answers M a.command x code
complete-of M a before now code run x tells none =
    elim (status_cases run.how run.answer code run.status) [
      | inl e ↦ faultless_by M a before now run.sink x run.how code e tells run.ends (cause_after (files_read a.command) (files_written a.command) before now run.sink run.how run.line.faults.kept run.ends.cause) none
      | inr e ↦ memory_answers M (M.task a.command x) code e
    ]

-- ---- refused exactly

ok_or_refused : {Rows Task : Type 0} (M : Meaning Rows Task) (read : Result Task Refusal) (t : Task) (r : Refusal) → read ≡ Ok t → read ≡ Err r → ⊥
ok_or_refused {Task = Task} M read t r a b =
    let fine : Result Task Refusal = Ok t in
    let refused : Result Task Refusal = Err r in
    let both : fine ≡ refused = sym a ∙ b in cc

-- a file that could not be read, with no refused file before it, is one that was needed
needed : {Rows : Type 0} (files : List File) (f : File) (read : Result Rows Refusal) → is_among f files ≡ true → StandsFirst f read → IsNeeded files f read
needed files f (Ok rows) among first = among
needed files f (Err r) among first = (among, first)

readable_by : {Rows Task : Type 0} (M : Meaning Rows Task) (a : Ask) (before now : World) (sink : SinkSide) (x : Inputs) (r : Refusal) (how : Ending) (code : ℕ) → code ≡ status_of how → Tells (files_read a.command) before.folder x → Obeys M a before (record { folder = now.folder; sink = sink }) how → HasCause (files_read a.command) (files_written a.command) before now how → IsReadable M a.command before now x → M.task a.command x ≡ Err r → IsUnlessMemory code 3
readable_by M a before now sink x r ending.Done code e tells run cause none err = let does = run.does x tells in absurd (ok_or_refused M (M.task a.command x) does.0 r does.1 err)
readable_by M a before now sink x r ending.NoPlan code e tells run cause none err = let does = run.does x tells in absurd (ok_or_refused M (M.task a.command x) does.0 r does.1 err)
readable_by M a before now sink x r ending.BrokenRule code e tells run cause none err = let does = run.does x tells in absurd (ok_or_refused M (M.task a.command x) does.0 r does.1 err)
readable_by M a before now sink x r ending.Usage code e tells run cause none err = absurd (run.no_usage refl)
readable_by M a before now sink x r (ending.Refused other) code e tells run cause none err = inl e
readable_by M a before now sink x r ending.PlaceFault code e tells run cause none err = absurd (none.place cause)
readable_by M a before now sink x r (ending.ReadFault f) code e tells run cause none err =
    absurd (none.next f (needed (files_read a.command) f (M.rows a.command x) cause.0 (run.does x tells)) cause.1)
readable_by M a before now sink x r (ending.WriteFault f) code e tells run cause none err = let does = run.does x tells in absurd (ok_or_refused M (M.task a.command x) does.0 r does.1 err)
readable_by M a before now sink x r ending.ReportFault code e tells run cause none err = let does = run.does x tells in absurd (ok_or_refused M (M.task a.command x) does.0 r does.1 err)
readable_by M a before now sink x r ending.Memory code e tells run cause none err = inr e
readable_by M a before now sink x r (ending.OnDisk end) code e tells run cause none err = absurd cause

pub refused-from : {Rows Task : Type 0} (M : Meaning Rows Task) (a : Ask) (before now : World) (code : ℕ) → Runs M (Some a) before now code → (x : Inputs) → Tells (files_read a.command) before.folder x → IsReadable M a.command before now x → (r : Refusal) → M.task a.command x ≡ Err r → IsUnlessMemory code 3
refused-from M a before now code run x tells none r err =
    elim (status_cases run.how run.answer code run.status) [
      | inl e ↦ readable_by M a before now run.sink x r run.how code e tells run.ends (cause_after (files_read a.command) (files_written a.command) before now run.sink run.how run.line.faults.kept run.ends.cause) none err
      | inr e ↦ inr e
    ]
