-- What a run that was done has written, the line that names a fault left out, which is then empty.
use Rattle.std.proofs.Common.{◌≡◌, ℕ, ◌≤◌, List, [], ◌++◌, subst, sym, ◌∙◌, arith, refl, inl, inr}
use Rattle.std.specs.Prelude.{Option, Some, None, Result, Ok, Err}
use Rattle.std.specs.Io.KnownBytes.{Appends}
use Rattle.std.proofs.lemmas.List.{append-nil}
use Rattle.std.proofs.Math.Seq.{take-nil}
use Rattle.desk_folder.specs.declared.faults.FolderFault.{FolderFault}
use Rattle.desk_folder.specs.Outside.{SinkSide}
use Rattle.desk_folder.specs.Texts.{TextAppends, PutsReport}
use Rattle.desk_folder.proofs.PutAll.{ArePut-less}
use Rattle.desk_words.specs.declared.asked.Command.{Command}
use Rattle.desk_tasks.specs.declared.ending.Ending.{Ending}
use Rattle.desk_tasks.specs.declared.ending.Ending.TheVariants as ending
use Rattle.desk_tasks.specs.Commands.{Ask, files_read}
use Rattle.desk_tasks.specs.Inputs.{Inputs, Tells}
use Rattle.desk_tasks.specs.Outcome.{Texts, fault_text, status_of}
use Rattle.desk_tasks.specs.Runs.{World, Meaning, Does, Finishes, SetsTask, IsWritten, Runs}
use Rattle.desk_tasks.specs.Causes.{IsDoneAt, IsDone}
use Rattle.desk_tasks.proofs.CausesLaw.{status_cases}

-- nothing is put after what was put
nothing_more : (before mid now : Option (List ℕ)) (text : List ℕ) (answer : Result (Unit {0}) FolderFault) → Appends before mid text → TextAppends mid now [] answer → Appends before now text
nothing_more None mid now text answer h more = tt
nothing_more (Some xs) None now text answer h more = absurd h
nothing_more (Some xs) (Some ys) None text (Ok done) h more = absurd more
nothing_more (Some xs) (Some ys) None text (Err e) h more = absurd more.1
nothing_more (Some xs) (Some ys) (Some zs) text (Ok done) h more = more ∙ append-nil ys ∙ h
nothing_more (Some xs) (Some ys) (Some zs) text (Err e) h more =
    subst (λ (t : List ℕ). zs ≡ ys ++ t) (take-nil more.0) more.1 ∙ append-nil ys ∙ h

written_after : (before now : World) (sink : SinkSide) (t : Texts) (answer : Result (Unit {0}) FolderFault) → IsWritten before (record { folder = now.folder; sink = sink }) t → TextAppends sink.written now.sink.written [] answer → IsWritten before now t
written_after before now sink t answer h more =
    ArePut-less (λ f. ⊥) (λ f. ⊥) (Appends before.sink.written sink.written t.report) (Appends before.sink.written now.sink.written t.report) t.files before.folder now.folder
    (λ f none. none) (λ put. nothing_more before.sink.written sink.written now.sink.written t.report answer put more) h

no_line : (how : Ending) (sink now : SinkSide) (answer : Result (Unit {0}) FolderFault) → fault_text how ≡ [] → PutsReport sink now (fault_text how) answer → TextAppends sink.written now.written [] answer
no_line how sink now answer is h = subst (λ (t : List ℕ). TextAppends sink.written now.written t answer) is h.bytes

done_line : fault_text ending.Done ≡ []
unfolding fault_text
done_line = refl

no_plan_line : fault_text ending.NoPlan ≡ []
unfolding fault_text
no_plan_line = refl

broken_line : fault_text ending.BrokenRule ≡ []
unfolding fault_text
broken_line = refl

not_done : (code n : ℕ) → code ≡ n → 2 ≤ n → n ≤ 6 → IsDoneAt code → ⊥
not_done code n e low high (inl le) = omega (arith, e, low, high, le)
not_done code n e low high (inr is) = omega (arith, e, low, high, is)

finished : {Rows Task : Type 0} (M : Meaning Rows Task) (c : Command) (before now : World) (sink : SinkSide) (x : Inputs) (t : Task) (answer : Result (Unit {0}) FolderFault) (status code : ℕ) → code ≡ status → SetsTask M c x t → Finishes M before (record { folder = now.folder; sink = sink }) t status
    → TextAppends sink.written now.sink.written [] answer → IsDone M c before now x code
finished M c before now sink x t answer status code e given h more = record {
  task = t;
  sets = given;
  sound = h.sound;
  status = e ∙ sym h.status_is;
  written = written_after before now sink (M.outcome t).texts answer h.written more;
}

done_by : {Rows Task : Type 0} (M : Meaning Rows Task) (c : Command) (before now : World) (sink : SinkSide) (x : Inputs) (how : Ending) (answer : Result (Unit {0}) FolderFault) (code : ℕ) → code ≡ status_of how → IsDoneAt code → Does M c before (record { folder = now.folder; sink = sink }) x how → PutsReport sink now.sink (fault_text how) answer → IsDone M c before now x code
done_by M c before now sink x ending.Done answer code e done does line = finished M c before now sink x does.0 answer 0 code e does.1 does.2 (no_line ending.Done sink now.sink answer done_line line)
done_by M c before now sink x ending.NoPlan answer code e done does line = finished M c before now sink x does.0 answer 1 code e does.1 does.2 (no_line ending.NoPlan sink now.sink answer no_plan_line line)
done_by M c before now sink x ending.BrokenRule answer code e done does line = finished M c before now sink x does.0 answer 7 code e does.1 does.2 (no_line ending.BrokenRule sink now.sink answer broken_line line)
done_by M c before now sink x ending.Usage answer code e done does line = absurd does
done_by M c before now sink x (ending.Refused r) answer code e done does line = absurd (not_done code 3 e (omega arith) (omega arith) done)
done_by M c before now sink x ending.PlaceFault answer code e done does line = absurd (not_done code 4 e (omega arith) (omega arith) done)
done_by M c before now sink x (ending.ReadFault f) answer code e done does line = absurd (not_done code 4 e (omega arith) (omega arith) done)
done_by M c before now sink x (ending.WriteFault f) answer code e done does line = absurd (not_done code 5 e (omega arith) (omega arith) done)
done_by M c before now sink x ending.ReportFault answer code e done does line = absurd (not_done code 5 e (omega arith) (omega arith) done)
done_by M c before now sink x ending.Memory answer code e done does line = absurd (not_done code 6 e (omega arith) (omega arith) done)
done_by M c before now sink x (ending.OnDisk end) answer code e done does line = absurd does

-- where the folder shows its input, at 0, 1 and 7 all texts of the task are written
pub done-of : {Rows Task : Type 0} (M : Meaning Rows Task) (a : Ask) (before now : World) (code : ℕ) → Runs M (Some a) before now code → (x : Inputs) → Tells (files_read a.command) before.folder x → IsDoneAt code → IsDone M a.command before now x code
done-of M a before now code run x tells done =
    elim (status_cases run.how run.answer code run.status) [
      | inl e ↦ done_by M a.command before now run.sink x run.how run.answer code e done (run.ends.does x tells) run.line
      | inr e ↦ absurd (not_done code 6 e (omega arith) (omega arith) done)
    ]
