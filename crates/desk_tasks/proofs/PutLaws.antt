-- The texts of files are put, and then the report.
use Rattle.std.proofs.Common.{◌≡◌, refl, arith}
use Rattle.std.specs.Prelude.{Result, Ok, Err}
use Rattle.std.specs.Io.KnownBytes.{Appends, Keeps}
use Rattle.desk_folder.specs.declared.faults.FolderFault.{FolderFault}
use Rattle.desk_folder.specs.declared.faults.FolderFault.TheVariants as call
use Rattle.desk_folder.specs.Outside.{Outside, SinkSide}
use Rattle.desk_folder.specs.Calls.{AppendsPrefix}
use Rattle.desk_folder.specs.declared.outputs.WriteFault.{WriteFault}
use Rattle.desk_folder.specs.declared.outputs.WriteFault.TheVariants as fault
use Rattle.desk_folder.specs.Texts.{PutsReport}
use Rattle.desk_folder.specs.Outputs.{PutsTexts}
use Rattle.desk_folder.proofs.PutAll.{keeps-same, ArePut-less}
use Rattle.desk_tasks.specs.declared.ending.Ending.{Ending}
use Rattle.desk_tasks.specs.declared.ending.Ending.TheVariants as ending
use Rattle.desk_tasks.specs.Outcome.{Texts}
use Rattle.desk_tasks.specs.Runs.{world}
use Rattle.desk_tasks.specs.Writing.{write_end, PutsOutputs}

-- what writing answers
abbrev pub Answer : Type 0
Answer = Result (Unit {0}) Ending

abbrev pub ended_by : Ending → Answer
ended_by how = Err how

abbrev pub all_done : Unit {0} → Answer
all_done ok = Ok ok

-- what putting the texts answers, and what putting the report does
abbrev pub texts_put : Unit {0} → Result (Unit {0}) WriteFault
texts_put ok = Ok ok

abbrev pub texts_short : WriteFault → Result (Unit {0}) WriteFault
texts_short e = Err e

abbrev pub report_put : Unit {0} → Result (Unit {0}) FolderFault
report_put ok = Ok ok

abbrev pub report_short : FolderFault → Result (Unit {0}) FolderFault
report_short e = Err e

pub outputs-written : (before now : Outside) (sink sink' : SinkSide) (t : Texts) (put done ok : Unit {0}) → PutsTexts before now t.files (texts_put put) → PutsReport sink sink' t.report (report_put done) → PutsOutputs (world before sink) (world now sink') t (all_done ok)
outputs-written before now sink sink' t put done ok h r = record {
  put = ArePut-less (λ f. ⊥) (λ f. ⊥) (Unit {0}) (Appends sink.written sink'.written t.report) t.files before now (λ f none. none) (λ u. r.bytes) h.put;
  cause = tt;
  only = h.only;
  kept = r.faults.kept;
}

pub report-failed : (before now : Outside) (sink sink' : SinkSide) (t : Texts) (put : Unit {0}) → PutsTexts before now t.files (texts_put put) → PutsReport sink sink' t.report (report_short call.Failed) → PutsOutputs (world before sink) (world now sink') t (ended_by ending.ReportFault)
report-failed before now sink sink' t put h r = record {
  put = ArePut-less (λ f. ⊥) (λ f. ⊥) (Unit {0}) (AppendsPrefix sink.written sink'.written t.report) t.files before now (λ f none. none) (λ u. r.bytes) h.put;
  cause = r.faults.rose refl;
  only = h.only;
  kept = r.faults.kept;
}

pub report-memory : (before now : Outside) (sink sink' : SinkSide) (t : Texts) (put : Unit {0}) → PutsTexts before now t.files (texts_put put) → PutsReport sink sink' t.report (report_short call.Memory) → PutsOutputs (world before sink) (world now sink') t (ended_by ending.Memory)
report-memory before now sink sink' t put h r = record {
  put = ArePut-less (λ f. ⊥) (λ f. Keeps sink.written sink'.written) (Unit {0}) (AppendsPrefix sink.written sink'.written t.report) t.files before now (λ f none. absurd none) (λ u. r.bytes) h.put;
  cause = tt;
  only = h.only;
  kept = r.faults.kept;
}

-- where a text is short, the sink has got nothing
pub text-short : (before now : Outside) (sink : SinkSide) (t : Texts) (e : WriteFault) → PutsTexts before now t.files (texts_short e) → PutsOutputs (world before sink) (world now sink) t (ended_by (write_end e))
text-short before now sink t (fault.Failed f) h = record {
  put = ArePut-less (λ g. g ≡ f) (λ g. (g ≡ f) × Keeps sink.written sink.written) ⊥ ⊥ t.files before now (λ g here. (here, keeps-same sink.written sink.written refl)) (λ none. none) h.put;
  cause = h.cause;
  only = h.only;
  kept = omega arith;
}
text-short before now sink t fault.Memory h = record {
  put = ArePut-less (λ g. Unit {0}) (λ g. Keeps sink.written sink.written) ⊥ (AppendsPrefix sink.written sink.written t.report) t.files before now (λ g here. keeps-same sink.written sink.written refl) (λ none. absurd none) h.put;
  cause = tt;
  only = h.only;
  kept = omega arith;
}
