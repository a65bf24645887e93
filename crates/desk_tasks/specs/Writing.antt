-- What writing the texts of a run does to the outside.
use Rattle.std.specs.Prelude.{◌≤◌, [], Result, Ok, Err, IfErr}
use Rattle.desk_folder.specs.declared.outputs.WriteFault.{WriteFault}
use Rattle.desk_folder.specs.declared.outputs.WriteFault.TheVariants as fault
use Rattle.desk_folder.specs.Entries.{named_texts}
use Rattle.desk_folder.specs.Outputs.{files_of, WritesAmong}
use Rattle.desk_tasks.specs.declared.ending.Ending.{Ending}
use Rattle.desk_tasks.specs.declared.ending.Ending.TheVariants as ending
use Rattle.desk_tasks.specs.declared.write.OutputTexts.{OutputTexts}
use Rattle.desk_tasks.specs.Outcome.{Texts}
use Rattle.desk_tasks.specs.Runs.{World, HasCause, IsWritten, Stops, StopsIn, StopsInReport}

-- the texts, wherever they lie in memory
abbrev pub as_texts : OutputTexts → Texts
as_texts t = record { files = named_texts t.files.items; report = t.report.items }

-- how a run ends where a text could not be put
abbrev pub write_end : WriteFault → Ending
write_end (fault.Failed f) = ending.WriteFault f
write_end fault.Memory = ending.Memory

-- what was written, by how the writing ended
abbrev pub StandsBy : World → World → Texts → Result (Unit {0}) Ending → Type 0
StandsBy before now t (Ok done) = IsWritten before now t
StandsBy before now t (Err (ending.WriteFault f)) = StopsIn f before now t
StandsBy before now t (Err ending.ReportFault) = StopsInReport before now t
StandsBy before now t (Err ending.Memory) = Stops before now t
StandsBy before now t (Err other) = ⊥

-- the texts are put one after another
pub record PutsOutputs (before now : World) (t : Texts) (answer : Result (Unit {0}) Ending) : Type 0 where
  pub put : StandsBy before now t answer
  pub cause : IfErr answer (HasCause [] (files_of t.files) before now)
  pub only : WritesAmong (files_of t.files) before.folder now.folder
  pub kept : before.sink.faults ≤ now.sink.faults
