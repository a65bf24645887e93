-- What stands outside after a run, by its status.
use Rattle.std.specs.Prelude.{◌≡◌, ◌≤◌, ◌⊎◌, ℕ, List, [], ◌∷◌, ◌++◌, take, Option, Some, None, Result, Ok, Err, MatchOption}
use Rattle.std.specs.Io.KnownBytes.{Appends}
use Rattle.desk_folder.specs.declared.files.File.{File}
use Rattle.desk_folder.specs.Outside.{Outside}
use Rattle.desk_folder.specs.Calls.{Rose}
use Rattle.desk_folder.specs.Outputs.{FileText, ArePut}
use Rattle.desk_tasks.specs.declared.refusal.Refusal.{Refusal}
use Rattle.desk_tasks.specs.declared.ending.Ending.{Ending}
use Rattle.desk_tasks.specs.declared.ending.Ending.TheVariants as ending
use Rattle.desk_tasks.specs.Inputs.{Inputs}
use Rattle.desk_tasks.specs.Commands.{Ask, files_written, reads, writes}
use Rattle.desk_tasks.specs.Outcome.{Texts, fault_text, status_of}
use Rattle.desk_tasks.specs.Runs.{World, Meaning, HasCause}
use Rattle.desk_tasks.specs.Causes.{IsUnlessMemory}

-- these files with no text
abbrev pub empty_texts : List File → List FileText
empty_texts [] = []
empty_texts (f ∷ others) = (f, []) ∷ empty_texts others

-- these files with no text, and no report
abbrev pub nothing_in : List File → Texts
nothing_in files = record { files = empty_texts files; report = [] }

-- the texts that a finished run writes; where the input is refused, or nothing is asked, there are none
abbrev pub texts_by : {Rows Task : Type 0} → Meaning Rows Task → List File → Result Task Refusal → Texts
texts_by M files (Ok t) = (M.outcome t).texts
texts_by M files (Err r) = nothing_in files

abbrev pub finished_texts : {Rows Task : Type 0} → Meaning Rows Task → Option Ask → Inputs → Texts
finished_texts M None x = nothing_in []
finished_texts M (Some a) x = texts_by M (files_written a.command) (M.task a.command x)

-- the output files, in their order: whole up to one, of which there is a beginning, and nothing after it
abbrev pub AreBegun : Outside → Outside → Texts → Type 0
AreBegun before now t = ArePut (λ f. Unit {0}) (Unit {0}) t.files before now

-- all of them are whole
abbrev pub AreWhole : Outside → Outside → Texts → Type 0
AreWhole before now t = ArePut (λ f. ⊥) (Unit {0}) t.files before now

-- the input that a command is asked to read is refused so
abbrev pub IsRefusedSo : {Rows Task : Type 0} → Meaning Rows Task → Option Ask → Inputs → Refusal → Type 0
IsRefusedSo M ask x r = MatchOption ask ⊥ (λ a. M.task a.command x ≡ Err r)

-- the sink, at a status from 2 to 6: a beginning of what a finished run reports, and after it a beginning of the line of a fault
pub record ReportsFault {Rows Task : Type 0} (M : Meaning Rows Task) (ask : Option Ask) (before now : World) (x : Inputs) (code : ℕ) : Type 0 where
  -- the fault has this status, unless memory ran out, and it came
  pub how : Ending
  pub status : IsUnlessMemory code (status_of how)
  pub cause : HasCause (reads ask) (writes ask) before now how
  pub refusal : (r : Refusal) → how ≡ ending.Refused r → IsRefusedSo M ask x r
  -- so many bytes of the report, and so many of the line
  pub reported : ℕ
  pub line_bytes : ℕ
  pub sink : Appends before.sink.written now.sink.written (take reported (finished_texts M ask x).report ++ take line_bytes (fault_text how))
  -- at 2, 3 and 4, and where an output file is not whole, none of the report
  pub unreported : code ≤ 4 → reported ≡ 0
  pub files : (reported ≡ 0) ⊎ AreWhole before.folder now.folder (finished_texts M ask x)
  -- all of the line, but at 6 and where the sink failed
  pub line : (take line_bytes (fault_text how) ≡ fault_text how) ⊎ ((code ≡ 6) ⊎ Rose before.sink.faults now.sink.faults)

-- at these statuses the directories are named, where that is asked for
abbrev pub IsNamedAt : ℕ → Type 0
IsNamedAt code = (code ≤ 3) ⊎ ((code ≡ 5) ⊎ (code ≡ 7))

-- no directories are named, and no naming failed
pub record IsUnnamed (before now : World) : Type 0 where
  pub directories : now.folder.directories ≡ before.folder.directories
  pub faults : now.folder.place_faults ≡ before.folder.place_faults
