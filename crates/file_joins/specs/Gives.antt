-- What a join answers.
use Rattle.std.specs.Prelude.{◌≡◌, ℕ, Result, Ok, Err}
use Rattle.desk_folder.specs.declared.files.File.TheVariants.{Journal}
use Rattle.file_rows.specs.declared.cause.Cause.{Cause}
use Rattle.desk_text.specs.declared.fault.RowFault.{RowFault}
use Rattle.desk_text.specs.declared.fault.RowFault.TheVariants as row_fault
use Rattle.desk_build.specs.declared.fault.BuildFault.{BuildFault}
use Rattle.desk_build.specs.declared.fault.BuildFault.TheVariants as build_fault

-- a join gives this, or refuses that line of the journal with that cause; out of memory may come at any time
abbrev pub JoinGives : {Answer X : Type 0} → (Answer → X) → Result Answer BuildFault → Result X (ℕ × Cause) → Type 0
JoinGives view (Ok answer) join = join ≡ Ok (view answer)
JoinGives view (Err (build_fault.Refused file line cause)) join = (join ≡ Err (line, cause)) × (file ≡ Journal)
JoinGives view (Err build_fault.Memory) join = Unit {0}

-- the fault of rows of which that line gave no event
abbrev pub fault_at : ℕ → RowFault → BuildFault
fault_at line (row_fault.Refused cause) = build_fault.Refused Journal line cause
fault_at line row_fault.Memory = build_fault.Memory
