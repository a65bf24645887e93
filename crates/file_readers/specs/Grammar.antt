-- Which line of sol_rotations.csv or of sol_itineraries.csv is refused first.
use Rattle.std.specs.Prelude.{◌≡◌, ◌⊎◌, ℕ, List, Option, Some, None, Result, Ok, Err}
use Rattle.file_rows.specs.declared.cause.Cause.{Cause}
use Rattle.desk_text.specs.declared.fault.ReadFault.{ReadFault}
use Rattle.desk_text.specs.declared.fault.ReadFault.TheVariants as read_fault
use Rattle.desk_folder.specs.declared.files.File.{File}
use Rattle.desk_folder.specs.declared.files.File.TheVariants.{SolRotations, SolItineraries}
use Rattle.file_readers.specs.Legs.{rotation_rows}
use Rattle.file_readers.specs.Groups.{itinerary_rows}

-- the file is one of the two of a plan
abbrev pub IsSolution : File → Type 0
IsSolution file = (file ≡ SolRotations) ⊎ (file ≡ SolItineraries)

-- the refused line and the cause, where rows were not read
abbrev pub refusal_of : {Rows : Type 0} → Result Rows (ℕ × Cause) → Option (ℕ × Cause)
refusal_of (Ok rows) = None
refusal_of (Err refusal) = Some refusal

-- the first line of the file that is refused, and why
unfoldable pub refusal_in : File → List ℕ → Option (ℕ × Cause)
refusal_in SolRotations bytes = refusal_of (rotation_rows bytes)
refusal_in SolItineraries bytes = refusal_of (itinerary_rows bytes)
refusal_in other bytes = None

-- a trial answers so: out of memory may come at any time
abbrev pub Tries : {Answer : Type 0} → Result Answer ReadFault → Option (ℕ × Cause) → Type 0
Tries (Ok answer) refusal = refusal ≡ None
Tries (Err (read_fault.Refused line cause)) refusal = refusal ≡ Some (line, cause)
Tries (Err read_fault.Memory) refusal = Unit {0}
