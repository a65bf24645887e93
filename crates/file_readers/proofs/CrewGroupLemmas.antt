-- The legs of the fields that are left, as a loop reads them.
use Rattle.std.proofs.Common.{List, ◌++◌, Result, Ok, Err}
use Rattle.file_rows.specs.declared.cause.Cause.{Cause}
use Rattle.file_readers.specs.declared.crew_row.CrewLeg.{CrewLeg}

-- these legs, and after them those that are read
abbrev pub prepended : List CrewLeg → Result (List CrewLeg) Cause → Result (List CrewLeg) Cause
prepended before (Ok legs) = Ok (before ++ legs)
prepended before (Err cause) = Err cause
