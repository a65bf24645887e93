-- The caps of the fields that are left, as a loop reads them.
use Rattle.std.proofs.Common.{List, ◌++◌, Result, Ok, Err}
use Rattle.file_rows.specs.declared.cause.Cause.{Cause}
use Rattle.file_rows.specs.declared.network.CapRow.{CapRow}

-- these caps, and after them those that are read
abbrev pub prepended : List CapRow → Result (List CapRow) Cause → Result (List CapRow) Cause
prepended before (Ok caps) = Ok (before ++ caps)
prepended before (Err cause) = Err cause
