-- The groups of the fields that are left, as a loop reads them.
use Rattle.std.proofs.Common.{List, ◌++◌, Result, Ok, Err}
use Rattle.file_rows.specs.declared.cause.Cause.{Cause}
use Rattle.file_rows.specs.declared.fleet.PositionGroup.{PositionGroup}

-- these groups, and after them those that are read
abbrev pub prepended : List PositionGroup → Result (List PositionGroup) Cause → Result (List PositionGroup) Cause
prepended before (Ok groups) = Ok (before ++ groups)
prepended before (Err cause) = Err cause
