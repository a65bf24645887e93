-- The legs of the fields that are left, as a loop reads them.
use Rattle.std.proofs.Common.{◌≡◌, ℕ, ◌*◌, ◌%◌, ◌≤◌, true, ◌&&◌, ltb, eqb, List, length, ◌++◌, Result, Ok, Err, arith}
use Rattle.std.proofs.lemmas.Bool.{and_from, lt-ltb, eq-eqb}
use Rattle.file_rows.specs.declared.cause.Cause.{Cause}
use Rattle.file_rows.specs.declared.passengers.LegRow.{LegRow}

-- these legs, and after them those that are read
abbrev pub prepended : List LegRow → Result (List LegRow) Cause → Result (List LegRow) Cause
prepended before (Ok legs) = Ok (before ++ legs)
prepended before (Err cause) = Err cause

-- so many legs of three fields are whole groups
pub are_whole : (fields : List (List ℕ)) (legs : List LegRow) → 3 * length legs ≡ length fields → 1 ≤ length legs → (ltb 0 (length fields) && eqb (length fields % 3) 0) ≡ true
are_whole fields legs size some = and_from _ _ (lt-ltb 0 (length fields) (omega (arith, size, some))) (eq-eqb (length fields % 3) 0 (omega (arith, size)))
