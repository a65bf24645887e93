use Rattle.std.proofs.Common.{◌≡◌, length}
use Rattle.comma_rows.specs.Records.{are_printed}
use Rattle.comma_rows.proofs.columns.Columns.are_printed.Given as goal

-- the fields that are left decide
abbrev pub invariant-loop-field : goal.invariant-loop-field
invariant-loop-field l = are_printed l.rest ≡ are_printed l.self

abbrev pub decreases-loop-field : goal.decreases-loop-field
decreases-loop-field l = length l.rest
