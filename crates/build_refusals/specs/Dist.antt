-- Why a row of dist.csv is refused.
use Rattle.std.specs.Prelude.{ℕ, Option, Some, None, nat_le, if◌then◌else◌}
use Rattle.file_rows.specs.declared.cause.Cause.{Cause}
use Rattle.file_rows.specs.declared.cause.Cause.TheVariants.{Limit}
use Rattle.file_rows.specs.declared.network.DistRow.{DistRow}
use Rattle.file_rows.specs.Limits.{most_distances}

-- one distance too many
unfoldable pub dist_cause : ℕ → DistRow → Option Cause
dist_cause n row = if nat_le most_distances n then Some Limit else None
