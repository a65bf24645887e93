-- Why config.csv is refused.
use Rattle.std.specs.Prelude.{ℕ, Option, Some, None, nat_lt, if◌then◌else◌}
use Rattle.file_rows.specs.declared.cause.Cause.{Cause}
use Rattle.file_rows.specs.declared.cause.Cause.TheVariants.{BadWindow}
use Rattle.file_rows.specs.declared.network.Window.{Window}

-- the window ends after its start
abbrev pub window_refusal : Window → Option (ℕ × Cause)
window_refusal w = if nat_lt w.from.0 w.to.0 then None else Some (w.line, BadWindow)
