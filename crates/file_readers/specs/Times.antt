-- Times at which something ends.
use Rattle.std.specs.Prelude.{ℕ, List, Result, Ok, bytes_eq, codes, if◌then◌else◌}
use Rattle.file_rows.specs.declared.cause.Cause.{Cause}
use Rattle.desk_text.specs.Moments.{minute_of}

-- a time at which something ends: the end of the day may be written too
abbrev pub end_of : List ℕ → Result ℕ Cause
end_of field = if bytes_eq field (codes "24:00") then Ok 1440 else minute_of field
