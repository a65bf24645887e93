-- When the flights of the files depart.
use Rattle.std.specs.Prelude.{ℕ, ◌+◌, ◌*◌}
use Rattle.file_rows.specs.declared.legs.FlightRow.{FlightRow}

-- the scheduled departure of a flight on a day, in minutes from the start of 2000
abbrev pub departure_on : FlightRow → ℕ → ℕ
departure_on flight day = 1440 * day + flight.dep
