-- What the readers say of their rows.
use Rattle.std.specs.Prelude.{All}
use Rattle.file_rows.specs.Facts.{IsFlight, IsRotation}
use Rattle.file_rows.specs.Facts.{IsWindow, IsAirport, IsDistance}
use Rattle.file_rows.specs.Facts.{IsAircraft, IsPosition}
use Rattle.file_rows.specs.Facts.{IsItinerary}
use Rattle.file_rows.specs.Facts.{IsAlt, IsFed}
use Rattle.tariff_prices.specs.Rows.{IsTariffRow}
use Rattle.build_tables.specs.declared.files.Files.{Files}

-- rows that their readers can answer
pub record AreFileRows (x : Files) : Type 0 where
  pub window : IsWindow x.config
  pub flights : All IsFlight x.flights
  pub rotations : All IsRotation x.rotations
  pub aircraft : All IsAircraft x.aircraft
  pub airports : All IsAirport x.airports
  pub dist : All IsDistance x.dist
  pub itineraries : All IsItinerary x.itineraries
  pub position : All IsPosition x.position
  pub alt_flights : All IsAlt x.alt_flights
  pub alt_aircraft : All IsAlt x.alt_aircraft
  pub alt_airports : All IsAlt x.alt_airports
  pub tariff : All IsTariffRow x.tariff.rows
  pub feed : All IsFed x.feed
