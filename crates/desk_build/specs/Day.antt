-- The day of the rows: names become numbers.
use Rattle.std.specs.Prelude.{ℕ, List, map, Bool, false, Option, option_map, bytes_eq}
use Rattle.std.specs.List.{list_any, flat_map}
use Rattle.desk_units.specs.declared.numbers.Leg.{Leg}
use Rattle.desk_units.specs.declared.numbers.Airport.{Airport}
use Rattle.desk_units.specs.declared.numbers.Cabin.{Cabin}
use Rattle.desk_units.specs.declared.tariff.TariffRow.{TariffRow}
use Rattle.desk_units.specs.declared.tariff.TariffRow.TheVariants.{Surface}
use Rattle.desk_data.specs.declared.info.AirportInfo.{AirportInfo}
use Rattle.desk_data.specs.declared.info.Cap.{Cap}
use Rattle.desk_data.specs.declared.info.Maint.{Maint}
use Rattle.desk_data.specs.declared.info.PlaneInfo.{PlaneInfo}
use Rattle.desk_data.specs.declared.info.ResInfo.{ResInfo}
use Rattle.desk_data.specs.declared.info.PositionInfo.{PositionInfo}
use Rattle.desk_data.specs.declared.parts.Parts.{Parts}
use Rattle.desk_data.specs.Situation.{Situation, fresh_day}
use Rattle.file_rows.specs.declared.network.CapRow.{CapRow}
use Rattle.file_rows.specs.declared.network.AirportRow.{AirportRow}
use Rattle.file_rows.specs.declared.fleet.MaintRow.{MaintRow}
use Rattle.file_rows.specs.declared.fleet.AircraftRow.{AircraftRow}
use Rattle.file_rows.specs.declared.fleet.PositionGroup.{PositionGroup}
use Rattle.file_rows.specs.declared.fleet.PositionRow.{PositionRow}
use Rattle.file_rows.specs.declared.legs.RotationRow.{RotationRow}
use Rattle.file_rows.specs.declared.passengers.LegRow.{LegRow}
use Rattle.file_rows.specs.declared.passengers.ItineraryRow.{ItineraryRow}
use Rattle.build_tables.specs.declared.files.Files.{Files}
use Rattle.build_tables.specs.Names.{distance_between}
use Rattle.desk_build.specs.Legs.{airport_of, leg_at, leg_of}

-- an airport, and its caps in the order of its line
abbrev pub cap_info : CapRow → Cap
cap_info cap = record { deps = cap.deps; arrs = cap.arrs; from = cap.from; to = cap.to }

abbrev pub airport_info : AirportRow → AirportInfo
airport_info row = record { name = row.airport; caps = map cap_info row.groups }

-- whether a row of the tariff says that aircraft of this family are surface transport
abbrev pub names_surface : List ℕ → TariffRow → Bool
names_surface family (Surface other) = bytes_eq family other
names_surface family row = false

abbrev pub is_surface : List TariffRow → List ℕ → Bool
is_surface tariff family = list_any (names_surface family) tariff

-- an aircraft, and its maintenance
abbrev pub maint_info : List AirportRow → MaintRow → Maint
maint_info airports row = record { airport = airport_of airports row.airport; from = row.from; to = row.to; minutes = row.minutes }

unfoldable pub plane_info : Files → AircraftRow → PlaneInfo
plane_info x row = record {
  name = row.name;
  model = row.model;
  family = row.family;
  seats = row.seats;
  range = row.range;
  hourly = row.hourly;
  turnaround = row.turnaround;
  transit = row.transit;
  origin = airport_of x.airports row.origin;
  maint = option_map (maint_info x.airports) row.maint;
  surface = is_surface x.tariff.rows row.family;
}

-- a reservation, and the legs of its path in the order of its line
abbrev pub path_leg : List RotationRow → LegRow → Leg × Cabin
path_leg rotations leg = (leg_at rotations leg.flight leg.day, leg.cabin)

abbrev pub res_info : List RotationRow → ItineraryRow → ResInfo
res_info rotations row = record { name = row.name; inbound = row.inbound; price = row.price; count = row.count; path = map (path_leg rotations) row.legs }

-- the aircraft that should stand at an airport, one position for each group of its line
abbrev pub position_info : Airport → PositionGroup → PositionInfo
position_info airport group = record { airport = airport; model = group.model; seats = group.seats; count = group.count }

abbrev pub positions_of : List AirportRow → PositionRow → List PositionInfo
positions_of airports row = map (position_info (airport_of airports row.airport)) row.groups

-- the minutes from one airport to another: of the first row from the one to the other, else of the first row in the opposite
-- direction, and none where there is neither
abbrev pub minutes_between : Files → AirportRow → AirportRow → Option ℕ
minutes_between x origin dest = option_map (λ row. row.minutes) (distance_between x.dist origin.airport dest.airport)

-- the minutes between all airports, by the airport of departure and then by that of arrival
abbrev pub distances_from : Files → AirportRow → List (Option ℕ)
distances_from x origin = map (minutes_between x origin) x.airports

abbrev pub distances_of : Files → List (List (Option ℕ))
distances_of x = map (distances_from x) x.airports

-- the rows of the day, each list in the order of its file, and the window
unfoldable pub parts_of : Files → Parts
parts_of x = record {
  airports = map airport_info x.airports;
  planes = map (plane_info x) x.aircraft;
  legs = map (leg_of x) x.rotations;
  res = map (res_info x.rotations) x.itineraries;
  from = x.config.from;
  to = x.config.to;
  positions = flat_map (positions_of x.airports) x.position;
  dist = distances_of x;
  tariff = x.tariff;
}

-- the day of the rows, before any batch
abbrev pub day_of : Files → Situation
day_of x = fresh_day (parts_of x)
