-- The texts of the input files of a day that is made of a seed and a size.
use Rattle.std.specs.Prelude.{ℕ, ◌≤◌, ◌*◌, List, [], ◌∷◌, ◌++◌, map, codes, decimal}
use Rattle.desk_folder.specs.declared.files.File.{File}
use Rattle.desk_folder.specs.declared.files.File.TheVariants as file
use Rattle.desk_folder.specs.Files.{day_files}
use Rattle.output_texts.specs.Fleet.{planes_of, aircraft_text}
use Rattle.output_texts.specs.Schedule.{flights_text, rotations_text}
use Rattle.output_texts.specs.Demand.{itineraries_text}

-- the size of a day
pub record IsSize (size : ℕ) : Type 0 where
  pub least : 1 ≤ size
  pub most : size ≤ 40

-- config.csv: the window is a day from 06:00 on
abbrev pub config_text : List ℕ
config_text = codes "01/03/08 06:00 02/03/08 06:00\n"

-- AIRPORT DEPARTURES ARRIVALS FROM TO: in each hour as many as there are aircraft
abbrev pub airport_line : List ℕ → ℕ → List ℕ
airport_line name size =
    name ++ codes " " ++ decimal (planes_of size) ++ codes " " ++ decimal (planes_of size) ++ codes " 00:00 24:00\n"

-- airports.csv: the hub and the outstations
unfoldable pub airports_text : ℕ → List ℕ
airports_text size =
    airport_line (codes "HUB") size ++ airport_line (codes "AAA") size ++ airport_line (codes "BBB") size ++ airport_line (codes "CCC") size

-- dist.csv: from the hub to each outstation
abbrev pub dist_text : List ℕ
dist_text = codes "HUB AAA 60 D\nHUB BBB 75 D\nHUB CCC 90 C\n"

-- position.csv: at the hub all large and all small aircraft
unfoldable pub position_text : ℕ → List ℕ
position_text size = codes "HUB M1 0/20/100 " ++ decimal (3 * size) ++ codes " M1 0/12/80 " ++ decimal (2 * size) ++ codes "\n"

-- the disruptions that are known at first: a delay, a breakdown and a closure
abbrev pub alt_flights_text : List ℕ
alt_flights_text = codes "F1 01/03/08 60\n"

abbrev pub alt_aircraft_text : List ℕ
alt_aircraft_text = codes "P2 01/03/08 10:00 01/03/08 13:00\n"

abbrev pub alt_airports_text : List ℕ
alt_airports_text = codes "AAA 01/03/08 09:00 01/03/08 11:00 0 0\n"

-- tariff.csv
abbrev pub tariff_text : List ℕ
tariff_text =
    codes "surface,SURFACE\n"
    ++ codes "delay,D,E,10\n" ++ codes "delay,D,B,20\n" ++ codes "delay,C,E,12\n" ++ codes "delay,C,B,24\n"
    ++ codes "cancel,D,E,200\n" ++ codes "cancel,D,B,400\n" ++ codes "cancel,C,E,250\n" ++ codes "cancel,C,B,500\n"
    ++ codes "downgrade,D,B,E,100\n" ++ codes "downgrade,C,B,E,150\n"
    ++ codes "care,D,120,20\n" ++ codes "care,C,180,30\n"
    ++ codes "compensation,D,none,250\n" ++ codes "compensation,C,none,400\n"
    ++ codes "position,500\n"

-- feed.csv: a later cancellation
abbrev pub feed_text : List ℕ
feed_text = codes "1,flight,F5,01/03/08,-1\n"

-- the text of each file; other files are empty
abbrev pub text_of : ℕ → ℕ → File → List ℕ
text_of seed size file.Config = config_text
text_of seed size file.Flights = flights_text seed size
text_of seed size file.Rotations = rotations_text size
text_of seed size file.Aircraft = aircraft_text size
text_of seed size file.Airports = airports_text size
text_of seed size file.Dist = dist_text
text_of seed size file.Itineraries = itineraries_text seed size
text_of seed size file.Position = position_text size
text_of seed size file.AltFlights = alt_flights_text
text_of seed size file.AltAircraft = alt_aircraft_text
text_of seed size file.AltAirports = alt_airports_text
text_of seed size file.Tariff = tariff_text
text_of seed size file.Feed = feed_text
text_of seed size file = []

-- each file with its text
unfoldable pub generated : ℕ → ℕ → List (File × List ℕ)
generated seed size = map (λ name. (name, text_of seed size name)) day_files
