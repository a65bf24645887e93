-- The files of the desk's folder: their names, and their places in file order.
use Rattle.std.specs.Prelude.{ℕ, List, [], ◌∷◌, codes, Bool, true, false}
use Rattle.desk_folder.specs.declared.files.File.{File}
use Rattle.desk_folder.specs.declared.files.File.TheVariants.{Config, Flights, Rotations, Aircraft, Airports, Dist, Itineraries, Position, AltFlights, AltAircraft, AltAirports, Tariff, Feed, Crew, Journal, SolRotations, SolItineraries, SolAdded}

-- the file's name in its directory
abbrev pub file_name : File → List ℕ
file_name Config = codes "config.csv"
file_name Flights = codes "flights.csv"
file_name Rotations = codes "rotations.csv"
file_name Aircraft = codes "aircraft.csv"
file_name Airports = codes "airports.csv"
file_name Dist = codes "dist.csv"
file_name Itineraries = codes "itineraries.csv"
file_name Position = codes "position.csv"
file_name AltFlights = codes "alt_flights.csv"
file_name AltAircraft = codes "alt_aircraft.csv"
file_name AltAirports = codes "alt_airports.csv"
file_name Tariff = codes "tariff.csv"
file_name Feed = codes "feed.csv"
file_name Crew = codes "crew.csv"
file_name Journal = codes "journal.csv"
file_name SolRotations = codes "sol_rotations.csv"
file_name SolItineraries = codes "sol_itineraries.csv"
file_name SolAdded = codes "sol_added.csv"

-- the file's place in file order, counted from 0
abbrev pub file_number : File → ℕ
file_number Config = 0
file_number Flights = 1
file_number Rotations = 2
file_number Aircraft = 3
file_number Airports = 4
file_number Dist = 5
file_number Itineraries = 6
file_number Position = 7
file_number AltFlights = 8
file_number AltAircraft = 9
file_number AltAirports = 10
file_number Tariff = 11
file_number Feed = 12
file_number Crew = 13
file_number Journal = 14
file_number SolRotations = 15
file_number SolItineraries = 16
file_number SolAdded = 17

-- the two files that hold a plan are read from the output directory
abbrev pub is_solution : File → Bool
is_solution SolRotations = true
is_solution SolItineraries = true
is_solution _ = false

-- the files that read as empty where they are missing
abbrev pub may_be_missing : File → Bool
may_be_missing Feed = true
may_be_missing Journal = true
may_be_missing _ = false

-- the files that give a day and its disruptions, in file order
abbrev pub day_files : List File
day_files =
    Config ∷ Flights ∷ Rotations ∷ Aircraft ∷ Airports ∷ Dist ∷ Itineraries ∷ Position
    ∷ AltFlights ∷ AltAircraft ∷ AltAirports ∷ Tariff ∷ Feed ∷ []

-- and those that give a plan
abbrev pub plan_files : List File
plan_files = SolRotations ∷ SolItineraries ∷ []
