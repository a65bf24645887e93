-- Two files have two places in file order.
use Rattle.std.proofs.Common.{◌≡◌, ◌≢◌, ◌∙◌, List, [], ◌∷◌, ap, refl, slice_index_or, sym}
use Rattle.desk_folder.specs.Files.{file_number}
use Rattle.desk_folder.specs.declared.files.File.{File}
use Rattle.desk_folder.specs.declared.files.File.TheVariants.{Config, Flights, Rotations, Aircraft, Airports, Dist, Itineraries, Position, AltFlights, AltAircraft, AltAirports, Tariff, Feed, Crew, Journal, SolRotations, SolItineraries, SolAdded}

-- the files in file order
abbrev files : List File
files =
    Config ∷ Flights ∷ Rotations ∷ Aircraft ∷ Airports ∷ Dist ∷ Itineraries ∷ Position ∷ AltFlights ∷ AltAircraft ∷ AltAirports ∷ Tariff ∷ Feed ∷ Crew ∷ Journal ∷ SolRotations ∷ SolItineraries ∷ SolAdded ∷ []

-- a file stands at its place
file_at_place : (f : File) → slice_index_or files (file_number f) Config ≡ f
file_at_place Config = refl
file_at_place Flights = refl
file_at_place Rotations = refl
file_at_place Aircraft = refl
file_at_place Airports = refl
file_at_place Dist = refl
file_at_place Itineraries = refl
file_at_place Position = refl
file_at_place AltFlights = refl
file_at_place AltAircraft = refl
file_at_place AltAirports = refl
file_at_place Tariff = refl
file_at_place Feed = refl
file_at_place Crew = refl
file_at_place Journal = refl
file_at_place SolRotations = refl
file_at_place SolItineraries = refl
file_at_place SolAdded = refl

pub numbers_differ : (f g : File) → f ≢ g → file_number f ≢ file_number g
numbers_differ f g other same = other (sym (file_at_place f) ∙ ap (λ k. slice_index_or files k Config) same ∙ file_at_place g)

pub same_number : (f g : File) → file_number f ≡ file_number g → f ≡ g
same_number f g same = sym (file_at_place f) ∙ ap (λ k. slice_index_or files k Config) same ∙ file_at_place g
