-- The aircraft of a day of a size: six times the size, numbered from 0.
use Rattle.std.specs.Prelude.{ℕ, Bool, ◌+◌, ◌*◌, ◌%◌, ◌==◌, if◌then◌else◌, List, ◌++◌, flat_map, codes, decimal}
use Rattle.desk_units.specs.declared.numbers.Cabin.{Cabin}
use Rattle.desk_units.specs.declared.numbers.Cabin.TheVariants as cabin
use Rattle.output_texts.specs.declared.fleet.Vehicle.{Vehicle}
use Rattle.output_texts.specs.declared.fleet.Vehicle.TheVariants.{Bus, Large, Small}
use Rattle.output_texts.specs.Draws.{numbers}

-- how many aircraft there are
abbrev pub planes_of : ℕ → ℕ
planes_of size = 6 * size

-- every sixth aircraft is a bus
abbrev pub is_bus : ℕ → Bool
is_bus plane = plane % 6 == 5

-- of the others those with even numbers are large
abbrev pub kind_of : ℕ → Vehicle
kind_of plane = if is_bus plane then Bus else (if plane % 2 == 0 then Large else Small)

-- the seats of a cabin: those that the text of the kind says
abbrev pub seats_of : Vehicle → Cabin → ℕ
seats_of Bus cabin.E = 50
seats_of Large cabin.B = 20
seats_of Large cabin.E = 100
seats_of Small cabin.B = 12
seats_of Small cabin.E = 80
seats_of kind cabin = 0

-- MODEL FAMILY SEATS RANGE COST TURN TRANSIT ORIGIN MAINTENANCE of a kind
abbrev pub kind_text : Vehicle → List ℕ
kind_text Bus = codes "BUS SURFACE 0/0/50 600 40 30 20 HUB NULL"
kind_text Large = codes "M1 NARROW 0/20/100 600 1000 30 20 HUB NULL"
kind_text Small = codes "M1 NARROW 0/12/80 600 900 30 20 HUB NULL"

-- an aircraft's name: P and its number from 1
abbrev pub plane_name : ℕ → List ℕ
plane_name plane = codes "P" ++ decimal (plane + 1)

unfoldable pub aircraft_line : ℕ → List ℕ
aircraft_line plane = plane_name plane ++ codes " " ++ kind_text (kind_of plane) ++ codes "\n"

-- aircraft.csv: a line for each aircraft
unfoldable pub aircraft_text : ℕ → List ℕ
aircraft_text size = flat_map aircraft_line (numbers (planes_of size))
