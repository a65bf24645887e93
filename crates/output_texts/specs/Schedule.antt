-- The flights of a day of a size: four of each aircraft, from the hub to an outstation and back, and to another one and back.
use Rattle.std.specs.Prelude.{ℕ, ◌+◌, ◌*◌, ◌/◌, ◌%◌, ◌==◌, if◌then◌else◌, List, ◌++◌, flat_map, codes, decimal}
use Rattle.desk_text.specs.Texts.{time_text}
use Rattle.output_texts.specs.declared.schedule.Outstation.{Outstation}
use Rattle.output_texts.specs.declared.schedule.Outstation.TheVariants.{Aaa, Bbb, Ccc}
use Rattle.output_texts.specs.declared.schedule.Tour.{Tour}
use Rattle.output_texts.specs.Draws.{seeded, state_after, draw, numbers}
use Rattle.output_texts.specs.Fleet.{planes_of, plane_name}

-- how many legs there are: each flight is flown once
abbrev pub legs_of : ℕ → ℕ
legs_of size = 24 * size

-- the outstations by their numbers, 0 to 2
abbrev pub nth_station : ℕ → Outstation
nth_station number = if number == 0 then Aaa else (if number == 1 then Bbb else Ccc)

abbrev pub station_name : Outstation → List ℕ
station_name Aaa = codes "AAA"
station_name Bbb = codes "BBB"
station_name Ccc = codes "CCC"

-- the minutes of a flight between the hub and an outstation
abbrev pub block_of : Outstation → ℕ
block_of Aaa = 60
block_of Bbb = 75
block_of Ccc = 90

-- the tour of an aircraft, by three draws: it starts at 06:00 plus five minutes for each that is drawn, goes to one outstation
-- and then to one of the other two
unfoldable pub tour_at : List ℕ → Tour
tour_at state =
    let first = draw state 1 3 in
    record {
      start = 360 + 5 * draw state 0 13;
      first = nth_station first;
      second = nth_station ((first + 1 + draw state 2 2) % 3);
    }

-- the tour of each aircraft, in their order
abbrev pub tour_of : ℕ → ℕ → Tour
tour_of seed plane = tour_at (state_after (seeded seed) (3 * plane))

-- a flight's name: F and its number from 1, of leg x from 0
abbrev pub flight_name : ℕ → List ℕ
flight_name x = codes "F" ++ decimal (x + 1)

-- FLIGHT ORIGIN DESTINATION DEPARTURE ARRIVAL PREVIOUS, of a flight that no other one precedes
unfoldable pub flight_line : ℕ → List ℕ → List ℕ → ℕ → ℕ → List ℕ
flight_line x origin destination departure block =
    flight_name x ++ codes " " ++ origin ++ codes " " ++ destination ++ codes " " ++ time_text departure ++ codes " "
    ++ time_text (departure + block) ++ codes " 0\n"

-- two flights, from the hub to an outstation and back; the second departs 40 minutes after the arrival of the first
unfoldable pub there_and_back : ℕ → Outstation → ℕ → List ℕ
there_and_back x station departure =
    flight_line x (codes "HUB") (station_name station) departure (block_of station)
    ++ flight_line (x + 1) (station_name station) (codes "HUB") (departure + block_of station + 40) (block_of station)

-- the four flights of an aircraft's tour; the third departs 40 minutes after the arrival of the second
unfoldable pub tour_lines : ℕ → Tour → List ℕ
tour_lines plane tour =
    there_and_back (4 * plane) tour.first tour.start
    ++ there_and_back (4 * plane + 2) tour.second (tour.start + block_of tour.first + 40 + block_of tour.first + 40)

-- flights.csv: the flights of each aircraft
unfoldable pub flights_text : ℕ → ℕ → List ℕ
flights_text seed size = flat_map (λ plane. tour_lines plane (tour_of seed plane)) (numbers (planes_of size))

-- FLIGHT DATE AIRCRAFT of a leg: each aircraft flies four legs in a row
unfoldable pub rotation_line : ℕ → List ℕ
rotation_line x = flight_name x ++ codes " 01/03/08 " ++ plane_name (x / 4) ++ codes "\n"

-- rotations.csv: a line for each leg
unfoldable pub rotations_text : ℕ → List ℕ
rotations_text size = flat_map rotation_line (numbers (legs_of size))
