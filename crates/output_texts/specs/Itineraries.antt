-- The file of a plan's itineraries.
use Rattle.std.specs.Prelude.{ℕ, List, ◌++◌, codes, decimal}
use Rattle.std.specs.List.{flat_map, zip}
use Rattle.desk_units.specs.declared.numbers.Leg.{Leg}
use Rattle.desk_units.specs.declared.numbers.Cabin.{Cabin}
use Rattle.desk_data.specs.declared.info.ResInfo.{ResInfo}
use Rattle.desk_data.specs.declared.row.Group.{Group}
use Rattle.desk_data.specs.Situation.{Situation, leg_at}
use Rattle.desk_data.specs.PlanRows.{PlanRows}
use Rattle.desk_text.specs.Texts.{date_text, cabin_text, direction_text}

-- a leg of a path with its cabin, after a space: FLIGHT DATE CABIN
unfoldable pub seat_text : Situation → Leg × Cabin → List ℕ
seat_text I pair = codes " " ++ (leg_at I pair.0.0).flight ++ codes " " ++ date_text (leg_at I pair.0.0).day ++ codes " " ++ cabin_text pair.1

-- the line of a group of passengers: RESERVATION TYPE COUNT and each leg of their path. Those who are not carried have no legs
unfoldable pub group_line : Situation → ResInfo → Group → List ℕ
group_line I res group = res.name ++ codes " " ++ direction_text res.inbound ++ codes " " ++ decimal group.count ++ flat_map (seat_text I) group.path ++ codes "\n"

-- a line for each group of a reservation, in the order of their paths
unfoldable pub group_lines : Situation → ResInfo → List Group → List ℕ
group_lines I res groups = flat_map (group_line I res) groups

-- the lines of each reservation, in the order of the reservations
unfoldable pub itineraries_text : Situation → PlanRows → List ℕ
itineraries_text I P = flat_map (λ pair. group_lines I pair.0 pair.1) (zip I.parts.res P.groups)
