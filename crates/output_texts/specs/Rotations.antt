-- The file of a plan's rotations.
use Rattle.std.specs.Prelude.{ℕ, List, ◌++◌, codes}
use Rattle.std.specs.List.{flat_map, zip}
use Rattle.desk_data.specs.declared.info.LegInfo.{LegInfo}
use Rattle.desk_data.specs.declared.row.Row.{Row}
use Rattle.desk_data.specs.declared.row.Row.TheVariants.{Flown, Cancelled}
use Rattle.desk_data.specs.Situation.{Situation, plane_at}
use Rattle.desk_data.specs.PlanRows.{PlanRows}
use Rattle.desk_text.specs.Texts.{date_text, moment_text}

-- what a row says of its leg: AIRCRAFT DATE TIME of its departure, or that it is cancelled
abbrev pub row_text : Situation → Row → List ℕ
row_text I (Flown plane dep) = (plane_at I plane.0).name ++ codes " " ++ moment_text dep.0
row_text I Cancelled = codes "cancelled"

-- the line of a leg: FLIGHT DATE and its row
unfoldable pub rotation_line : Situation → LegInfo → Row → List ℕ
rotation_line I leg row = leg.flight ++ codes " " ++ date_text leg.day ++ codes " " ++ row_text I row ++ codes "\n"

-- a line for each leg, in the order of the legs
unfoldable pub rotations_text : Situation → PlanRows → List ℕ
rotations_text I P = flat_map (λ pair. rotation_line I pair.0 pair.1) (zip I.parts.legs P.rows)
