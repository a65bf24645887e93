-- What the board of the crews is seen as, and when it is right.
use Rattle.std.specs.Prelude.{◌≡◌, ℕ, true, ◌↔◌, List, length, All}
use Rattle.std.specs.List.{Contains}
use Rattle.desk_data.specs.declared.parts.Parts.{Parts}
use Rattle.desk_data.specs.declared.row.Row.{Row}
use Rattle.desk_data.specs.PlanRows.{IsRow}
use Rattle.crew_rules.specs.declared.crew.CrewInfo.{CrewInfo}
use Rattle.crew_rules.specs.declared.crew.CrewBroken.{CrewBroken}
use Rattle.crew_rules.specs.Broken.{breaks_crew}
use Rattle.crew_duty.specs.Users.{AreUsers}

-- the row of each leg, the crews that have it, and the items that crews break
pub record Board : Type 0 where
  pub rows : List Row
  pub users : List (List ℕ)
  pub broken : List CrewBroken

-- these are the items that the crews break by these rows, and no others
abbrev pub AreBroken : Parts → List CrewInfo → List Row → List CrewBroken → Type 0
AreBroken D cs P items = (item : CrewBroken) → Contains items item ↔ (breaks_crew D cs P item ≡ true)

-- the board is that of its rows, which are one for each leg of a day, and of these crews
pub record IsCrewBoard (D : Parts) (cs : List CrewInfo) (board : Board) : Type 0 where
  pub legs : length board.rows ≡ length D.legs
  pub sound : All IsRow board.rows
  pub places : length board.users ≡ length D.legs
  pub users : AreUsers cs board.users
  pub broken : AreBroken D cs board.rows board.broken
