-- What holds of the rows of crew.csv, as their reader gives them.
use Rattle.std.specs.Prelude.{◌<◌, ◌≤◌, All}
use Rattle.file_rows.specs.Seen.{IsSeen}
use Rattle.file_readers.specs.declared.crew_row.CrewLeg.{CrewLeg}
use Rattle.file_readers.specs.declared.crew_row.CrewRow.{CrewRow}

-- a leg's flight can be seen, and its day is of the years 2000 to 2099
pub record IsCrewLeg (leg : CrewLeg) : Type 0 where
  pub flight : IsSeen leg.flight
  pub day : leg.day < 36525

-- the names of a crew and its home can be seen, its greatest duty and its least rest are 1 to 10,000 minutes, and so is each leg as it should
pub record IsCrewRow (row : CrewRow) : Type 0 where
  pub name : IsSeen row.name
  pub home : IsSeen row.home
  pub some_duty : 1 ≤ row.duty
  pub most_duty : row.duty ≤ 10000
  pub some_rest : 1 ≤ row.rest
  pub most_rest : row.rest ≤ 10000
  pub legs : All IsCrewLeg row.legs
