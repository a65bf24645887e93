-- What holds of the rows of sol_rotations.csv and sol_itineraries.csv, as their readers give them.
use Rattle.std.specs.Prelude.{◌<◌, ◌≤◌, All, IfSome}
use Rattle.file_rows.specs.Facts.{IsLeg}
use Rattle.file_readers.specs.declared.sol_row.PlannedFlight.{PlannedFlight}
use Rattle.file_readers.specs.declared.sol_row.PlannedLeg.{PlannedLeg}
use Rattle.file_readers.specs.declared.sol_row.PlannedGroup.{PlannedGroup}

-- a departure is of the years 2000 to 2099
pub record IsPlannedFlight (flown : PlannedFlight) : Type 0 where
  pub dep : flown.dep.0 < 52596000

-- so is the day of a leg
pub record IsPlannedLeg (row : PlannedLeg) : Type 0 where
  pub day : row.day < 36525
  pub flown : IfSome row.flown IsPlannedFlight

-- passengers are 1 to 1,000, and the days of their legs of the years 2000 to 2099
pub record IsPlannedGroup (row : PlannedGroup) : Type 0 where
  pub some : 1 ≤ row.count
  pub most : row.count ≤ 1000
  pub legs : All IsLeg row.legs
