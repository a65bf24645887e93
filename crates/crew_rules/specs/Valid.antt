-- Crews that a day can have.
use Rattle.std.specs.Prelude.{◌≢◌, ◌<◌, ◌≤◌, List, length, All}
use Rattle.std.specs.List.{AllPairs}
use Rattle.desk_data.specs.declared.parts.Parts.{Parts}
use Rattle.crew_rules.specs.declared.crew.CrewInfo.{CrewInfo}

-- a crew's home and its legs are of the day, no leg is listed twice, and a duty and a rest are 1 to 10,000 minutes
pub record IsCrew (D : Parts) (c : CrewInfo) : Type 0 where
  pub home : c.home.0 < length D.airports
  pub some_duty : 1 ≤ c.duty
  pub most_duty : c.duty ≤ 10000
  pub some_rest : 1 ≤ c.rest
  pub most_rest : c.rest ≤ 10000
  pub legs : All (λ leg. leg.0 < length D.legs) c.legs
  pub apart : AllPairs (λ x y. x.0 ≢ y.0) c.legs

-- the crews of a day are at most 5,000
pub record AreCrews (D : Parts) (cs : List CrewInfo) : Type 0 where
  pub few : length cs ≤ 5000
  pub each : All (IsCrew D) cs
