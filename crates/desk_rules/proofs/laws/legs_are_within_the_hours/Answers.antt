use Rattle.desk_rules.proofs.HourLaws.{departs_within, arrives_within}
use Rattle.desk_rules.proofs.laws.legs_are_within_the_hours.Goals as goal

pub returns : goal.returns
returns c = record {
  departs = λ I P a h x valid plan leg. departs_within I P a h x plan leg;
  arrives = arrives_within;
}
