use Rattle.plan_reads.proofs.BeforeLaws.{nearest_followed, none_first}
use Rattle.plan_reads.proofs.laws.the_leg_before_a_leg_is_followed_by_it.Goals as goal

pub returns : goal.returns
returns c = record {
  next = λ I P y leg before. nearest_followed I P y leg.0 before;
  first = none_first;
}
