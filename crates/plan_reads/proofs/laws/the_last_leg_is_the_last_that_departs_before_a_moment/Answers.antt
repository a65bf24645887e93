use Rattle.plan_reads.proofs.LastLaws.{is_last, no_leg, left_asked}
use Rattle.plan_reads.proofs.laws.the_last_leg_is_the_last_that_departs_before_a_moment.Goals as goal

pub returns : goal.returns
returns c = record {
  last = λ I P p at leg last. is_last I P p at leg.0 last;
  none = no_leg;
  stands = left_asked;
}
