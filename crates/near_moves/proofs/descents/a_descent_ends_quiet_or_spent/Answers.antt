use Rattle.near_moves.proofs.DescentLaws.{descent-ends, descent-planned, descent-quiet}
use Rattle.near_moves.proofs.descents.a_descent_ends_quiet_or_spent.Goals as goal

pub returns : goal.returns
returns c = record {
  ends = descent-ends;
  planned = λ most S h is. descent-planned most most S h is;
  quiet = descent-quiet;
}
