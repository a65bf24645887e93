use Rattle.std.proofs.Common.{max, arith}
use Rattle.desk_model.specs.Histories.{accepted_since_batch}
use Rattle.near_moves.proofs.DescentLaws.{descent-descends, descent-unplanned, descent-length, descent-few, batch-since}
use Rattle.near_moves.proofs.descents.a_descent_adds_the_first_better_moves.Goals as goal

pub returns : goal.returns
returns c = record {
  adds = λ most S h. descent-descends most most S h;
  unplanned = λ most S h item is. descent-unplanned most most S h item is;
  length = λ most b S h le limit. descent-length most most b S h le limit;
  batch = batch-since;
  few = λ most S h. descent-few most most (max most (accepted_since_batch h)) S h (omega arith) (omega arith);
}
