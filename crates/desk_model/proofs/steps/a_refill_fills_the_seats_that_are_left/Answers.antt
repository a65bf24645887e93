use Rattle.desk_model.proofs.RefillLaws.{after_refill-refills, after_refill-rows, after_refill-seats, after_refill-turn}
use Rattle.desk_model.proofs.steps.a_refill_fills_the_seats_that_are_left.Goals as goal

pub returns : goal.returns
returns c = record {
  reservation = λ I P x r valid plan within. after_refill-refills I P x valid plan r within;
  turn = after_refill-turn;
  rows = after_refill-rows;
  seats = λ I P x y c valid plan. after_refill-seats I P x valid plan y c;
}
