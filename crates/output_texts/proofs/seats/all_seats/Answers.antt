use Rattle.std.proofs.Common.{arith}
use Rattle.output_texts.proofs.SeatLaws.{all_left}
use Rattle.output_texts.proofs.seats.all_seats.Goals as goal

pub returns : goal.returns
returns c = all_left c.args.size c.loop-x.rows.items (omega arith) (λ x within. c.loop-x.invariant.each x (omega arith))
