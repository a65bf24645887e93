use Rattle.desk_eval.proofs.passengers.PassengerBoardsBoard.copy.Goals as goal

pub returns : goal.returns
returns c I P Ps is = record { first = c.in_ok-seats.ensures I P Ps is.first; second = c.in_ok-cost.ensures I P Ps is.second }
