use Rattle.desk_eval.proofs.passengers.PassengerBoardsBoard.forget.Goals as goal

pub returns : goal.returns
returns c I P Ps is = record { first = c.forget.ensures I P Ps is.first; second = c.forget-2.ensures I P Ps is.second }
