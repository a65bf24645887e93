use Rattle.desk_eval.proofs.passengers.PassengerBoardsBoard.back.Goals as goal

pub returns : goal.returns
returns c I P Q Qs is = record { first = c.back.ensures I P Q Qs is.first; second = c.back-2.ensures I P Q Qs is.second }
