use Rattle.desk_core.proofs.TurnedLaws.{reported_of}
use Rattle.desk_core.proofs.turned.a_pass_gets_the_answer_at_the_history_of_its_turn.Goals as goal

pub returns : goal.returns
returns c = λ I v w caller e given called. reported_of I v caller e given w called
