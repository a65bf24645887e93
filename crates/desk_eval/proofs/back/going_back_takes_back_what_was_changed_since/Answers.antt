use Rattle.desk_eval.proofs.BackLaws.{back_to-itself, back_to-change, back_to-twice}
use Rattle.desk_eval.proofs.back.going_back_takes_back_what_was_changed_since.Goals as goal

pub returns : goal.returns
returns c = record { itself = back_to-itself; change = back_to-change; twice = back_to-twice }
