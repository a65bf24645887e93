use Rattle.desk_model.proofs.BesideLaws.{departs_beside-holds, departs_beside-from, arrives_beside-holds, arrives_beside-from}
use Rattle.desk_model.proofs.RefillLaws.{has_seats_for-holds, has_seats_for-from}
use Rattle.desk_model.proofs.TidyLaws.{is_fit-holds, is_fit-from}
use Rattle.desk_model.proofs.steps.the_steps_count_and_judge_as_in_words.Goals as goal

pub returns : goal.returns
returns c = record {
  departs = λ I Q x a h y. (departs_beside-holds I Q x a h y, departs_beside-from I Q x a h y);
  arrives = λ I Q x a h y. (arrives_beside-holds I Q x a h y, arrives_beside-from I Q x a h y);
  seats = λ I P path n. (has_seats_for-holds I P path n, has_seats_for-from I P path n);
  fit = λ I P r path. (is_fit-holds I P r path, is_fit-from I P r path);
}
