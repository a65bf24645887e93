use Rattle.std.proofs.Common.{arith}
use Rattle.std.proofs.lemmas.Grind.{common_steps}
use Rattle.day_orders.proofs.LastLemmas.{last_word-push, last_word-nil}
use Rattle.desk_data.proofs.hours.cap_of_line.Goals as goal

pub loop-group-init : goal.loop-group-init
loop-group-init c = grind (arith, common_steps, last_word-nil)

pub loop-group-preserved : goal.loop-group-preserved
loop-group-preserved c = grind (arith, common_steps, last_word-push)
