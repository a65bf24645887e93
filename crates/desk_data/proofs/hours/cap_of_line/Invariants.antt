use Rattle.std.proofs.Common.{◌≡◌, take}
use Rattle.day_orders.specs.LastOrders.{last_word}
use Rattle.desk_data.specs.Hours.{cap_on_minute}
use Rattle.desk_data.proofs.hours.cap_of_line.Given as goal

-- the last group so far decides
abbrev pub invariant-loop-group : goal.invariant-loop-group
invariant-loop-group l = l.last ≡ last_word (cap_on_minute l.minute) (take l.group-index l.groups)
