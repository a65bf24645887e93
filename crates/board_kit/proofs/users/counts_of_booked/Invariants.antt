use Rattle.std.proofs.Common.{◌≡◌, length}
use Rattle.desk_data.specs.Situation.{legs_of}
use Rattle.board_kit.proofs.users.counts_of_booked.Given as goal

abbrev pub invariant-loop-r : goal.invariant-loop-r
invariant-loop-r l = length l.counts.items ≡ legs_of l.inst
