use Rattle.std.proofs.Common.{◌≡◌, take, map}
use Rattle.desk_data.specs.Insides.{entries_in}
use Rattle.desk_data.specs.Situation.{all_waiting}
use Rattle.desk_data.proofs.tally.all_waiting.Given as goal

abbrev pub invariant-loop-res : goal.invariant-loop-res
invariant-loop-res l = map entries_in l.tally.items ≡ map all_waiting (take l.res-index l.reservations)
