use Rattle.std.proofs.Common.{◌≡◌, map}
use Rattle.std.specs.List.{range_with_len}
use Rattle.desk_data.specs.Insides.{entries_in}
use Rattle.desk_data.specs.Progress.{tally_then}
use Rattle.desk_data.proofs.tally.tallies.Given as goal

abbrev pub invariant-loop-r : goal.invariant-loop-r
invariant-loop-r l = map entries_in l.tally.items ≡ map (tally_then l.inst l.plan l.frozen) (range_with_len 0 l.r)
