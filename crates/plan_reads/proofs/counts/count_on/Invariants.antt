use Rattle.std.proofs.Common.{◌≡◌, take}
use Rattle.desk_model.specs.Rebook.{count_on}
use Rattle.plan_reads.proofs.counts.count_on.Given as goal

abbrev pub invariant-loop-group : goal.invariant-loop-group
invariant-loop-group l = l.count ≡ count_on l.path (take l.group-index l.groups)
