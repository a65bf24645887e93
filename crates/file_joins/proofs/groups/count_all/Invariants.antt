use Rattle.std.proofs.Common.{◌≡◌, ◌-◌, ◌^◌, take}
use Rattle.std.specs.Prelude.{min, sum_by}
use Rattle.file_joins.proofs.groups.count_all.Given as goal

abbrev pub invariant-loop-group : goal.invariant-loop-group
invariant-loop-group l = l.all ≡ min (2 ^ 64 - 1) (sum_by (λ group. group.count) (take l.group-index l.groups))
