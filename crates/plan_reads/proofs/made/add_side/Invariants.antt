use Rattle.std.proofs.Common.{◌≡◌, ◌++◌, take}
use Rattle.std.specs.Prelude.{filter}
use Rattle.plan_reads.specs.Made.{is_on_side}
use Rattle.plan_reads.proofs.made.add_side.Given as goal

abbrev pub invariant-loop-group : goal.invariant-loop-group
invariant-loop-group l = l.made.items ≡ l.initial.made.items ++ filter (is_on_side l.side l.path) (take l.group-index l.groups)
