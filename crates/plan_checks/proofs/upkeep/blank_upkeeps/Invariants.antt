use Rattle.std.proofs.Common.{◌≡◌, take, map}
use Rattle.plan_checks.specs.Upkeep.{blank}
use Rattle.plan_checks.proofs.upkeep.blank_upkeeps.Given as goal

abbrev pub invariant-loop-last : goal.invariant-loop-last
invariant-loop-last l = l.upkeeps.items ≡ map blank (take l.last-index l.lasts)
