use Rattle.plan_checks.specs.Upkeep.{AreUpkeeps}
use Rattle.plan_checks.proofs.upkeep.upkeeps_of.Given as goal

abbrev pub invariant-loop-x : goal.invariant-loop-x
invariant-loop-x l = AreUpkeeps l.inst l.plan l.x l.upkeeps.items
