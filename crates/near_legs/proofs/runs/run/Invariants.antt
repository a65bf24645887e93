use Rattle.near_legs.proofs.RunLaws.{IsRunSoFar}
use Rattle.near_legs.proofs.runs.run.Given as goal

abbrev pub invariant-loop : goal.invariant-loop
invariant-loop l = IsRunSoFar l.inst l.plan l.fn.leg.0 l.legs.items l.next l.counter
