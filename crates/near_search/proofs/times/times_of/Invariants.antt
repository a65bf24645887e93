use Rattle.near_search.specs.Rotations.{AreTimes}
use Rattle.near_search.proofs.times.times_of.Given as goal

-- what is told of the aircraft that are passed
abbrev pub invariant-loop-p : goal.invariant-loop-p
invariant-loop-p l = AreTimes l.inst l.plan l.p l.times.items
