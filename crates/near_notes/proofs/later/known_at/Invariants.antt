use Rattle.near_notes.specs.Later.{AreKnown}
use Rattle.near_notes.proofs.later.known_at.Given as goal

abbrev pub invariant-loop-r : goal.invariant-loop-r
invariant-loop-r l = AreKnown l.plans.inst.now l.plans.plan.now l.r l.known.items
