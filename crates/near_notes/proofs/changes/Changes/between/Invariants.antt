use Rattle.near_notes.proofs.StillLaws.{AreSeen}
use Rattle.near_notes.proofs.changes.Changes.between.Given as goal

abbrev pub invariant-loop-x : goal.invariant-loop-x
invariant-loop-x g l = AreSeen l.inst l.was l.plan l.x l.touched.items l.legs.items
