use Rattle.near_notes.proofs.KnownLaws.{AreCounted}
use Rattle.near_notes.proofs.later.all_aboard.Given as goal

abbrev pub invariant-loop-x : goal.invariant-loop-x
invariant-loop-x g l = AreCounted l.plan l.x l.seats.items
