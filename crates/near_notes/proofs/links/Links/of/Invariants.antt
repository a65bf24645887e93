use Rattle.near_notes.proofs.LinkLaws.{AreTold}
use Rattle.near_notes.proofs.links.Links.of.Given as goal

abbrev pub invariant-loop-x : goal.invariant-loop-x
invariant-loop-x l = AreTold l.inst l.x l.known.items
