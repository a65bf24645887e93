use Rattle.std.proofs.Common.{take}
use Rattle.near_notes.specs.Changes.{AreAllStill}
use Rattle.near_notes.proofs.changes.Changes.are_still.Given as goal

abbrev pub invariant-loop-pair : goal.invariant-loop-pair
invariant-loop-pair l = AreAllStill l.self.touched.items (take l.pair-index l.path)
