use Rattle.std.proofs.Common.{take}
use Rattle.std.specs.List.{All}
use Rattle.near_notes.specs.Changes.{AreAllStill}
use Rattle.near_notes.proofs.untouched.have_still_paths.Given as goal

abbrev pub invariant-loop-group : goal.invariant-loop-group
invariant-loop-group l = All (λ group. AreAllStill l.changes.touched.items group.path) (take l.group-index l.groups)
