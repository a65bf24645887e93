use Rattle.std.proofs.Common.{take}
use Rattle.near_untouched.specs.Marks.{ArePathsFree}
use Rattle.near_untouched.proofs.marks.are_paths_free.Given as goal

-- no leg of the groups so far is marked
abbrev pub invariant-loop-group : goal.invariant-loop-group
invariant-loop-group l = ArePathsFree l.marks (take l.group-index l.groups)
