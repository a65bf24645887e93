use Rattle.std.proofs.Common.{take}
use Rattle.near_untouched.specs.Marks.{AreLegsFree}
use Rattle.near_untouched.proofs.marks.is_path_free.Given as goal

-- no leg so far is marked
abbrev pub invariant-loop-pair : goal.invariant-loop-pair
invariant-loop-pair l = AreLegsFree l.marks (take l.pair-index l.path)
