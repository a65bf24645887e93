use Rattle.std.proofs.Common.{[]}
use Rattle.near_untouched.proofs.SamePlanLaws.{AreSameUpTo}
use Rattle.near_untouched.proofs.same.has_same_groups.Given as goal

-- the reservations so far have the same groups
abbrev pub invariant-loop-r : goal.invariant-loop-r
invariant-loop-r l = AreSameUpTo [] l.one.groups l.other.groups l.r
