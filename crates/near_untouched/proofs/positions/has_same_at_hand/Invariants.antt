use Rattle.std.proofs.Common.{take}
use Rattle.std.specs.List.{All}
use Rattle.near_untouched.proofs.HandLaws.{IsSameHand}
use Rattle.near_untouched.proofs.positions.has_same_at_hand.Given as goal

-- the aircraft so far are at hand in both plans or in neither
abbrev pub invariant-loop-plane : goal.invariant-loop-plane
invariant-loop-plane l = All (λ q. IsSameHand l.plans.inst.now l.was l.now l.position q.0) (take l.plane-index l.planes)
