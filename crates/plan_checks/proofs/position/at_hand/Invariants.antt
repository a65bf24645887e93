use Rattle.std.proofs.Common.{◌≡◌, ◌≤◌, take}
use Rattle.plan_checks.specs.Stands.{count_of_wanted}
use Rattle.plan_checks.proofs.position.at_hand.Given as goal

-- those among the aircraft so far
abbrev pub invariant-loop-p : goal.invariant-loop-p
invariant-loop-p l = (l.count ≡ count_of_wanted l.inst l.position (take l.p-index l.here)) × (l.count ≤ l.p-index)
