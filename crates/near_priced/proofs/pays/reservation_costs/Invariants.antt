use Rattle.near_priced.specs.Payers.{AreCosts}
use Rattle.near_priced.proofs.pays.reservation_costs.Given as goal

-- of the reservations so far
abbrev pub invariant-loop-r : goal.invariant-loop-r
invariant-loop-r l = AreCosts l.inst l.plan l.costs.items l.r
