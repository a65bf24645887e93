use Rattle.std.proofs.Common.{map, take}
use Rattle.desk_data.specs.Situation.{airports_of}
use Rattle.ferry_legs.specs.Positions.{ArePositionsOf}
use Rattle.ferry_legs.proofs.positions.positions_of.Given as goal

-- the positions so far
abbrev pub invariant-loop-position : goal.invariant-loop-position
invariant-loop-position l = ArePositionsOf (take l.position-index l.inst.parts.positions) (airports_of l.inst) (λ position. 0) (map (λ r. r.items) l.airports.items)
