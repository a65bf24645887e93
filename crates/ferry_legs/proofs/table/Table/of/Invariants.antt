use Rattle.ferry_legs.proofs.TableLaws.{IsTableOf}
use Rattle.ferry_legs.proofs.table.Table.of.Given as goal

-- the legs so far
abbrev pub invariant-loop-x : goal.invariant-loop-x
invariant-loop-x l = IsTableOf l.movement l.inst l.plan l.x l.table
