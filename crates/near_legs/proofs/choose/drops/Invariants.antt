use Rattle.std.proofs.Common.{◌≡◌, map, take}
use Rattle.std.specs.Prelude.{filter}
use Rattle.near_moves.specs.LegMoves.{comes_round, run_lengths}
use Rattle.near_legs.specs.declared.choice.Choice.TheVariants.{Drop}
use Rattle.near_legs.proofs.choose.drops.Given as goal

abbrev pub invariant-loop-count : goal.invariant-loop-count
invariant-loop-count l = record {
  all : l.all.items ≡ map (Drop l.leg) (filter (comes_round l.inst l.plan l.leg.0) (take l.count-index l.count-items));
  items : l.count-items ≡ run_lengths;
}
