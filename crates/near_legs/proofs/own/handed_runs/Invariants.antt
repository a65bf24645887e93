use Rattle.std.proofs.Common.{◌≡◌, not, nat_eq, map, take}
use Rattle.std.specs.Prelude.{filter}
use Rattle.std.specs.List.{flat_map}
use Rattle.near_moves.specs.MoveParts.{is_run}
use Rattle.near_moves.specs.LegMoves.{run_lengths}
use Rattle.near_legs.specs.declared.unit.LegUnit.TheVariants.{Handed}
use Rattle.near_legs.proofs.own.handed_runs.Given as goal

abbrev pub invariant-loop-count : goal.invariant-loop-count
invariant-loop-count l = record {
  all : l.units.items ≡ flat_map (λ k. map (λ q. Handed l.leg k q) (filter (λ q. not (nat_eq q.0 l.plane.0)) l.family)) (filter (is_run l.inst l.plan l.leg.0) (take l.count-index l.count-items));
  items : l.count-items ≡ run_lengths;
}
