use Rattle.std.proofs.Common.{◌≡◌, map, take}
use Rattle.std.specs.Prelude.{filter, nat_lt}
use Rattle.desk_units.specs.declared.numbers.Leg.{Leg}
use Rattle.desk_rules.specs.Rotations.{dep}
use Rattle.near_moves.specs.Chains.{led}
use Rattle.near_search.proofs.rotations.led_before.Given as goal

-- where the legs led that are passed
abbrev pub invariant-loop-leg : goal.invariant-loop-leg
invariant-loop-leg l = l.stands.0 ≡ led l.eval.inst l.fn.from.0 (filter (λ x. nat_lt (dep l.eval.rows x) l.at.0) (map (λ (leg : Leg). leg.0) (take l.leg-index l.legs)))
