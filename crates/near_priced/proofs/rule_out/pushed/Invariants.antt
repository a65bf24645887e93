use Rattle.std.proofs.Common.{◌<◌}
use Rattle.std.specs.Option.{ForSome}
use Rattle.desk_data.specs.Situation.{planes_of}
use Rattle.near_priced.proofs.rule_out.pushed.Given as goal

abbrev pub invariant-loop-step : goal.invariant-loop-step
invariant-loop-step l = ForSome l.found (λ planes. (planes.0.0 < planes_of l._inst) × (planes.1.0 < planes_of l._inst))
