use Rattle.std.proofs.Common.{ap, ◌∙◌}
use Rattle.std.specs.Prelude.{Option}
use Rattle.desk_units.specs.declared.numbers.Airport.{Airport}
use Rattle.plan_checks.specs.Stands.{is_there}
use Rattle.near_untouched.proofs.HandLaws.{ends-is}
use Rattle.near_untouched.proofs.ends.end_after.Goals as goal

pub returns : goal.returns
returns c = λ airport.
    ap (λ (end : Option Airport). is_there end airport) c.end_of.ensures
    ∙ ends-is c.args.inst.now c.args._plan.now c.args.plane.0 airport c.args.last c.requires.last
