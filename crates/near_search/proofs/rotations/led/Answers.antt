use Rattle.std.proofs.Common.{rules, sym, ap, ◌∙◌}
use Rattle.desk_data.specs.declared.info.LegInfo.{LegInfo}
use Rattle.near_search.proofs.RotationLaws.{led-by-last}
use Rattle.near_search.proofs.rotations.led.Goals as goal

pub returns-in-Some : goal.returns-in-Some
returns-in-Some c =
    ap (λ (info : LegInfo). info.dest.0) c.leg.ensures.row
    ∙ sym (led-by-last c.args.inst.now c.args.from.0 c.args.legs.now c.in-Some.leg.now (search rules))
