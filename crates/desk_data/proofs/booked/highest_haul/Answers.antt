use Rattle.std.proofs.Common.{◌≡◌, ◌+◌, ◌≤◌, drop, length, get_or, sym, ap, ◌∙◌, arith}
use Rattle.desk_units.specs.declared.numbers.Leg.{Leg}
use Rattle.desk_units.specs.declared.numbers.Cabin.{Cabin}
use Rattle.desk_units.specs.declared.numbers.Cabin.TheVariants as cabin
use Rattle.desk_data.specs.Situation.{fresh_day, leg_at}
use Rattle.desk_data.specs.Booked.{higher_haul, highest_haul}
use Rattle.desk_data.proofs.HighestLaws.{haul_more, haul_all}
use Rattle.desk_data.proofs.booked.highest_haul.Goals as goal

pub loop-leg-preserved : goal.loop-leg-preserved
loop-leg-preserved c =
    let I = fresh_day c.args.parts.now in
    let path = c.args.path.now in
    let i = c.loop-leg.leg-index in
    let none : Leg × Cabin = (record { 0 = 0 }, cabin.F) in
    let here : c.higher_haul-highest.result ≡ higher_haul c.loop-leg.highest (leg_at I (get_or path i none).0.0).haul = c.higher_haul-highest.ensures ∙ ap (λ info. higher_haul c.loop-leg.highest info.haul) c.leg_of.ensures.row in
    ap (λ h. higher_haul h (highest_haul I (drop (i + 1) path))) here ∙ haul_more I path i none c.loop-leg.highest c.loop-leg-test.true ∙ c.loop-leg.invariant

pub returns : goal.returns
returns c =
    let all : length c.args.path.now ≤ c.loop-leg.leg-index = omega arith in
    sym (haul_all (fresh_day c.args.parts.now) c.args.path.now c.loop-leg.leg-index c.loop-leg.highest all) ∙ c.loop-leg.invariant
