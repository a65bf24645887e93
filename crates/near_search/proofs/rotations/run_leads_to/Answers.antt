use Rattle.std.proofs.Common.{ℕ, ◌<◌, take, ap, ◌∙◌}
use Rattle.desk_units.specs.declared.numbers.Leg.{Leg}
use Rattle.desk_data.specs.declared.info.LegInfo.{LegInfo}
use Rattle.desk_data.specs.Situation.{legs_of}
use Rattle.near_moves.specs.Chains.{led, from_airport}
use Rattle.near_search.specs.Rotations.{numbers_of}
use Rattle.near_search.proofs.RotationLaws.{run-is, run-within}
use Rattle.near_search.proofs.rotations.run_leads_to.Goals as goal

pub led-requires : goal.led-requires
led-requires c =
    let I = c.args.eval.now.inst in
    let P = c.args.eval.now.rows in
    let legs = c.of_plane.result.now in
    let is = c.first_of.ensures ∙ ap (take c.args.count) c.from_leg-legs.ensures in
    rw (c.instance-inst.ensures, is) (run-within (λ (leg : Leg). leg.0 < legs_of I) c.args.leg.0 c.args.count legs (c.of_plane.ensures.within I P c.requires.rotations))

pub returns : goal.returns
returns c =
    let I = c.args.eval.now.inst in
    let P = c.args.eval.now.rows in
    let legs = c.of_plane.result.now in
    let is = c.first_of.ensures ∙ ap (take c.args.count) c.from_leg-legs.ensures in
    let run = run-is I P c.args.leg.0 c.args.plane.0 c.args.count legs c.requires.leg c.requires.flown (c.of_plane.ensures.order I P c.requires.rotations) in
    let leads = rw c.instance-inst.ensures at c.led.ensures in
    let begins = ap (λ (info : LegInfo). info.origin.0) (rw c.instance-inst.ensures at c.leg.ensures.row) in
    leads ∙ ap (λ (a : ℕ). led I a (numbers_of c.first_of.result.now)) begins ∙ ap (led I (from_airport I c.args.leg.0)) (ap numbers_of is ∙ run)
