use Rattle.std.proofs.Common.{◌∷◌, List, map, ap, ◌∙◌}
use Rattle.std.specs.Prelude.{filter}
use Rattle.desk_units.specs.declared.numbers.Leg.{Leg}
use Rattle.near_legs.specs.declared.lists.By.TheVariants.{AirportPair}
use Rattle.near_legs.specs.declared.choice.Choice.TheVariants.{Alone, Both}
use Rattle.near_legs.specs.Choices.{is_back_in_time}
use Rattle.near_legs.proofs.ListsLaws.{listed-within}
use Rattle.near_legs.proofs.RunLaws.{all_taken}
use Rattle.near_legs.proofs.ChoiceLaws.{back_number, restorings-are, restorings-sound, backs-listed}
use Rattle.near_legs.proofs.choose.restorings.Goals as goal

pub is_back_in_time-requires-clause-back : goal.is_back_in_time-requires-clause-back
is_back_in_time-requires-clause-back c =
    let I = c.args.inst.now in
    let own = backs-listed I c.args.plan.now c.args.tables.now.cancelled c.cancelled-backs.result.now c.leg-there.result.now c.args.leg c.parts-rows.ensures.valid c.requires.leg c.leg-there.ensures.row c.requires.lists.cancelled c.cancelled-backs.ensures in
    listed-within I c.args.plan.now AirportPair (back_number I c.args.leg.0) c.cancelled-backs.result.now own c.loop-back.back-index (record { 0 = 0 }) c.loop-back-test.true

pub returns-clause-steps : goal.returns-clause-steps
returns-clause-steps c =
    let I = c.args.inst.now in
    let P = c.args.plan.now in
    let backs = c.cancelled-backs.result.now in
    let own = backs-listed I P c.args.tables.now.cancelled backs c.leg-there.result.now c.args.leg c.parts-rows.ensures.valid c.requires.leg c.leg-there.ensures.row c.requires.lists.cancelled c.cancelled-backs.ensures in
    restorings-are I P c.args.leg c.args.plane c.loop-back.all.items backs c.parts-rows.ensures.valid
    (c.loop-back.invariant ∙ ap (λ (bs : List Leg). Alone c.args.leg c.args.plane ∷ map (Both c.args.leg c.args.plane) (filter (λ (b : Leg). is_back_in_time I c.args.leg.0 b.0) bs)) (all_taken backs c.loop-back.back-index c.loop-back-test.false))
    own

pub returns-clause-sound : goal.returns-clause-sound
returns-clause-sound c =
    let I = c.args.inst.now in
    let P = c.args.plan.now in
    let backs = c.cancelled-backs.result.now in
    let own = backs-listed I P c.args.tables.now.cancelled backs c.leg-there.result.now c.args.leg c.parts-rows.ensures.valid c.requires.leg c.leg-there.ensures.row c.requires.lists.cancelled c.cancelled-backs.ensures in
    restorings-sound I P c.args.leg c.args.plane c.loop-back.all.items backs c.requires.leg c.requires.plane (listed-within I P AirportPair (back_number I c.args.leg.0) backs own)
    (c.loop-back.invariant ∙ ap (λ (bs : List Leg). Alone c.args.leg c.args.plane ∷ map (Both c.args.leg c.args.plane) (filter (λ (b : Leg). is_back_in_time I c.args.leg.0 b.0) bs)) (all_taken backs c.loop-back.back-index c.loop-back-test.false))
