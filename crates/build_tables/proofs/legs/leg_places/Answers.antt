use Rattle.std.proofs.Common.{◌++◌, map, ap, ◌∙◌}
use Rattle.build_tables.specs.Names.{leg_place, leg_places}
use Rattle.build_tables.proofs.RowLemmas.{flat_map_next}
use Rattle.build_tables.proofs.legs.leg_places.Goals as goal

pub loop-row-preserved : goal.loop-row-preserved
loop-row-preserved c =
    let rotations = c.args.files.now.rotations in
    let row = c.row-item.result in
    c.in_ok-push_legs.ensures
    ∙ ap (λ legs. c.loop-row.places.items ++ map (leg_place rotations) legs) c.as_slice.ensures
    ∙ ap (λ items. items ++ leg_places rotations row) c.loop-row.invariant
    ∙ flat_map_next (leg_places rotations) c.as_slice-rows.result.now c.loop-row.row-index row c.loop-row-test.true c.row-item.is
