use Rattle.std.proofs.Common.{◌++◌, map, ap, ◌∙◌}
use Rattle.desk_build.specs.Day.{position_info, positions_of}
use Rattle.build_tables.proofs.RowLemmas.{flat_map_next}
use Rattle.desk_build.proofs.positions.positions.Goals as goal

pub loop-row-preserved : goal.loop-row-preserved
loop-row-preserved c =
    let airports = c.args.tables.now.files.now.airports in
    let row = c.row-item.result in
    c.in_ok-push_groups.ensures
    ∙ ap (λ groups. c.loop-row.positions.items ++ map (position_info c.airport_of-airport.result) groups) c.as_slice.ensures
    ∙ ap (λ airport. c.loop-row.positions.items ++ map (position_info airport) row.groups) c.airport_of-airport.ensures
    ∙ ap (λ items. items ++ positions_of airports row) c.loop-row.invariant
    ∙ flat_map_next (positions_of airports) c.as_slice-rows.result.now c.loop-row.row-index row c.loop-row-test.true c.row-item.is
