use Rattle.std.proofs.Common.{[], ◌∷◌, ◌++◌, length, map, take, sym, ap, ◌∙◌}
use Rattle.std.proofs.lemmas.List.{length-map, map_more}
use Rattle.build_tables.specs.Names.{leg_place, leg_places}
use Rattle.build_tables.proofs.RowLemmas.{parts_fit, parts_first, parts_after}
use Rattle.desk_build.specs.Day.{res_info}
use Rattle.desk_build.proofs.reservations.reservations.Goals as goal

pub cut_legs-requires : goal.cut_legs-requires
cut_legs-requires c =
    let rotations = c.args.tables.now.files.now.rotations in
    let row = c.row-item.result in
    parts_fit (leg_places rotations) c.as_slice-rows.result.now c.loop-row.row-index row c.loop-row-test.true c.row-item.is c.loop-row.rest.now c.loop-row.invariant.legs (length row.legs) (sym (length-map row.legs (leg_place rotations)))

pub res_info-requires-clause-places : goal.res_info-requires-clause-places
res_info-requires-clause-places c =
    let rotations = c.args.tables.now.files.now.rotations in
    let row = c.row-item.result in
    c.cut_legs.ensures.first ∙ parts_first (leg_places rotations) c.as_slice-rows.result.now c.loop-row.row-index row c.loop-row-test.true c.row-item.is c.loop-row.rest.now c.loop-row.invariant.legs (length row.legs) (sym (length-map row.legs (leg_place rotations)))

pub loop-row-preserved : goal.loop-row-preserved
loop-row-preserved c =
    let rotations = c.args.tables.now.files.now.rotations in
    let row = c.row-item.result in
    let rows = c.as_slice-rows.result.now in
    let i = c.loop-row.row-index in
    record {
      made = c.in_ok-push.ensures.items
          ∙ ap (λ res. c.loop-row.reservations.items ++ res ∷ []) c.in_ok-res_info.ensures
          ∙ ap (λ items. items ++ res_info rotations row ∷ []) c.loop-row.invariant.made
          ∙ ap (λ r. map (res_info rotations) (take i rows) ++ res_info rotations r ∷ []) c.row-item.is
          ∙ sym (map_more (res_info rotations) rows i row c.loop-row-test.true);
      legs = c.cut_legs.ensures.after ∙ parts_after (leg_places rotations) c.as_slice-rows.result.now c.loop-row.row-index row c.loop-row-test.true c.row-item.is c.loop-row.rest.now c.loop-row.invariant.legs (length row.legs) (sym (length-map row.legs (leg_place rotations)));
    }
