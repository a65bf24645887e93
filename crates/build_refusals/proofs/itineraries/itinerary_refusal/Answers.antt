use Rattle.std.proofs.Common.{length, ap, sym, ◌∙◌, arith}
use Rattle.std.proofs.lemmas.List.{length-map}
use Rattle.file_rows.specs.declared.passengers.ItineraryRow.{ItineraryRow}
use Rattle.build_tables.specs.Names.{leg_place, leg_places}
use Rattle.build_tables.proofs.RowLemmas.{parts_fit, parts_first, parts_after}
use Rattle.build_refusals.specs.First.{first_refusal_in}
use Rattle.build_refusals.specs.Itineraries.{itinerary_cause}
use Rattle.build_refusals.proofs.FirstLemmas.{of_row, refused_more, refused_here, refused_end}
use Rattle.build_refusals.proofs.itineraries.itinerary_refusal.Goals as goal

pub cut_legs-requires : goal.cut_legs-requires
cut_legs-requires c =
    let rotations = c.args.tables.now.files.now.rotations in
    let row = c.index-rows-place.result in
    parts_fit (leg_places rotations) c.as_slice-rows.result.now c.loop-place.place row c.loop-place-test.true c.index-rows-place.is c.loop-place.rest.now c.loop-place.invariant.legs (length row.legs) (sym (length-map row.legs (leg_place rotations)))

pub itinerary_cause-requires-clause-legs : goal.itinerary_cause-requires-clause-legs
itinerary_cause-requires-clause-legs c =
    let rotations = c.args.tables.now.files.now.rotations in
    let row = c.index-rows-place.result in
    c.cut_legs.ensures.first ∙ parts_first (leg_places rotations) c.as_slice-rows.result.now c.loop-place.place row c.loop-place-test.true c.index-rows-place.is c.loop-place.rest.now c.loop-place.invariant.legs (length row.legs) (sym (length-map row.legs (leg_place rotations)))

pub returns-in-Some : goal.returns-in-Some
returns-in-Some c =
    let cause = itinerary_cause c.args.tables.now.files.now in
    let line = λ (row : ItineraryRow). row.line in
    let rows = c.as_slice-rows.result.now in
    refused_here cause (of_row line) rows c.loop-place.place c.index-rows-place.result c.in-Some.cause (first_refusal_in cause line rows) c.loop-place-test.true c.index-rows-place.is c.in-Some.ensures c.loop-place.invariant.so_far
    ∙ ap (first_refusal_in cause line) c.as_slice-rows.ensures

pub loop-place-preserved : goal.loop-place-preserved
loop-place-preserved c =
    let rotations = c.args.tables.now.files.now.rotations in
    let row = c.index-rows-place.result in
    let cause = itinerary_cause c.args.tables.now.files.now in
    let line = λ (row : ItineraryRow). row.line in
    let rows = c.as_slice-rows.result.now in
    record {
      so_far = refused_more cause (of_row line) rows c.loop-place.place c.index-rows-place.result (first_refusal_in cause line rows) c.loop-place-test.true c.index-rows-place.is c.in_default.ensures c.loop-place.invariant.so_far;
      legs = c.cut_legs.ensures.after ∙ parts_after (leg_places rotations) rows c.loop-place.place row c.loop-place-test.true c.index-rows-place.is c.loop-place.rest.now c.loop-place.invariant.legs (length row.legs) (sym (length-map row.legs (leg_place rotations)));
    }

pub returns : goal.returns
returns c =
    let cause = itinerary_cause c.args.tables.now.files.now in
    let line = λ (row : ItineraryRow). row.line in
    let rows = c.as_slice-rows.result.now in
    refused_end cause (of_row line) rows c.loop-place.place (first_refusal_in cause line rows) (omega arith) c.loop-place.invariant.so_far
    ∙ ap (first_refusal_in cause line) c.as_slice-rows.ensures
