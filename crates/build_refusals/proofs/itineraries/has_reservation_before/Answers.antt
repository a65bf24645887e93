use Rattle.std.proofs.Common.{ltb, false, sym, ap, ◌∙◌}
use Rattle.std.specs.Option.{option_map_or}
use Rattle.file_rows.specs.declared.passengers.ItineraryRow.{ItineraryRow}
use Rattle.build_tables.specs.Keys.{by_reservation}
use Rattle.build_tables.proofs.PlaceLemmas.{none_before}
use Rattle.build_refusals.specs.Itineraries.{is_same_reservation}
use Rattle.build_refusals.proofs.BeforeLemmas.{stood_before}
use Rattle.build_refusals.proofs.itineraries.has_reservation_before.Goals as goal

pub returns-then-are_reservations_apart : goal.returns-then-are_reservations_apart
returns-then-are_reservations_apart c =
    sym (none_before (λ (row : ItineraryRow). by_reservation row.name row.inbound) c.args.tables.now.files.now.itineraries c.args.place c.args.row.now (c.are_reservations_apart.ensures c.if-are_reservations_apart.true) c.requires.below c.requires.at)

pub returns : goal.returns
returns c =
    c.is_before.ensures
    ∙ ap (λ first. option_map_or (λ k. ltb k c.args.place) first false) c.itinerary_place.ensures
    ∙ stood_before (is_same_reservation c.args.row.now) c.args.place c.args.tables.now.files.now.itineraries
