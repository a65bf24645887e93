use Rattle.std.proofs.Common.{bytes_eq, ltb, false, ap, ◌∙◌}
use Rattle.std.specs.Option.{option_map_or}
use Rattle.build_refusals.proofs.BeforeLemmas.{stood_before}
use Rattle.build_refusals.proofs.flights.has_flight_before.Goals as goal

pub returns : goal.returns
returns c =
    c.is_before.ensures
    ∙ ap (λ first. option_map_or (λ k. ltb k c.args.place) first false) c.flight_place.ensures
    ∙ stood_before (λ f. bytes_eq c.args.name.now f.flight) c.args.place c.args.tables.now.files.now.flights
