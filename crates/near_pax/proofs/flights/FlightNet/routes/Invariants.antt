use Rattle.std.proofs.Common.{◌≡◌, ◌∷◌, map, take}
use Rattle.std.specs.Prelude.{filter}
use Rattle.near_moves.specs.Routes.{begun_path, is_other_stem}
use Rattle.near_moves.specs.RouteParts.{scheduled_route, with_stems}
use Rattle.near_pax.proofs.flights.FlightNet.routes.Given as goal

abbrev pub invariant-loop-entry : goal.invariant-loop-entry
invariant-loop-entry l =
    let first = begun_path l.inst l.res.0 in
    l.routes.items ≡ with_stems l.inst l.plan l.res.0 (scheduled_route l.inst l.plan l.res.0) (first ∷ filter (is_other_stem first) (map (λ entry. entry.0) (take l.entry-index l.entry-items)))
