use Rattle.std.proofs.Common.{List, ◌∷◌, map, sym, ap, subst, ◌∙◌, arith}
use Rattle.std.specs.Prelude.{filter}
use Rattle.std.proofs.lemmas.List.{take_all}
use Rattle.desk_data.specs.Situation.{PassengersGone}
use Rattle.near_moves.specs.Routes.{begun_path, is_other_stem, stems}
use Rattle.near_moves.specs.RouteParts.{scheduled_route, with_stems}
use Rattle.near_moves.proofs.RouteLaws.{routes-by_stems}
use Rattle.near_pax.specs.Start.{IsStemPath}
use Rattle.near_pax.proofs.StartLaws.{tallied-stem}
use Rattle.near_pax.proofs.flights.FlightNet.routes.Goals as goal

pub take_stem-requires-then-is_other_stem-clause-stem :
    goal.take_stem-requires-then-is_other_stem-clause-stem
take_stem-requires-then-is_other_stem-clause-stem c =
    let items = c.tally-entry-items.result.now in
    let i = c.loop-entry.entry-index in
    let entry = c.entry-item.result in
    subst (IsStemPath c.args.inst.now) (sym (c.as_slice-stem.ensures ∙ ap (λ (e : PassengersGone). e.0) c.entry-item.is))
    (tallied-stem c.args.inst.now items i entry c.parts-rows.ensures.valid c.tally-entry-items.ensures.ranges c.loop-entry-test.true)

pub returns : goal.returns
unfolding stems
returns c =
    let I = c.args.inst.now in
    let P = c.args.plan.now in
    let r = c.args.res.0 in
    let first = begun_path I r in
    let items = c.tally-entry-items.result.now in
    c.loop-entry.invariant
    ∙ ap (λ (entries : List PassengersGone). with_stems I P r (scheduled_route I P r) (first ∷ filter (is_other_stem first) (map (λ (entry : PassengersGone). entry.0) entries)))
    (take_all c.loop-entry.entry-index items (omega arith) ∙ c.tally-entry-items.ensures.entries)
    ∙ sym (routes-by_stems I P r)
