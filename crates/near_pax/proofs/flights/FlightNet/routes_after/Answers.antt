use Rattle.std.proofs.Common.{◌≡◌, List, [], ◌∷◌, ◌++◌, map, sym, ap, ◌∙◌}
use Rattle.std.proofs.lemmas.List.{append-nil}
use Rattle.std.proofs.lemmas.List.Elements.{filter-append}
use Rattle.desk_units.specs.declared.numbers.Leg.{Leg}
use Rattle.desk_units.specs.declared.numbers.Cabin.{Cabin}
use Rattle.near_moves.specs.Routes.{all_pairs, all_doubles}
use Rattle.near_moves.specs.RouteParts.{is_new_route}
use Rattle.near_pax.specs.Tried.{new_routes}
use Rattle.near_pax.proofs.JoinLaws.{three_taken}
use Rattle.near_pax.proofs.flights.FlightNet.routes_after.Goals as goal

pub returns : goal.returns
returns c =
    let I = c.args.inst.now in
    let P = c.args.plan.now in
    let r = c.args.outset.now.res.0 in
    let told = c.args.outset.now.told.now in
    let stem = c.args.outset.now.stem.now in
    let none : List (List (Leg × Cabin)) = [] in
    let singles = map (λ (pair : Leg × Cabin). stem ++ pair ∷ []) (all_pairs I) in
    let doubles = map (λ (double : List (Leg × Cabin)). stem ++ double) (all_doubles I) in
    let alone = new_routes I P r told (stem ∷ []) in
    let empty : c.new-found.result.items ≡ [] = c.new-found.ensures.items in
    let one : c.take_after.new.found.items ≡ none ++ alone =
    c.in_ok-take_after.ensures
    ∙ ap (λ (path : List (Leg × Cabin)). c.new-found.result.items ++ new_routes I P r told (path ∷ [])) (append-nil stem)
    ∙ ap (λ (paths : List (List (Leg × Cabin))). paths ++ alone) empty in
    three_taken none c.take_after.new.found.items c.take_singles.new.found.items c.take_doubles.new.found.items alone (new_routes I P r told singles) (new_routes I P r told doubles)
    one c.in_ok-take_singles.ensures c.in_ok-take_doubles.ensures
    ∙ ap (λ (paths : List (List (Leg × Cabin))). alone ++ paths) (sym (filter-append (is_new_route I P r told) singles doubles))
    ∙ sym (filter-append (is_new_route I P r told) (stem ∷ []) (singles ++ doubles))
