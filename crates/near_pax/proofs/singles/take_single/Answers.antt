use Rattle.std.proofs.Common.{List, [], ◌∷◌, ◌++◌, sym, ap, ◌∙◌}
use Rattle.std.proofs.lemmas.List.Elements.{filter-append}
use Rattle.std.proofs.lemmas.Result.{on_ok_weaker}
use Rattle.desk_units.specs.declared.numbers.Leg.{Leg}
use Rattle.desk_units.specs.declared.numbers.Cabin.{Cabin}
use Rattle.desk_units.specs.declared.numbers.Cabin.TheVariants as cabin
use Rattle.near_moves.specs.MoveParts.{leg}
use Rattle.near_moves.specs.RouteParts.{is_new_route}
use Rattle.near_pax.specs.Tried.{new_routes}
use Rattle.near_pax.proofs.JoinLaws.{three_taken}
use Rattle.near_pax.proofs.singles.take_single.Goals as goal

pub returns : goal.returns
returns c =
    let I = c.args.inst.now in
    let P = c.args.plan.now in
    let r = c.args.outset.now.res.0 in
    let told = c.args.outset.now.told.now in
    let path : Cabin → List (Leg × Cabin) = λ k. c.args.outset.now.stem.now ++ (leg c.args.leg.0, k) ∷ [] in
    let one : Cabin → List (List (Leg × Cabin)) = λ k. new_routes I P r told (path k ∷ []) in
    let none = c.args.found.now.items in
    on_ok_weaker c.take_after-3.result (λ last.
    three_taken none c.take_after.new.found.items c.take_after-2.new.found.items c.take_after-3.new.found.items (one cabin.F) (one cabin.B) (one cabin.E)
    c.in_ok-take_after.ensures c.in_ok-take_after-2.ensures last
    ∙ ap (λ (paths : List (List (Leg × Cabin))). none ++ (one cabin.F ++ paths)) (sym (filter-append (is_new_route I P r told) (path cabin.B ∷ []) (path cabin.E ∷ [])))
    ∙ ap (λ (paths : List (List (Leg × Cabin))). none ++ paths) (sym (filter-append (is_new_route I P r told) (path cabin.F ∷ []) (path cabin.B ∷ path cabin.E ∷ []))))
    c.take_after-3.ensures
