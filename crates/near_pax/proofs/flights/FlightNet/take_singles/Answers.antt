use Rattle.std.proofs.Common.{ℕ, List, [], ◌∷◌, ◌++◌, map, refl, ap, ◌∙◌, arith}
use Rattle.std.specs.Prelude.{Some}
use Rattle.std.specs.List.{flat_map}
use Rattle.std.proofs.lemmas.List.{take_all}
use Rattle.desk_units.specs.declared.numbers.Leg.{Leg}
use Rattle.desk_units.specs.declared.numbers.Cabin.{Cabin}
use Rattle.near_moves.specs.MoveParts.{leg}
use Rattle.near_pax.specs.declared.sought.Sought.{Sought}
use Rattle.near_pax.specs.Sought.{is_sought}
use Rattle.near_pax.specs.Tried.{new_routes, singles_of}
use Rattle.near_pax.proofs.TriedLaws.{singles-picked}
use Rattle.near_pax.proofs.StartLaws.{SeeksAfter, new-taken, single-sought}
use Rattle.near_pax.proofs.flights.FlightNet.take_singles.Goals as goal

pub returns : goal.returns
returns c =
    let I = c.args.inst.now in
    let P = c.args.plan.now in
    let r = c.args.outset.now.res.0 in
    let told = c.args.outset.now.told.now in
    let stem = c.args.outset.now.stem.now in
    let none = c.args.found.now.items in
    let items = c.deref-leg-items.result.now in
    let dest = c.booked.result.now.dest in
    let sought : Sought = record { from = c.start_after-earliest.result.0; to = Some dest; earliest = c.start_after-earliest.result.1; until = c.due_before.result } in
    let seeks : SeeksAfter I P r stem sought = record { from = c.start_after-earliest.ensures.place; earliest = c.start_after-earliest.ensures.ready; until = c.due_before.ensures } in
    let f : ℕ → List (List (Leg × Cabin)) = λ x. new_routes I P r told (singles_of stem x) in
    c.loop-leg.invariant
    ∙ ap (λ (xs : List Leg). none ++ flat_map f (map (λ (leg : Leg). leg.0) xs)) (take_all c.loop-leg.leg-index items (omega arith) ∙ c.deref-leg-items.ensures.value)
    ∙ ap (λ (xs : List ℕ). none ++ flat_map f xs) c.in_ok-legs.ensures.legs
    ∙ ap (λ (paths : List (List (Leg × Cabin))). none ++ paths) (singles-picked I P r told stem (is_sought I P sought) (λ x k on. single-sought I P r stem x k sought dest seeks refl c.booked.ensures.dest (new-taken I P r told (stem ++ (leg x, k) ∷ []) on)))
