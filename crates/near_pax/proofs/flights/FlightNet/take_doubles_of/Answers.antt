use Rattle.std.proofs.Common.{◌≡◌, ℕ, List, [], ◌∷◌, ◌++◌, map, refl, sym, ap, ◌∙◌}
use Rattle.std.specs.Prelude.{filter, Some}
use Rattle.std.proofs.lemmas.Result.{on_ok_weaker}
use Rattle.desk_units.specs.declared.numbers.Leg.{Leg}
use Rattle.desk_units.specs.declared.numbers.Cabin.{Cabin}
use Rattle.desk_units.specs.declared.numbers.Cabin.TheVariants as cabin
use Rattle.desk_data.specs.Situation.{legs_of}
use Rattle.desk_rules.specs.Numbers.{numbers}
use Rattle.near_moves.specs.MoveParts.{leg}
use Rattle.near_pax.specs.declared.sought.Sought.{Sought}
use Rattle.near_pax.specs.Sought.{is_sought}
use Rattle.near_pax.specs.Tried.{new_routes, doubles_in}
use Rattle.near_pax.proofs.JoinLaws.{three_taken}
use Rattle.near_pax.proofs.TriedLaws.{doubles-seconds, new-cabins}
use Rattle.near_pax.proofs.StartLaws.{SeeksNext, new-taken, second-sought}
use Rattle.near_pax.proofs.flights.FlightNet.take_doubles_of.Goals as goal

pub returns : goal.returns
returns c =
    let I = c.args.inst.now in
    let P = c.args.plan.now in
    let r = c.args.outset.now.res.0 in
    let told = c.args.outset.now.told.now in
    let stem = c.args.outset.now.stem.now in
    let x = c.args.first.0 in
    let none = c.args.found.now.items in
    let ns = numbers (legs_of I) in
    let dest = c.booked.result.now.dest in
    let sought : Sought = record { from = c.leg.result.now.dest; to = Some dest; earliest = c.arrival.result; until = c.due_before.result } in
    let seeks : SeeksNext I P r x sought = record { from = ap (λ l. l.dest.0) c.leg.ensures.row; earliest = c.arrival.ensures.arrival; until = c.due_before.ensures } in
    let legs = c.as_slice-legs.result.now in
    let are : map (λ (leg : Leg). leg.0) legs ≡ filter (is_sought I P sought) ns = ap (map (λ (leg : Leg). leg.0)) c.as_slice-legs.ensures.value ∙ c.in_ok-legs.ensures.legs in
    let whole : (k : Cabin) → new_routes I P r told (doubles_in stem x (map (λ (leg : Leg). leg.0) legs) k) ≡ new_routes I P r told (doubles_in stem x ns k) = λ k.
    ap (λ (ys : List ℕ). new_routes I P r told (doubles_in stem x ys k)) are
    ∙ doubles-seconds I P r told stem x (is_sought I P sought) k (λ y on. second-sought I P r stem x y k sought dest seeks refl c.booked.ensures.dest (new-taken I P r told (stem ++ (leg x, k) ∷ (leg y, k) ∷ []) on)) in
    on_ok_weaker c.take_doubles_in-3.result (λ last.
    three_taken none c.take_doubles_in.new.found.items c.take_doubles_in-2.new.found.items c.take_doubles_in-3.new.found.items
    (new_routes I P r told (doubles_in stem x ns cabin.F)) (new_routes I P r told (doubles_in stem x ns cabin.B)) (new_routes I P r told (doubles_in stem x ns cabin.E))
    (c.in_ok-take_doubles_in.ensures ∙ ap (λ (paths : List (List (Leg × Cabin))). none ++ paths) (whole cabin.F))
    (c.in_ok-take_doubles_in-2.ensures ∙ ap (λ (paths : List (List (Leg × Cabin))). c.take_doubles_in.new.found.items ++ paths) (whole cabin.B))
    (last ∙ ap (λ (paths : List (List (Leg × Cabin))). c.take_doubles_in-2.new.found.items ++ paths) (whole cabin.E))
    ∙ ap (λ (paths : List (List (Leg × Cabin))). none ++ paths) (sym (new-cabins I P r told stem x ns)))
    c.take_doubles_in-3.ensures
