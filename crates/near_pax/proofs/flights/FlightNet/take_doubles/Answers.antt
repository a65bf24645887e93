use Rattle.std.proofs.Common.{◌≡◌, ℕ, ◌<◌, Bool, false, List, [], ◌∷◌, ◌++◌, length, get_or, map, refl, sym, ap, subst, ◌∙◌, arith}
use Rattle.std.specs.Prelude.{None}
use Rattle.std.specs.List.{flat_map}
use Rattle.std.proofs.lemmas.List.{append-nil, get_or_read, length-map, take_all}
use Rattle.desk_units.specs.declared.numbers.Leg.{Leg}
use Rattle.desk_units.specs.declared.numbers.Cabin.{Cabin}
use Rattle.desk_data.specs.Situation.{airports_of, legs_of, leg_at}
use Rattle.desk_rules.specs.Numbers.{numbers}
use Rattle.desk_rules.proofs.HourLaws.{length-numbers}
use Rattle.near_moves.specs.MoveParts.{leg}
use Rattle.near_pax.specs.declared.sought.Sought.{Sought}
use Rattle.near_pax.specs.Sought.{is_sought}
use Rattle.near_pax.specs.Onward.{leads_on}
use Rattle.near_pax.specs.Tried.{new_routes, doubles_of}
use Rattle.near_pax.proofs.TriedLaws.{doubles-picked}
use Rattle.near_pax.proofs.OnwardLaws.{doubles-more, none-onward, table-at}
use Rattle.near_pax.proofs.StartLaws.{SeeksAfter, new-taken, first-sought}
use Rattle.near_pax.proofs.flights.FlightNet.take_doubles.Goals as goal
use Rattle.near_pax.proofs.flights.FlightNet.take_doubles.Goals.{then-index+in_ok-take_doubles_of, else-index}

pub index-requires : goal.index-requires
index-requires c =
    let I = c.args.inst.now in
    let P = c.args.plan.now in
    let sought : Sought = record { from = c.start_after-earliest.result.0; to = None; earliest = c.start_after-earliest.result.1; until = c.due_before.result } in
    let g = leads_on I P sought c.booked.result.now.dest in
    let table = c.in_ok-onward.onward.items in
    let long : length table ≡ airports_of I = ap (λ (bs : List Bool). length bs) c.in_ok-onward.ensures ∙ length-map (numbers (airports_of I)) g ∙ length-numbers (airports_of I) in
    let own = c.in_ok-onward.onward.ok.0 in
    let there = c.leg.ensures.ranges.dest in
    omega (arith, long, own, there)

pub loop-leg-preserved : goal.loop-leg-preserved
loop-leg-preserved c =
    let I = c.args.inst.now in
    let P = c.args.plan.now in
    let r = c.args.outset.now.res.0 in
    let told = c.args.outset.now.told.now in
    let stem = c.args.outset.now.stem.now in
    let none = c.args.found.now.items in
    let mid = c.loop-leg.found.items in
    let items = c.deref-leg-items.result.now in
    let i = c.loop-leg.leg-index in
    let d : Leg = record { 0 = 0 } in
    let x = (get_or items i d).0 in
    let dest = c.booked.result.now.dest in
    let sought : Sought = record { from = c.start_after-earliest.result.0; to = None; earliest = c.start_after-earliest.result.1; until = c.due_before.result } in
    let seeks : SeeksAfter I P r stem sought = record { from = c.start_after-earliest.ensures.place; earliest = c.start_after-earliest.ensures.ready; until = c.due_before.ensures } in
    let f : ℕ → List (List (Leg × Cabin)) = λ y. new_routes I P r told (doubles_of stem y (numbers (legs_of I))) in
    elim c.if-index.branch [
      | then-index+in_ok-take_doubles_of w ↦
          doubles-more f none mid c.if-index.found.items items i d c.loop-leg-test.true c.loop-leg.invariant
          (ap (λ v. v.items) w.found-is ∙ w.in_ok-take_doubles_of.ensures)
      | else-index w ↦
          let table = c.in_ok-onward.onward.items in
          let a = c.leg.result.now.dest.0 in
          let g = leads_on I P sought dest in
          let within : a < airports_of I = c.leg.ensures.ranges.dest in
          let long : length table ≡ airports_of I = ap (λ (bs : List Bool). length bs) c.in_ok-onward.ensures ∙ length-map (numbers (airports_of I)) g ∙ length-numbers (airports_of I) in
          let read = get_or_read table a c.index.result.now (omega (arith, within, long)) c.index.ensures false in
          let at : g a ≡ false = sym (table-at g (airports_of I) a table c.in_ok-onward.ensures within) ∙ sym read ∙ w.if-index.false in
          let off : g (leg_at I x).dest.0 ≡ false = subst (λ (b : ℕ). g b ≡ false) (ap (λ l. l.dest.0) c.leg.ensures.row) at in
          let empty : f x ≡ [] = none-onward I P r told stem x sought dest seeks refl c.booked.ensures.dest off in
          doubles-more f none mid c.if-index.found.items items i d c.loop-leg-test.true c.loop-leg.invariant
          (ap (λ v. v.items) w.found-is ∙ sym (append-nil mid) ∙ ap (λ (ps : List (List (Leg × Cabin))). mid ++ ps) (sym empty))
    ]

pub returns : goal.returns
returns c =
    let I = c.args.inst.now in
    let P = c.args.plan.now in
    let r = c.args.outset.now.res.0 in
    let told = c.args.outset.now.told.now in
    let stem = c.args.outset.now.stem.now in
    let none = c.args.found.now.items in
    let items = c.deref-leg-items.result.now in
    let sought : Sought = record { from = c.start_after-earliest.result.0; to = None; earliest = c.start_after-earliest.result.1; until = c.due_before.result } in
    let seeks : SeeksAfter I P r stem sought = record { from = c.start_after-earliest.ensures.place; earliest = c.start_after-earliest.ensures.ready; until = c.due_before.ensures } in
    let f : ℕ → List (List (Leg × Cabin)) = λ x. new_routes I P r told (doubles_of stem x (numbers (legs_of I))) in
    c.loop-leg.invariant
    ∙ ap (λ (xs : List Leg). none ++ flat_map f (map (λ (leg : Leg). leg.0) xs)) (take_all c.loop-leg.leg-index items (omega arith) ∙ c.deref-leg-items.ensures.value)
    ∙ ap (λ (xs : List ℕ). none ++ flat_map f xs) c.in_ok-legs.ensures.legs
    ∙ ap (λ (paths : List (List (Leg × Cabin))). none ++ paths) (doubles-picked I P r told stem (is_sought I P sought) (λ x y k on. first-sought I P r stem x y k sought seeks refl (new-taken I P r told (stem ++ (leg x, k) ∷ (leg y, k) ∷ []) on)))
