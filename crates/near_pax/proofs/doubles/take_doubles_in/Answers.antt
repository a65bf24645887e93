use Rattle.std.proofs.Common.{List, [], ◌∷◌, ◌++◌, get_or, map, take, sym, ap, ◌∙◌}
use Rattle.desk_units.specs.declared.numbers.Leg.{Leg}
use Rattle.desk_units.specs.declared.numbers.Cabin.{Cabin}
use Rattle.near_pax.specs.Tried.{new_routes, doubles_in}
use Rattle.near_pax.proofs.JoinLaws.{two_taken}
use Rattle.near_pax.proofs.TriedLaws.{doubles-next}
use Rattle.near_pax.proofs.doubles.take_doubles_in.Goals as goal

pub loop-second-preserved : goal.loop-second-preserved
loop-second-preserved c =
    let I = c.args.inst.now in
    let P = c.args.plan.now in
    let r = c.args.outset.now.res.0 in
    let told = c.args.outset.now.told.now in
    let stem = c.args.outset.now.stem.now in
    let first = c.args.first in
    let legs = c.args.seconds.now in
    let i = c.loop-second.second-index in
    let d : Leg = record { 0 = 0 } in
    let none = c.args.found.now.items in
    let before = new_routes I P r told (doubles_in stem first.0.0 (map (λ (leg : Leg). leg.0) (take i legs)) first.1) in
    let more = new_routes I P r told ((stem ++ first ∷ (get_or legs i d, first.1) ∷ []) ∷ []) in
    two_taken none c.loop-second.found.items c.take_after.new.found.items before more c.loop-second.invariant c.in_ok-take_after.ensures
    ∙ ap (λ (paths : List (List (Leg × Cabin))). none ++ paths) (sym (doubles-next I P r told stem first.0.0 first.1 legs i d c.loop-second-test.true))
