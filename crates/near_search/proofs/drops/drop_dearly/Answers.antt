use Rattle.std.proofs.Common.{◌≡◌, [], ◌∷◌, ◌++◌, sym, ◌∙◌}
use Rattle.std.specs.Prelude.{None}
use Rattle.plan_moves.specs.declared.moves.Step.TheVariants.{Push, Tidy}
use Rattle.near_search.proofs.DropLaws.{fitting-parts}
use Rattle.near_search.proofs.drops.drop_dearly.Goals as goal

pub is_dear-requires-clause-plane : goal.is_dear-requires-clause-plane
is_dear-requires-clause-plane c =
    let m = c.args.m.now in
    let found = c.in-Some.found in
    let steps : m.steps ≡ found.1.now ++ Push found.0 None ∷ Tidy ∷ [] = sym c.as_slice.ensures ∙ c.dropped_by.ensures found c.in-Some.is in
    (fitting-parts c.args.eval.now.inst m found.0 found.1.now c.requires.fits steps).1

pub is_dear-requires-clause-fits : goal.is_dear-requires-clause-fits
is_dear-requires-clause-fits c =
    let m = c.args.m.now in
    let found = c.in-Some.found in
    let steps : m.steps ≡ found.1.now ++ Push found.0 None ∷ Tidy ∷ [] = sym c.as_slice.ensures ∙ c.dropped_by.ensures found c.in-Some.is in
    (fitting-parts c.args.eval.now.inst m found.0 found.1.now c.requires.fits steps).0

pub returns-in-Some : goal.returns-in-Some
returns-in-Some c = λ yes.
    (let m = c.args.m.now in
    let found = c.in-Some.found in
    let steps : m.steps ≡ found.1.now ++ Push found.0 None ∷ Tidy ∷ [] = sym c.as_slice.ensures ∙ c.dropped_by.ensures found c.in-Some.is in
    c.is_dear.ensures yes m c.requires.fits steps)
