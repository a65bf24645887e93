use Rattle.std.proofs.Common.{◌≡◌, [], ◌∷◌, List, refl, sym, ap, subst, ◌∙◌, arith}
use Rattle.std.specs.Prelude.{None}
use Rattle.desk_units.specs.declared.numbers.Plane.{Plane}
use Rattle.desk_data.specs.declared.row.Row.TheVariants.{Flown, Cancelled}
use Rattle.desk_data.specs.Valid.{IsPlanFor, IsValid}
use Rattle.desk_rules.specs.Least.{least}
use Rattle.plan_moves.specs.declared.moves.Step.{Step}
use Rattle.plan_moves.specs.declared.moves.Step.TheVariants.{Set, Push, Tidy, Refill}
use Rattle.near_moves.specs.MoveParts.{plane}
use Rattle.near_search.proofs.FirstLaws.{begins-is}
use Rattle.near_search.proofs.RestoreLaws.{back-out}
use Rattle.near_search.proofs.VainLaws.{none_left}
use Rattle.near_search.proofs.restores.is_with_back_dearly.Goals as goal

pub returns-then-goes_back : goal.returns-then-goes_back
returns-then-goes_back c = λ yes m fits is.
    (let I = c.args.eval.now.inst in
    let P = c.args.eval.now.rows in
    let there = c.args.there in
    let back = c.in-Some.back in
    let valid : IsValid I = subst IsValid c.instance.ensures c.parts-rows.ensures.valid in
    let plan : IsPlanFor I P = subst (IsPlanFor I) c.plan.ensures.rows c.plan.ensures.valid in
    let feasible : least I P ≡ None = none_left (least I P) (sym c.requires.rotations.feasible ∙ c.is_known_dear.ensures.feasible yes) in
    let first = c.next-item.result in
    let some = c.in-len1-up.len_at_least in
    let others : c.args.others.now ≡ first ∷ (Push there.plane None ∷ Tidy ∷ Refill there.leg ∷ Refill back.leg ∷ []) = begins-is c.args.others.now first (omega (arith, some)) c.next-item.is ∙ ap (λ (steps : List Step). first ∷ steps) (c.goes_back.ensures.steps c.if-goes_back.true) in
    let one : back.plane ≡ there.plane = ap plane (c.goes_back.ensures.plane c.if-goes_back.true) in
    let next : first ≡ Set back.leg Cancelled (Flown there.plane back.at) = c.in-Some.ensures back refl ∙ ap (λ (p : Plane). Set back.leg Cancelled (Flown p back.at)) one in
    let steps : m.steps ≡ Set there.leg Cancelled (Flown there.plane there.at) ∷ Set back.leg Cancelled (Flown there.plane back.at) ∷ Push there.plane None ∷ Tidy ∷ Refill there.leg ∷ Refill back.leg ∷ [] =
    is
    ∙ ap (λ (all : List Step). Set there.leg Cancelled (Flown there.plane there.at) ∷ all) others
    ∙ ap (λ (step : Step). Set there.leg Cancelled (Flown there.plane there.at) ∷ step ∷ Push there.plane None ∷ Tidy ∷ Refill there.leg ∷ Refill back.leg ∷ []) next in
    back-out I P m there.leg back.leg there.plane there.at back.at valid plan feasible fits steps (c.is_known_dear.ensures.dear yes))
