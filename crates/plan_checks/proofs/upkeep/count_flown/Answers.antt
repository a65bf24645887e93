use Rattle.std.proofs.Common.{◌≡◌, ◌+◌, sym, ap, subst, ◌∙◌}
use Rattle.std.specs.Prelude.{Some, None}
use Rattle.desk_data.specs.Situation.{plane_at}
use Rattle.desk_data.specs.declared.info.Maint.{Maint}
use Rattle.plan_checks.specs.Upkeep.{IsUpkeep}
use Rattle.plan_checks.proofs.UpkeepLaws.{free-flown, one-flown}
use Rattle.plan_checks.proofs.upkeep.count_flown.Goals as goal

pub with_leg-requires-clause-so_far : goal.with_leg-requires-clause-so_far
with_leg-requires-clause-so_far c =
    let is : (plane_at c.args.inst.now c.args.plane.0).maint ≡ Some c.in-Some.maint = ap (λ p. p.maint) (sym c.plane.ensures.row) ∙ c.in-Some.is in
    c.requires.so_far.each c.args.plane.0 c.requires.plane c.in-Some.maint is

pub returns-in-Some : goal.returns-in-Some
returns-in-Some c =
    let I = c.args.inst.now in
    let P = c.args.plan.now in
    let is : (plane_at I c.args.plane.0).maint ≡ Some c.in-Some.maint = ap (λ p. p.maint) (sym c.plane.ensures.row) ∙ c.in-Some.is in
    one-flown I P c.args.plane.0 c.args.leg.0 c.args.upkeeps.now c.with_leg.result c.requires.plane c.requires.flies c.requires.so_far
    (λ maint some. let same : c.in-Some.maint ≡ maint = cc in subst (λ (m : Maint). IsUpkeep I P c.args.plane.0 m (c.args.leg.0 + 1) c.with_leg.result) same c.with_leg.ensures)

pub returns-in_default : goal.returns-in_default
returns-in_default c =
    let none : (plane_at c.args.inst.now c.args.plane.0).maint ≡ None = ap (λ p. p.maint) (sym c.plane.ensures.row) ∙ c.in_default.is in
    free-flown c.args.inst.now c.args.plan.now c.args.plane.0 c.args.leg.0 c.args.upkeeps.now c.requires.flies none c.requires.so_far
