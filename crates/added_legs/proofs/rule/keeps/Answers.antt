use Rattle.std.proofs.Common.{◌≡◌, ◌+◌, ◌-◌, ◌<◌, Bool, true, false, cond, sym, ap, subst, ◌∙◌, arith}
use Rattle.desk_data.specs.Situation.{legs_of, planes_of}
use Rattle.added_legs.specs.Merged.{merged_day, merged_plan}
use Rattle.added_legs.specs.Items.{is_of_planes, leg_keeps, plane_keeps}
use Rattle.added_legs.proofs.rule.keeps.Goals as goal

pub plane_keeps-requires-clause-plane : goal.plane_keeps-requires-clause-plane
plane_keeps-requires-clause-plane c =
    let I = c.args.inst.now in
    let P = c.args.plan.now in
    let rule = c.args.rule in
    let n = c.args.n in
    let is : is_of_planes rule ≡ true = sym c.is_of_planes.ensures ∙ c.if-is_of_planes.true in
    subst (λ (b : Bool). n < cond b (planes_of I) (legs_of I + planes_of I)) is c.requires.number

pub returns-then-is_of_planes : goal.returns-then-is_of_planes
returns-then-is_of_planes c =
    let I = c.args.inst.now in
    let P = c.args.plan.now in
    let rule = c.args.rule in
    let n = c.args.n in
    let M = merged_day I P c.args.known.added.now in
    let Q = merged_plan I P c.args.known.added.now in
    let is : is_of_planes rule ≡ true = sym c.is_of_planes.ensures ∙ c.if-is_of_planes.true in
    c.plane_keeps.ensures ∙ ap (λ (b : Bool). cond b (plane_keeps M Q rule n) (leg_keeps M Q rule n)) (sym is)

pub extra_keeps-requires-clause-plane : goal.extra_keeps-requires-clause-plane
extra_keeps-requires-clause-plane c =
    let I = c.args.inst.now in
    let P = c.args.plan.now in
    let rule = c.args.rule in
    let n = c.args.n in
    let is : is_of_planes rule ≡ false = sym c.is_of_planes.ensures ∙ c.if-is_of_planes.false in
    let lt : n < legs_of I + planes_of I = subst (λ (b : Bool). n < cond b (planes_of I) (legs_of I + planes_of I)) is c.requires.number in
    omega (arith, lt, c.legs-legs.ensures.count)

pub returns-then-scheduled : goal.returns-then-scheduled
returns-then-scheduled c =
    let I = c.args.inst.now in
    let P = c.args.plan.now in
    let rule = c.args.rule in
    let n = c.args.n in
    let M = merged_day I P c.args.known.added.now in
    let Q = merged_plan I P c.args.known.added.now in
    let is : is_of_planes rule ≡ false = sym c.is_of_planes.ensures ∙ c.if-is_of_planes.false in
    c.leg_keeps.ensures ∙ ap (λ (b : Bool). cond b (plane_keeps M Q rule n) (leg_keeps M Q rule n)) (sym is)

pub returns-else-scheduled : goal.returns-else-scheduled
returns-else-scheduled c =
    let I = c.args.inst.now in
    let P = c.args.plan.now in
    let rule = c.args.rule in
    let n = c.args.n in
    let M = merged_day I P c.args.known.added.now in
    let Q = merged_plan I P c.args.known.added.now in
    let is : is_of_planes rule ≡ false = sym c.is_of_planes.ensures ∙ c.if-is_of_planes.false in
    let whole : legs_of I + (n - c.legs-legs.result) ≡ n = omega (arith, c.legs-legs.ensures.count) in
    c.extra_keeps.ensures ∙ ap (leg_keeps M Q rule) whole ∙ ap (λ (b : Bool). cond b (plane_keeps M Q rule n) (leg_keeps M Q rule n)) (sym is)
