use Rattle.std.proofs.Common.{◌≡◌, ◌∙◌, ℕ, List, length, map, drop, sym, ap, subst, arith}
use Rattle.std.proofs.lemmas.List.{take_at}
use Rattle.desk_data.specs.Situation.{legs_of}
use Rattle.plan_checks.specs.declared.upkeep.Upkeep.{Upkeep}
use Rattle.plan_checks.specs.Upkeep.{AreUpkeeps, blank}
use Rattle.plan_checks.proofs.UpkeepLaws.{no_legs}
use Rattle.plan_checks.proofs.upkeep.upkeeps_of.Goals as goal

pub loop-x-init : goal.loop-x-init
loop-x-init c =
    let lasts = c.put_lasts.new.lasts in
    let long : length lasts ≡ c.in_ok-lasts.lasts.len = omega (arith, c.put_lasts.ensures.planes, c.planes.ensures.count, c.in_ok-lasts.ensures.len) in
    let is : c.in_ok-upkeeps.upkeeps.items ≡ map blank lasts =
    c.in_ok-upkeeps.ensures ∙ ap (map blank) (c.as_slice.ensures.value ∙ take_at lasts (drop (length lasts) c.in_ok-lasts.lasts.items) c.in_ok-lasts.lasts.len long) in
    subst (λ (upkeeps : List Upkeep). AreUpkeeps c.args.inst.now c.args.plan.now 0 upkeeps) (sym is) (no_legs c.args.inst.now c.args.plan.now lasts c.put_lasts.ensures)

pub returns : goal.returns
returns c =
    let all : c.loop-x.x ≡ legs_of c.args.inst.now = omega arith in
    subst (λ (n : ℕ). AreUpkeeps c.args.inst.now c.args.plan.now n c.loop-x.upkeeps.items) all c.loop-x.invariant
