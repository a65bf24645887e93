use Rattle.std.proofs.Common.{◌≡◌, sym, subst, ◌∙◌}
use Rattle.std.specs.Prelude.{None}
use Rattle.desk_data.specs.Valid.{IsPlanFor, IsValid}
use Rattle.desk_rules.specs.Least.{least}
use Rattle.near_search.proofs.DropLaws.{drops-out}
use Rattle.near_search.proofs.VainLaws.{none_left}
use Rattle.near_search.proofs.drops.is_dear.Goals as goal

pub returns : goal.returns
returns c = λ known m fits is.
    (let I = c.args.eval.now.inst in
    let P = c.args.eval.now.rows in
    let valid : IsValid I = subst IsValid c.instance-inst.ensures c.parts-rows.ensures.valid in
    let plan : IsPlanFor I P = subst (IsPlanFor I) c.plan-plan.ensures.rows c.plan-plan.ensures.valid in
    let feasible : least I P ≡ None = none_left (least I P) (sym c.requires.rotations.feasible ∙ c.requires.feasible) in
    drops-out I P m c.args.plane c.args.cancels.now valid plan feasible fits is
    (rw c.plan-plan.ensures.rows at c.is_dear_drop.ensures.cancels known)
    (rw c.plan-plan.ensures.rows at c.is_dear_drop.ensures.flown known)
    (rw (c.instance-inst.ensures, c.plan-plan.ensures.rows) at c.is_dear_drop.ensures.dear known))
