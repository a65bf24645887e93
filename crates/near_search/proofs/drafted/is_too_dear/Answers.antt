use Rattle.std.proofs.Common.{◌≡◌, ◌≤◌, Bool, true, sym, ap, subst, ◌∙◌}
use Rattle.std.specs.Prelude.{None}
use Rattle.std.proofs.lemmas.Result.{IfOk-weaker}
use Rattle.desk_data.specs.Situation.{Situation}
use Rattle.desk_data.specs.PlanRows.{PlanRows}
use Rattle.desk_rules.specs.Least.{least}
use Rattle.desk_rules.specs.Cost.{cost}
use Rattle.desk_model.specs.Steps.{after_move}
use Rattle.near_search.specs.Out.{IsRuledOut}
use Rattle.near_search.proofs.OutLaws.{dear-out}
use Rattle.near_search.proofs.VainLaws.{none_left}
use Rattle.near_search.proofs.drafted.is_too_dear.Goals as goal

pub returns : goal.returns
returns c =
    let I = c.args.eval.now.inst in
    let P = c.args.eval.now.rows in
    let J = c.instance.result.now in
    let Q = c.plan.result.now in
    let m = c.args.m.now in
    let feasible : least I P ≡ None = none_left (least I P) (sym c.requires.rotations.feasible ∙ c.if-not-rotations.false) in
    let least_is : least J Q ≡ least I P = ap (λ (K : Situation). least K Q) c.instance.ensures ∙ ap (least I) c.plan.ensures.rows in
    let dear_is : cost J Q ≤ cost J (after_move J Q m) → cost I P ≤ cost I (after_move I P m) =
    λ dear. subst (λ (R : PlanRows). cost I R ≤ cost I (after_move I R m)) c.plan.ensures.rows (subst (λ (K : Situation). cost K Q ≤ cost K (after_move K Q m)) c.instance.ensures dear) in
    IfOk-weaker c.rule_out.result (λ (b : Bool). b ≡ true → least J Q ≡ None → cost J Q ≤ cost J (after_move J Q m)) (λ (b : Bool). b ≡ true → IsRuledOut I P m)
    (λ b worse known. dear-out I P m (dear_is (worse known (least_is ∙ feasible)))) c.rule_out.ensures
