use Rattle.std.proofs.Common.{◌≡◌, ◌<◌, ◌∙◌, Some, sym, ap, not, false, arith}
use Rattle.desk_rules.specs.Least.{breaks}
use Rattle.desk_rules.proofs.FindLaws.{first_of_numbers, numbers_none}
use Rattle.plan_checks.specs.Items.{count, item, keeps}
use Rattle.plan_checks.proofs.RuleLaws.{breaks-keeps}
use Rattle.plan_checks.proofs.rule.first_broken.Goals as goal

pub returns-then-not-keeps : goal.returns-then-not-keeps
returns-then-not-keeps c =
    let I = c.args.inst.now in
    let P = c.args.plan.now in
    let rule = c.args.rule in
    let n = c.loop-n.n in
    let lt : n < count I rule = omega arith in
    let here : keeps I P rule n ≡ false = grind arith in
    let found = first_of_numbers (breaks I P) (item rule) (count I rule) n lt (breaks-keeps I P rule n ∙ ap not here) (λ k below. breaks-keeps I P rule k ∙ ap not (c.loop-n.invariant k below)) in
    sym (found ∙ ap Some (sym c.item.ensures))

pub returns : goal.returns
returns c =
    let I = c.args.inst.now in
    let P = c.args.plan.now in
    let rule = c.args.rule in
    let all : c.loop-n.n ≡ count I rule = omega arith in
    sym (numbers_none (breaks I P) (item rule) (count I rule) (λ k below. breaks-keeps I P rule k ∙ ap not (c.loop-n.invariant k (omega arith))))
