use Rattle.std.proofs.Common.{◌≡◌, true, false, not, sym, ap, ◌∙◌, arith}
use Rattle.std.specs.Option.{is_some}
use Rattle.plan_checks.specs.Amounts.{path_cost, path_end}
use Rattle.plan_checks.specs.Counted.{group_on}
use Rattle.near_draft.specs.Drafts.{plan_of}
use Rattle.near_priced.proofs.SavingLaws.{least-none, least-some}
use Rattle.near_priced.proofs.saved.least_of.Goals as goal

pub returns-then-is_none : goal.returns-then-is_none
returns-then-is_none c =
    let I = c.args.inst.now in
    let S = plan_of c.args.draft.now in
    let group = group_on c.args.path.now c.args.count in
    let none : is_some (path_end I S group.path) ≡ false = ap is_some (sym c.path_end-end.ensures.end) ∙ c.is_none.ensures ∙ ap not c.if-is_none.true in
    c.uncarried.ensures ∙ sym (least-none I S c.args.res.0 group none)

pub returns-then-there-eq0 : goal.returns-then-there-eq0
returns-then-there-eq0 c =
    let I = c.args.inst.now in
    let S = plan_of c.args.draft.now in
    let r = c.args.res.0 in
    let group = group_on c.args.path.now c.args.count in
    let some : is_some (path_end I S group.path) ≡ true = ap is_some (sym c.path_end-end.ensures.end) ∙ c.is_none.ensures ∙ ap not c.if-is_none.false in
    let there : c.path_cost-there.result.0 ≡ path_cost I r group (path_end I S group.path) = ap (λ g. g.0) c.path_cost-there.ensures ∙ ap (path_cost I r group) c.path_end-end.ensures.end in
    omega (arith, c.if-there-eq0.true, there, least-some I S r group some)

pub returns : goal.returns
returns c =
    let I = c.args.inst.now in
    let S = plan_of c.args.draft.now in
    let r = c.args.res.0 in
    let group = group_on c.args.path.now c.args.count in
    let some : is_some (path_end I S group.path) ≡ true = ap is_some (sym c.path_end-end.ensures.end) ∙ c.is_none.ensures ∙ ap not c.if-is_none.false in
    let there : c.path_cost-there.result.0 ≡ path_cost I r group (path_end I S group.path) = ap (λ g. g.0) c.path_cost-there.ensures ∙ ap (path_cost I r group) c.path_end-end.ensures.end in
    omega (arith, c.min.ensures, c.uncarried-2.ensures, there, least-some I S r group some)
