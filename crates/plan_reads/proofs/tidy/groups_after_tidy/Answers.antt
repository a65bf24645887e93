use Rattle.std.proofs.Common.{◌≡◌, ◌∙◌, sym, ap}
use Rattle.plan_reads.proofs.TidyCalls.{tidy-keeps, tidied-whole}
use Rattle.plan_reads.proofs.tidy.groups_after_tidy.Goals as goal

pub returns-then-all_fit-clause-made : goal.returns-then-all_fit-clause-made
returns-then-all_fit-clause-made g c =
    tidy-keeps c.args.inst.now (g.P.ReadPlan.plan_of c.args.plan.now) c.args.res.0 c.requires.plan (sym c.all_fit.ensures ∙ c.if-all_fit.true)

pub returns-clause-whole : goal.returns-clause-whole
returns-clause-whole g c = λ x is.
    let same : x ≡ c.in_ok-made.made = cc in
    tidied-whole c.args.inst.now (g.P.ReadPlan.plan_of c.args.plan.now) c.args.res.0 x.items c.requires.plan c.requires.res (ap (λ v. v.items) same ∙ c.in_ok-made.ensures)
