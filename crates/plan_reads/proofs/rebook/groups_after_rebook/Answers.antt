use Rattle.std.proofs.Common.{◌≡◌, ◌∙◌, ap, sym, arith, min}
use Rattle.desk_data.specs.PlanRows.{groups_at}
use Rattle.desk_model.specs.Rebook.{count_on, groups_after_rebook}
use Rattle.plan_reads.proofs.RebookCalls.{rebook-nobody, rebook-one_path, rebook-made, rebooked-whole}
use Rattle.plan_reads.proofs.rebook.groups_after_rebook.Goals as goal
use Rattle.plan_reads.proofs.rebook.groups_after_rebook.Goals.{then-moving-eq0-via-then-moving-eq0, then-moving-eq0-via-else-moving-eq0+then-same_path}

pub returns-then-moving-eq0-clause-made : goal.returns-then-moving-eq0-clause-made
returns-then-moving-eq0-clause-made g c =
    let I = c.args.inst.now in
    let P = g.P.ReadPlan.plan_of c.args.plan.now in
    let r = c.args.res.0 in
    let path = c.args.path.now in
    let moving : c.min-moving.result ≡ min c.args.count (count_on path (groups_at P r)) = c.min-moving.ensures ∙ ap (min c.args.count) (c.count_on.ensures ∙ ap (count_on path) c.groups_of-groups.ensures.groups) in
    elim c.then-moving-eq0.branch [
      | then-moving-eq0-via-then-moving-eq0 w ↦ rebook-nobody I P r path c.args.to.now c.args.count c.requires.plan (sym moving ∙ w.if-moving-eq0.true)
      | then-moving-eq0-via-else-moving-eq0+then-same_path w ↦ rebook-one_path I P r path c.args.to.now c.args.count c.requires.plan (sym w.if-same_path.true ∙ w.same_path.ensures)
    ]

pub returns-clause-made : goal.returns-clause-made
returns-clause-made g c =
    let P = g.P.ReadPlan.plan_of c.args.plan.now in
    let r = c.args.res.0 in
    let path = c.args.path.now in
    let to = c.args.to.now in
    let n = c.min-moving.result in
    let moving : n ≡ min c.args.count (count_on path (groups_at P r)) = c.min-moving.ensures ∙ ap (min c.args.count) (c.count_on.ensures ∙ ap (count_on path) c.groups_of-groups.ensures.groups) in
    rebook-made P r path to c.args.count n c.in_ok-made.made.items moving (c.in_ok-made.ensures ∙ ap (groups_after_rebook path to n) c.groups_of-groups.ensures.groups)

pub returns-clause-whole : goal.returns-clause-whole
returns-clause-whole g c = λ x is.
    let I = c.args.inst.now in
    let P = g.P.ReadPlan.plan_of c.args.plan.now in
    let r = c.args.res.0 in
    let path = c.args.path.now in
    let to = c.args.to.now in
    let n = c.min-moving.result in
    let moving : n ≡ min c.args.count (count_on path (groups_at P r)) = c.min-moving.ensures ∙ ap (min c.args.count) (c.count_on.ensures ∙ ap (count_on path) c.groups_of-groups.ensures.groups) in
    let same : x ≡ c.in_ok-made.made = cc in
    rebooked-whole I P r path to n x.items c.requires.plan c.requires.res c.requires.path c.requires.to (omega (arith, moving))
    (ap (λ v. v.items) same ∙ c.in_ok-made.ensures ∙ ap (groups_after_rebook path to n) c.groups_of-groups.ensures.groups)
