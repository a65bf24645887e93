use Rattle.std.proofs.Common.{◌≡◌, ◌≤◌, ◌-◌, ◌∙◌, arith, ap, List, sym, subst}
use Rattle.std.specs.Prelude.{IfOk}
use Rattle.desk_data.specs.declared.row.Group.{Group}
use Rattle.desk_model.specs.Rebook.{count_on, with_count}
use Rattle.plan_reads.specs.Made.{everyone}
use Rattle.plan_reads.proofs.CountLaws.{fewer-everyone, among-everyone}
use Rattle.plan_reads.proofs.RebookCalls.{rebooked_is}
use Rattle.desk_data.specs.PlanRows.{same_path}
use Rattle.plan_reads.proofs.rebook.rebooked.Goals as goal

pub count_on-requires-2 : goal.count_on-requires-2
count_on-requires-2 c =
    let path = c.args.path.now in
    let groups = c.args.groups.now in
    let fewer : c.as_slice.result.now ≡ with_count path (count_on path groups - c.args.moving) groups = c.as_slice.ensures.value ∙ c.in_ok-fewer.ensures ∙ ap (λ n. with_count path (n - c.args.moving) groups) c.count_on.ensures in
    let few : everyone c.as_slice.result.now ≤ everyone groups = subst (λ (gs : List Group). everyone gs ≤ everyone groups) (sym fewer) (fewer-everyone path c.args.moving groups c.requires.moving) in
    omega (arith, few, c.requires.few)

pub overflow_add-come : goal.overflow_add-come
overflow_add-come c =
    let path = c.args.path.now in
    let groups = c.args.groups.now in
    let fewer : c.as_slice.result.now ≡ with_count path (count_on path groups - c.args.moving) groups = c.as_slice.ensures.value ∙ c.in_ok-fewer.ensures ∙ ap (λ n. with_count path (n - c.args.moving) groups) c.count_on.ensures in
    let few : everyone c.as_slice.result.now ≤ everyone groups = subst (λ (gs : List Group). everyone gs ≤ everyone groups) (sym fewer) (fewer-everyone path c.args.moving groups c.requires.moving) in
    omega (arith, few, c.requires.few, c.requires.moving, among-everyone (λ other. same_path other path) groups, among-everyone (λ other. same_path other c.args.to.now) c.as_slice.result.now, c.count_on-2.ensures)

pub returns : goal.returns
returns c =
    let path = c.args.path.now in
    let to = c.args.to.now in
    let groups = c.args.groups.now in
    let fewer = c.in_ok-fewer.fewer.items in
    let come : c.count_on-2.result ≡ count_on to c.as_slice-2.result.now = c.count_on-2.ensures ∙ ap (count_on to) (c.as_slice.ensures.value ∙ sym c.as_slice-2.ensures.value) in
    subst (λ (made : List Group). IfOk c.with_count-2.result (λ answer. answer.items ≡ made))
    (rebooked_is path to c.count_on.result c.args.moving c.count_on-2.result groups c.as_slice-2.result.now c.count_on.ensures (c.as_slice-2.ensures.value ∙ c.in_ok-fewer.ensures) come)
    c.with_count-2.ensures
