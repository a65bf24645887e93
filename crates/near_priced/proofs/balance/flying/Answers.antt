use Rattle.std.proofs.Common.{◌≡◌, ◌<◌, ◌≤◌, List, length, get_or, take, sym, ap, subst, ◌∙◌, arith}
use Rattle.std.specs.Prelude.{sum_by}
use Rattle.std.proofs.lemmas.List.{take_all}
use Rattle.std.proofs.lemmas.List.Sums.{sum_by_more}
use Rattle.desk_data.specs.Situation.{planes_of}
use Rattle.desk_data.specs.PlanRows.{PlanRows}
use Rattle.desk_data.specs.Valid.{IsRowOf}
use Rattle.desk_rules.specs.Cost.{operating_cost}
use Rattle.desk_rules.proofs.CostLaws.{operating_most}
use Rattle.board_cost.proofs.BalanceLaws.{operating-le}
use Rattle.near_draft.specs.declared.change.Change.{Change}
use Rattle.near_draft.specs.Drafts.{drafted, plan_of}
use Rattle.near_draft.proofs.ChangeLaws.{no_change, changes-within}
use Rattle.near_priced.proofs.FlyingLaws.{gets, had, gets-fits, had-fits, changes-for, flown-changes}
use Rattle.near_priced.proofs.balance.flying.Goals as goal

pub flight_cost-requires-clause-row : goal.flight_cost-requires-clause-row
flight_cost-requires-clause-row c =
    let I = c.args.inst.now in
    let P = c.args._plan.now in
    let D = c.args.draft.now in
    let i = c.loop-change.change-index in
    let all = c.changes-change-items.ensures.all in
    let are = changes-for I P D c.changes-change-items.result.now c.requires.day c.requires.over all c.changes-change-items.ensures.are in
    let lt : i < length D.changes = (let test = c.loop-change-test.true in let long = ap (λ (cs : List Change). length cs) all in omega (arith, test, long)) in
    subst (λ (change : Change). IsRowOf (planes_of I) change.row) (sym (ap (λ (cs : List Change). get_or cs i no_change) all)) (gets-fits I P D.changes i are lt)

pub flight_cost-requires-in-loop-change-clause-row : goal.flight_cost-requires-in-loop-change-clause-row
flight_cost-requires-in-loop-change-clause-row c =
    let I = c.args.inst.now in
    let P = c.args._plan.now in
    let D = c.args.draft.now in
    let i = c.loop-change.change-index in
    let all = c.changes-change-items.ensures.all in
    let are = changes-for I P D c.changes-change-items.result.now c.requires.day c.requires.over all c.changes-change-items.ensures.are in
    let lt : i < length D.changes = (let test = c.loop-change-test.true in let long = ap (λ (cs : List Change). length cs) all in omega (arith, test, long)) in
    subst (λ (change : Change). IsRowOf (planes_of I) change.was) (sym (ap (λ (cs : List Change). get_or cs i no_change) all)) (had-fits I P D.changes i are c.requires.plan lt)

pub overflow_add-balance : goal.overflow_add-balance
overflow_add-balance c =
    let I = c.args.inst.now in
    let P = c.args._plan.now in
    let D = c.args.draft.now in
    let i = c.loop-change.change-index in
    let all = c.changes-change-items.ensures.all in
    let are = changes-for I P D c.changes-change-items.result.now c.requires.day c.requires.over all c.changes-change-items.ensures.are in
    let lt : i < length D.changes = (let test = c.loop-change-test.true in let long = ap (λ (cs : List Change). length cs) all in omega (arith, test, long)) in
    let change = get_or D.changes i no_change in
    let one : c.flight_cost.result.0 ≡ gets I change = ap (λ g. g.0) c.flight_cost.ensures ∙ ap (gets I) (ap (λ (cs : List Change). get_or cs i no_change) all) in
    let most : gets I change ≤ operating_most = operating-le I change.leg.0 change.row c.parts-rows.ensures.valid (changes-within I P D.changes are i no_change lt) (gets-fits I P D.changes i are lt) in
    let few = c.requires.few in
    let so_far = c.loop-change.invariant.few_new in
    omega (arith, one, most, few, lt, so_far)

pub overflow_add-balance-in-loop-change : goal.overflow_add-balance-in-loop-change
overflow_add-balance-in-loop-change c =
    let I = c.args.inst.now in
    let P = c.args._plan.now in
    let D = c.args.draft.now in
    let i = c.loop-change.change-index in
    let all = c.changes-change-items.ensures.all in
    let are = changes-for I P D c.changes-change-items.result.now c.requires.day c.requires.over all c.changes-change-items.ensures.are in
    let lt : i < length D.changes = (let test = c.loop-change-test.true in let long = ap (λ (cs : List Change). length cs) all in omega (arith, test, long)) in
    let change = get_or D.changes i no_change in
    let one : c.flight_cost-in-loop-change.result.0 ≡ had I change = ap (λ g. g.0) c.flight_cost-in-loop-change.ensures ∙ ap (had I) (ap (λ (cs : List Change). get_or cs i no_change) all) in
    let most : had I change ≤ operating_most = operating-le I change.leg.0 change.was c.parts-rows.ensures.valid (changes-within I P D.changes are i no_change lt) (had-fits I P D.changes i are c.requires.plan lt) in
    let few = c.requires.few in
    let so_far = c.loop-change.invariant.few_old in
    omega (arith, one, most, few, lt, so_far)

pub loop-change-preserved : goal.loop-change-preserved
loop-change-preserved c =
    let I = c.args.inst.now in
    let P = c.args._plan.now in
    let D = c.args.draft.now in
    let i = c.loop-change.change-index in
    let all = c.changes-change-items.ensures.all in
    let are = changes-for I P D c.changes-change-items.result.now c.requires.day c.requires.over all c.changes-change-items.ensures.are in
    let lt : i < length D.changes = (let test = c.loop-change-test.true in let long = ap (λ (cs : List Change). length cs) all in omega (arith, test, long)) in
    let change = get_or D.changes i no_change in
    let same = ap (λ (cs : List Change). get_or cs i no_change) all in
    let within = changes-within I P D.changes are i no_change lt in
    let one : c.flight_cost.result.0 ≡ gets I change = ap (λ g. g.0) c.flight_cost.ensures ∙ ap (gets I) same in
    let two : c.flight_cost-in-loop-change.result.0 ≡ had I change = ap (λ g. g.0) c.flight_cost-in-loop-change.ensures ∙ ap (had I) same in
    let most : gets I change ≤ operating_most = operating-le I change.leg.0 change.row c.parts-rows.ensures.valid within (gets-fits I P D.changes i are lt) in
    let most_had : had I change ≤ operating_most = operating-le I change.leg.0 change.was c.parts-rows.ensures.valid within (had-fits I P D.changes i are c.requires.plan lt) in
    let so_far = c.loop-change.invariant in
    let new = so_far.new in
    let old = so_far.old in
    let few_new = so_far.few_new in
    let few_old = so_far.few_old in
    record {
      new = omega (arith, new, one, sum_by_more (gets I) D.changes i no_change lt);
      old = omega (arith, old, two, sum_by_more (had I) D.changes i no_change lt);
      few_new = omega (arith, few_new, one, most);
      few_old = omega (arith, few_old, two, most_had);
    }

pub returns : goal.returns
returns c =
    let I = c.args.inst.now in
    let P = c.args._plan.now in
    let D = c.args.draft.now in
    let i = c.loop-change.change-index in
    let all = c.changes-change-items.ensures.all in
    let are = changes-for I P D c.changes-change-items.result.now c.requires.day c.requires.over all c.changes-change-items.ensures.are in
    let long = ap (λ (cs : List Change). length cs) all in
    let test = c.loop-change-test.false in
    let end = c.loop-change.auto.change-index-end in
    let few = c.requires.few in
    let whole : take i D.changes ≡ D.changes = take_all i D.changes (omega (arith, test, long)) in
    let new : c.loop-change.balance.new ≡ sum_by (gets I) D.changes = c.loop-change.invariant.new ∙ ap (sum_by (gets I)) whole in
    let old : c.loop-change.balance.old ≡ sum_by (had I) D.changes = c.loop-change.invariant.old ∙ ap (sum_by (had I)) whole in
    let plan : operating_cost I (plan_of D) ≡ operating_cost I (drafted P D.changes) = ap (λ (R : PlanRows). operating_cost I (drafted R D.changes)) c.requires.over in
    let flown = flown-changes I P D.changes are c.requires.plan in
    let few_new = c.loop-change.invariant.few_new in
    let few_old = c.loop-change.invariant.few_old in
    record {
      differs = omega (arith, new, old, plan, flown);
      few_new = omega (arith, few_new, end, few, long);
      few_old = omega (arith, few_old, end, few, long);
    }
