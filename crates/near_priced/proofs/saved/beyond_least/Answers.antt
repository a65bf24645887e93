use Rattle.std.proofs.Common.{◌≤◌, length, arith}
use Rattle.desk_data.specs.PlanRows.{groups_at}
use Rattle.near_draft.specs.Drafts.{plan_of}
use Rattle.near_priced.proofs.SavingLaws.{all-least}
use Rattle.near_priced.proofs.saved.beyond_least.Goals as goal

pub returns : goal.returns
returns c =
    let S = plan_of c.args.draft.now in
    let r = c.args.res.0 in
    let i = c.loop-group.group-index in
    let all : length (groups_at S r) ≤ i = rw c.groups-group-items.ensures.groups at c.loop-group-test.false in
    omega (arith, c.loop-group.invariant, all-least c.args.inst.now S r i all)
