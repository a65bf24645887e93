use Rattle.std.proofs.Common.{◌+◌, ◌≤◌, length, ap, arith}
use Rattle.std.specs.Prelude.{sum_by}
use Rattle.std.proofs.lemmas.List.{take_all}
use Rattle.desk_units.specs.declared.numbers.Res.{Res}
use Rattle.board_kit.specs.Users.{users_at}
use Rattle.near_draft.specs.Drafts.{plan_of}
use Rattle.near_moves.proofs.ListLaws.{for_some}
use Rattle.near_priced.specs.Saved.{saved_by, saved_on}
use Rattle.near_priced.proofs.SavingLaws.{saved-listed}
use Rattle.near_priced.proofs.saved.left_by_leg.Goals as goal

pub returns : goal.returns
returns c =
    let I = c.args.inst.now in
    let P = c.args.plan.now in
    let S = plan_of c.args.draft.now in
    let x = c.args.leg.0 in
    let lists = c.args.payments.now.users in
    let i = c.loop-res.res-index in
    let all : length (users_at lists x) ≤ i = rw c.users-res-items.ensures.users at c.loop-res-test.false in
    let whole = ap (sum_by (λ (res : Res). saved_by I P S res.0)) (take_all i (users_at lists x) all) in
    for_some (λ left. saved_on I P S x + left ≤ c.args.limit) c.loop-res.left
    (omega (arith, c.loop-res.invariant, whole, saved-listed I P S lists x c.requires.payments.users))
