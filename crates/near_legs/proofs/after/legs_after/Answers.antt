use Rattle.std.proofs.Common.{length, sym, subst}
use Rattle.std.proofs.lemmas.Result.{IfOk-weaker}
use Rattle.plan_reads.specs.Before.{AreBefore}
use Rattle.near_legs.specs.LegTables.{IsInverse, AreAfter}
use Rattle.near_legs.proofs.AfterLaws.{after-are}
use Rattle.near_legs.proofs.after.legs_after.Goals as goal

pub returns : goal.returns
returns c =
    let I = c.args.inst.now in
    let P = c.args.plan.now in
    let before = c.as_slice.result.now in
    let are : AreBefore P.rows before = subst (AreBefore P.rows) (sym c.as_slice.ensures.value) c.in_ok-before.ensures in
    IfOk-weaker c.inverse.result (λ b. IsInverse (length before) before b.items) (λ b. AreAfter I P b.items)
    (λ b is. after-are I P before b.items c.requires are is) c.inverse.ensures
