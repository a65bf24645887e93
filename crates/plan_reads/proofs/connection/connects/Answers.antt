use Rattle.std.proofs.Common.{sym, ◌∙◌, arith}
use Rattle.desk_data.specs.Paths.{no_pair}
use Rattle.plan_reads.proofs.PathLaws.{all_reached, one_reached, one_missed}
use Rattle.plan_reads.proofs.connection.connects.Goals as goal

pub returns-then-not-reaches : goal.returns-then-not-reaches
unfolding no_pair
returns-then-not-reaches g c =
    one_missed c.args.inst.now (g.P.ReadPlan.plan_of c.args.plan.now) c.args.path.now c.loop-i.i no_pair (omega arith) (omega arith) (sym c.reaches.ensures ∙ c.if-not-reaches.true)

pub loop-i-preserved : goal.loop-i-preserved
unfolding no_pair
loop-i-preserved g c =
    one_reached c.args.inst.now (g.P.ReadPlan.plan_of c.args.plan.now) c.args.path.now c.loop-i.i no_pair (omega arith) (sym c.reaches.ensures ∙ c.if-not-reaches.false) c.loop-i.invariant

pub returns : goal.returns
returns g c = all_reached c.args.inst.now (g.P.ReadPlan.plan_of c.args.plan.now) c.args.path.now c.loop-i.i (omega arith) c.loop-i.invariant
