use Rattle.near_dear.proofs.CalmLaws.{calm-hour}
use Rattle.near_dear.proofs.calm.is_calm_hour.Goals as goal

pub returns-then-may_leave : goal.returns-then-may_leave
returns-then-may_leave g c = λ lands. calm-hour c.args.inst.now c.args.plan.now c.args.airport.0 c.args.hour (c.may_leave.ensures c.if-may_leave.true) (c.may_land.ensures lands)
