use Rattle.std.proofs.Common.{rules, sym, ◌∙◌}
use Rattle.std.proofs.lemmas.Bool.{and_from}
use Rattle.hour_counts.proofs.RuledOutLaws.{full-leaves, full-lands, slots-rooms}
use Rattle.hour_counts.proofs.ruled_out.full_until.Goals as goal

pub returns-then-not-has_room : goal.returns-then-not-has_room
returns-then-not-has_room g c =
    full-leaves c.args.inst.now (g.P.ReadPlan.plan_of c.args.plan.now) c.args.leg.0 c.args.at (sym c.has_room.ensures ∙ c.if-not-has_room.true)

pub returns-then-not-has_room-2 : goal.returns-then-not-has_room-2
returns-then-not-has_room-2 g c =
    rw c.leg.ensures.row (full-lands c.args.inst.now (g.P.ReadPlan.plan_of c.args.plan.now) c.args.leg.0 c.args.at (search rules))

pub returns : goal.returns
returns g c =
    slots-rooms c.args.inst.now (g.P.ReadPlan.plan_of c.args.plan.now) c.args.leg.0 c.args.at
    ∙ and_from _ _ (sym c.has_room.ensures ∙ c.if-not-has_room.false) (search rules)
