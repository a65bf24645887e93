use Rattle.std.proofs.Common.{◌<◌, length, ◌∙◌, arith}
use Rattle.crew_duty.specs.Users.{has_user}
use Rattle.crew_duty.proofs.UserLaws.{legs_more}
use Rattle.crew_duty.proofs.users.CrewUsers.add.Goals as goal

pub loop-leg-preserved : goal.loop-leg-preserved
loop-leg-preserved c =
    let k = c.loop-leg.leg-index in
    let lt : k < length c.args.legs.now = omega arith in
    record {
      legs = c.in_ok-add_one.ensures.legs ∙ c.loop-leg.invariant.legs;
      users = legs_more (has_user c.add_one.new.self) (has_user c.loop-leg.self) (has_user c.args.self.now) c.args.legs.now k c.args.crew (record { 0 = 0 }) lt c.loop-leg.invariant.users c.in_ok-add_one.ensures.ok;
    }
