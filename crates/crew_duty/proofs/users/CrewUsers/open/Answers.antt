use Rattle.std.proofs.Common.{◌&&◌, ◌||◌, eqb, List, ap, ◌∙◌}
use Rattle.std.specs.List.{list_any}
use Rattle.desk_units.specs.declared.numbers.Leg.{Leg}
use Rattle.crew_rules.specs.declared.crew.CrewInfo.{CrewInfo}
use Rattle.crew_duty.specs.Users.{has_user}
use Rattle.crew_duty.proofs.UserLaws.{crews_more}
use Rattle.crew_duty.proofs.users.CrewUsers.open.Goals as goal

pub loop-k-preserved : goal.loop-k-preserved
loop-k-preserved c =
    let now = has_user c.loop-k.users in
    let k = c.loop-k.k in
    record {
      legs = c.in_ok-add.ensures.legs ∙ c.loop-k.invariant.legs;
      users = crews_more (has_user c.add.new.self) now c.args.crews.now k c.loop-k.invariant.users
          (λ x j. c.in_ok-add.ensures.ok x j ∙ ap (λ (legs : List Leg). now x j || (eqb j k && list_any (λ leg. eqb leg.0 x) legs)) (c.as_slice-legs.ensures ∙ ap (λ (crew : CrewInfo). crew.legs) c.crew_in-crew.ensures.row));
    }
