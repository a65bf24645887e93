use Rattle.desk_data.specs.Situation.{schedule}
use Rattle.desk_data.proofs.ScheduleLemmas.{sound_schedule, plan_for_schedule}
use Rattle.desk_data.proofs.instance.Instance.schedule.Goals as goal

pub of-requires : goal.of-requires
unfolding schedule
of-requires c =
    rw (c.in_ok-rows.ensures, c.in_ok-groups.ensures, c.as_slice.ensures, c.as_slice-2.ensures, c.parts-parts.ensures.parts) (sound_schedule c.args.self.now c.parts-parts.ensures.valid)

pub returns-clause-plan : goal.returns-clause-plan
unfolding schedule
returns-clause-plan c = rw (c.of.ensures, c.in_ok-rows.ensures, c.in_ok-groups.ensures, c.as_slice.ensures, c.as_slice-2.ensures, c.parts-parts.ensures.parts)

pub returns-clause-valid : goal.returns-clause-valid
unfolding schedule
returns-clause-valid c =
    rw (c.of.ensures, c.in_ok-rows.ensures, c.in_ok-groups.ensures, c.as_slice.ensures, c.as_slice-2.ensures, c.parts-parts.ensures.parts) (plan_for_schedule c.args.self.now c.parts-parts.ensures.valid)
