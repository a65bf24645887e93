use Rattle.std.proofs.Common.{not, ap, ◌∙◌}
use Rattle.crew_duty.proofs.FaultLaws.{faults_from}
use Rattle.crew_duty.proofs.faults.crew_faults.Goals as goal

pub returns : goal.returns
returns c =
    faults_from c.args.inst.now.parts c.args.rows.now c.args.crew.now c.as_slice-legs.result.now _ (c.as_slice-legs.ensures.value ∙ c.in_ok-legs.ensures.exact)
    (ap not c.is_chain.ensures) (ap not c.is_in_turn.ensures) (ap not c.are_short.ensures) (ap not c.ends_at_home.ensures)
