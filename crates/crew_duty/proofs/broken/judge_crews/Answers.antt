use Rattle.std.proofs.Common.{ℕ, List, length, ap, subst, ◌∙◌}
use Rattle.std.proofs.lemmas.List.{length-map}
use Rattle.crew_rules.specs.declared.crew.CrewBroken.{CrewBroken}
use Rattle.crew_rules.specs.Broken.{crew_at, crew_of}
use Rattle.crew_duty.specs.declared.faults.CrewFaults.{CrewFaults}
use Rattle.crew_duty.specs.Faults.{AreJudged, among, by_faults, faults_of}
use Rattle.crew_duty.proofs.broken.judge_crews.Goals as goal

pub judge_all-requires-clause-same : goal.judge_all-requires-clause-same
judge_all-requires-clause-same c =
    ap (λ (found : List CrewFaults). length found) (c.as_slice-found.ensures.value ∙ c.in_ok-found.ensures)
    ∙ length-map c.args.numbers.now (λ k. faults_of c.args.inst.now.parts c.args.rows.now (crew_at c.args.crews.now k))

pub returns-clause-ok : goal.returns-clause-ok
returns-clause-ok c =
    let f : ℕ → CrewFaults = λ k. faults_of c.args.inst.now.parts c.args.rows.now (crew_at c.args.crews.now k) in
    subst (λ (items : List CrewBroken). AreJudged (by_faults f) (λ item. among c.args.numbers.now (crew_of item)) items c.judge_all.new.broken.items) c.in_ok-reserve.ensures.items
    (c.judge_all.ensures f (c.as_slice-found.ensures.value ∙ c.in_ok-found.ensures))
