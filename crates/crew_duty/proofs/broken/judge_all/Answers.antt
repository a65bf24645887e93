use Rattle.crew_duty.specs.Faults.{among, by_faults}
use Rattle.crew_duty.proofs.JudgedLaws.{four_judged}
use Rattle.crew_duty.proofs.broken.judge_all.Goals as goal

pub returns : goal.returns
returns c f is =
    four_judged (by_faults f) (among c.args.numbers.now) c.args.broken.now.items c.judge_rule.new.broken.items c.judge_rule-2.new.broken.items c.judge_rule-3.new.broken.items c.judge_rule-4.new.broken.items
    (c.judge_rule.ensures.judged f is) (c.judge_rule-2.ensures.judged f is) (c.judge_rule-3.ensures.judged f is) (c.judge_rule-4.ensures.judged f is)
