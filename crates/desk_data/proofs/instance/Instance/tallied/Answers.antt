use Rattle.desk_data.proofs.TallyLaws.{count_gone-le}
use Rattle.desk_data.proofs.instance.Instance.tallied.Goals as goal

pub returns-clause-limit : goal.returns-clause-limit
returns-clause-limit c = rw c.count_gone.ensures (count_gone-le c.args.self.now.progress.frozen c.tally.result.now c.args.legs.now c.tally.ensures.ranges)
