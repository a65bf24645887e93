use Rattle.desk_build.proofs.OrderLemmas.{few_batches, batches_good}
use Rattle.desk_build.proofs.batches.batches_of.Goals as goal

pub returns-clause-few : goal.returns-clause-few
returns-clause-few c = rw c.in_ok-batches.ensures (few_batches c.args.tables.now.files.now c.requires.fit.few)

pub returns-clause-batches : goal.returns-clause-batches
returns-clause-batches c = rw c.in_ok-batches.ensures (batches_good c.args.tables.now.files.now c.requires.rows c.requires.fit)
