use Rattle.desk_data.proofs.BatchLaws.{fresh_day-valid, with_batch-parts, with_batch-valid, with_batch-plan}
use Rattle.desk_data.proofs.laws.batches_keep_days_valid.Goals as goal

pub returns-clause-fresh : goal.returns-clause-fresh
returns-clause-fresh c = fresh_day-valid

pub returns-clause-valid : goal.returns-clause-valid
returns-clause-valid c = with_batch-valid

pub returns-clause-parts : goal.returns-clause-parts
returns-clause-parts c = with_batch-parts

pub returns-clause-plan : goal.returns-clause-plan
returns-clause-plan c = with_batch-plan
