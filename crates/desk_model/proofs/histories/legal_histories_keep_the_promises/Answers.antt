use Rattle.desk_model.proofs.HistoryLaws.{promises}
use Rattle.desk_model.proofs.histories.legal_histories_keep_the_promises.Goals as goal

pub returns : goal.returns
returns c = promises
