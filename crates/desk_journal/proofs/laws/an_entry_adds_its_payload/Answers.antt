use Rattle.desk_journal.proofs.PayloadLaws.{history-push}
use Rattle.desk_journal.proofs.laws.an_entry_adds_its_payload.Goals as goal

pub returns : goal.returns
returns c = history-push
