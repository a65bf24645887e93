use Rattle.std.proofs.Common.{ap, ◌∙◌}
use Rattle.desk_folder.specs.Entries.{named_texts}
use Rattle.desk_tasks.specs.Facts.{as_rows}
use Rattle.desk_tasks.proofs.RecoveryLaws.{trial-read, trial-unread}
use Rattle.desk_tasks.proofs.recovery.trial.Goals as goal

pub returns-clause-exact : goal.returns-clause-exact
returns-clause-exact c =
    trial-read c.args.seed c.args.size (named_texts c.as_slice.result.now) (as_rows c.new.result) (as_rows c.in-Ok-read_texts.rows) c.joined_recovery.result
    (ap named_texts c.as_slice.ensures.value ∙ c.in-Ok.ensures.exact) c.new.ensures.rows c.in-Ok-read_texts.ensures.exact c.joined_recovery.ensures.exact

pub returns-in-Err-read_texts-clause-exact : goal.returns-in-Err-read_texts-clause-exact
returns-in-Err-read_texts-clause-exact c =
    trial-unread c.args.seed c.args.size (named_texts c.as_slice.result.now) (as_rows c.new.result) c.in-Err-read_texts.fault
    (ap named_texts c.as_slice.ensures.value ∙ c.in-Ok.ensures.exact) c.new.ensures.rows c.in-Err-read_texts.ensures.cause c.in-Err-read_texts.ensures.exact
