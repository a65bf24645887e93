use Rattle.std.proofs.Common.{None, ap}
use Rattle.desk_model.specs.States.{opening}
use Rattle.desk_tasks.specs.Play.{history, search_remarks, history_outcome}
use Rattle.desk_top.proofs.Whole.{rows_are_read, rows_are_joined}
use Rattle.desk_top.proofs.EventsBack.{run_back}
use Rattle.desk_top.proofs.journal_law.written_journals_read_back.Goals as goal

pub returns-clause-rows : goal.returns-clause-rows
returns-clause-rows c = rows_are_read

pub returns-clause-events : goal.returns-clause-events
returns-clause-events c = rows_are_joined

pub returns-clause-run : goal.returns-clause-run
returns-clause-run c = λ I h legal. run_back (opening I) h legal

pub returns-clause-replayed : goal.returns-clause-replayed
unfolding history
returns-clause-replayed c = λ I h legal. ap (history_outcome I (search_remarks None)) (run_back (opening I) h legal)

pub returns-clause-searched : goal.returns-clause-searched
unfolding history history_outcome
returns-clause-searched c = λ I remarks h legal. ap (λ g. (history_outcome I (search_remarks None) g).texts.files) (run_back (opening I) h legal)
