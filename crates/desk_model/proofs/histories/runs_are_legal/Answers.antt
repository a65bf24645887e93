use Rattle.std.proofs.Common.{subst, sym}
use Rattle.desk_data.specs.Situation.{Situation}
use Rattle.desk_model.specs.States.{opening}
use Rattle.desk_model.specs.Histories.{AreAskable}
use Rattle.desk_model.proofs.StateLaws.{opening-inst}
use Rattle.desk_model.proofs.HistoryLaws.{run-legal}
use Rattle.desk_model.proofs.histories.runs_are_legal.Goals as goal

pub returns : goal.returns
returns c I events asked = run-legal (opening I) events (subst (λ (J : Situation). AreAskable J events) (sym (opening-inst I)) asked)
