use Rattle.std.proofs.Common.{ℕ, List, subst, ◌∙◌}
use Rattle.desk_tasks.specs.Commands.{history_files}
use Rattle.desk_tasks.specs.Runs.{world}
use Rattle.desk_tasks.specs.Finishing.{Completes}
use Rattle.desk_tasks.specs.Play.{remarks_with}
use Rattle.history_texts.proofs.HistoryTexts.{outcome_of}
use Rattle.history_texts.proofs.write_texts.write_watched.Goals as goal

pub returns-in-Ok : goal.returns-in-Ok
returns-in-Ok g c =
    let before = world (g.F.Folder.outside c.args.folder.now) (g.O.Sink.report c.args.out.now) in
    let now = world (g.F.Folder.outside c.write_with.new.folder) (g.O.Sink.report c.write_with.new.out) in
    subst (λ (lines : List ℕ). Completes history_files before now (outcome_of c.args.book.now (remarks_with c.args.search lines)) c.write_with.result) (c.as_slice.ensures.value ∙ c.in-Ok.ensures) c.write_with.ensures
