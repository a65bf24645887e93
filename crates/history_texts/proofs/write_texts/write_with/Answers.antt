use Rattle.std.proofs.Common.{sym, subst}
use Rattle.desk_tasks.specs.declared.ending.Ending.{Ending}
use Rattle.desk_tasks.specs.Commands.{history_files}
use Rattle.desk_tasks.specs.Runs.{world}
use Rattle.desk_tasks.specs.Writing.{as_texts}
use Rattle.desk_tasks.specs.Finishing.{Completes}
use Rattle.desk_tasks.specs.Play.{remarks_with}
use Rattle.history_texts.proofs.HistoryTexts.{outcome_of, files-differ, history-all, history-short}
use Rattle.history_texts.proofs.write_texts.write_with.Goals as goal

pub put_outputs-requires : goal.put_outputs-requires
put_outputs-requires g c = files-differ c.args.book.now (remarks_with c.args.search c.args.lines.now) (as_texts c.in-Ok.texts) c.in-Ok.ensures

pub returns : goal.returns
returns g c =
    history-short (world (g.F.Folder.outside c.args.folder.now) (g.O.Sink.report c.args.out.now)) (world (g.F.Folder.outside c.put_outputs.new.folder) (g.O.Sink.report c.put_outputs.new.out))
    c.args.book.now (remarks_with c.args.search c.args.lines.now) (as_texts c.in-Ok.texts) c.in-Err-put_outputs.end c.in-Ok.ensures c.in-Err-put_outputs.ensures

pub returns-in-Ok-put_outputs : goal.returns-in-Ok-put_outputs
returns-in-Ok-put_outputs g c =
    let before = world (g.F.Folder.outside c.args.folder.now) (g.O.Sink.report c.args.out.now) in
    let now = world (g.F.Folder.outside c.put_outputs.new.folder) (g.O.Sink.report c.put_outputs.new.out) in
    subst (λ (how : Ending). Completes history_files before now (outcome_of c.args.book.now (remarks_with c.args.search c.args.lines.now)) how) (sym c.end_with.ensures)
    (history-all before now c.args.book.now (remarks_with c.args.search c.args.lines.now) (as_texts c.in-Ok.texts) c.broken.result c.in-Ok-put_outputs.field-0 c.in-Ok.ensures c.broken.ensures c.in-Ok-put_outputs.ensures)
