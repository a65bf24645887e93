use Rattle.std.proofs.Common.{[], sym, subst}
use Rattle.desk_tasks.specs.declared.ending.Ending.{Ending}
use Rattle.desk_tasks.specs.Runs.{world}
use Rattle.desk_tasks.specs.Writing.{as_texts}
use Rattle.desk_tasks.specs.Finishing.{Completes}
use Rattle.history_texts.proofs.HistoryTexts.{alone, none-differ, alone-all, alone-short}
use Rattle.history_texts.proofs.write_texts.report_history.Goals as goal

pub put_outputs-requires : goal.put_outputs-requires
put_outputs-requires g c = none-differ c.args.book.now c.args.search (as_texts c.in-Ok.texts) c.in-Ok.ensures

pub returns : goal.returns
returns g c =
    alone-short (world (g.F.Folder.outside c.args.folder.now) (g.O.Sink.report c.args.out.now)) (world (g.F.Folder.outside c.put_outputs.new.folder) (g.O.Sink.report c.put_outputs.new.out))
    c.args.book.now c.args.search (as_texts c.in-Ok.texts) c.in-Err-put_outputs.end c.in-Ok.ensures c.in-Err-put_outputs.ensures

pub returns-in-Ok-put_outputs : goal.returns-in-Ok-put_outputs
returns-in-Ok-put_outputs g c =
    let before = world (g.F.Folder.outside c.args.folder.now) (g.O.Sink.report c.args.out.now) in
    let now = world (g.F.Folder.outside c.put_outputs.new.folder) (g.O.Sink.report c.put_outputs.new.out) in
    subst (λ (how : Ending). Completes [] before now (alone c.args.book.now c.args.search) how) (sym c.end_with.ensures)
    (alone-all before now c.args.book.now c.args.search (as_texts c.in-Ok.texts) c.broken.result c.in-Ok-put_outputs.field-0 c.in-Ok.ensures c.broken.ensures c.in-Ok-put_outputs.ensures)
