use Rattle.desk_folder.specs.Entries.{named_texts}
use Rattle.desk_tasks.specs.Runs.{world}
use Rattle.desk_top.proofs.Written.{made, made-is, made-differ, made-all, made-short}
use Rattle.desk_top.proofs.day.write_day.Goals as goal

pub put_outputs-requires : goal.put_outputs-requires
put_outputs-requires g c = made-differ c.args.seed c.args.size (named_texts c.in-Ok.files.items) c.in-Ok.ensures.exact

pub returns-in-Ok-put_outputs : goal.returns-in-Ok-put_outputs
returns-in-Ok-put_outputs g c =
    made-all (world (g.F.Folder.outside c.args.folder.now) (g.O.Sink.report c.args.out.now)) (world (g.F.Folder.outside c.put_outputs.new.folder) (g.O.Sink.report c.put_outputs.new.out))
    c.args.seed c.args.size (made (named_texts c.in-Ok.files.items) c.in-Ok-from_slice.report.items) c.in-Ok-put_outputs.field-0
    (made-is c.args.seed c.args.size (named_texts c.in-Ok.files.items) c.in-Ok-from_slice.report.items c.in-Ok.ensures.exact c.in-Ok-from_slice.ensures.items)
    c.in-Ok-put_outputs.ensures

pub returns : goal.returns
returns g c =
    made-short (world (g.F.Folder.outside c.args.folder.now) (g.O.Sink.report c.args.out.now)) (world (g.F.Folder.outside c.put_outputs.new.folder) (g.O.Sink.report c.put_outputs.new.out))
    c.args.seed c.args.size (made (named_texts c.in-Ok.files.items) c.in-Ok-from_slice.report.items) c.in-Err-put_outputs.end
    (made-is c.args.seed c.args.size (named_texts c.in-Ok.files.items) c.in-Ok-from_slice.report.items c.in-Ok.ensures.exact c.in-Ok-from_slice.ensures.items)
    c.in-Err-put_outputs.ensures
