use Rattle.std.proofs.Common.{◌∙◌, sym, subst}
use Rattle.desk_tasks.specs.declared.ending.Ending.{Ending}
use Rattle.desk_tasks.specs.Runs.{world}
use Rattle.desk_top.specs.Obeyed.{ObeysStore}
use Rattle.desk_top.proofs.StoreObeyed.{keeps-as, obeyed-none, obeyed-story}
use Rattle.desk_top.proofs.store.obey_store.Goals as goal

pub returns-in-Err-clause-obeys : goal.returns-in-Err-clause-obeys
returns-in-Err-clause-obeys g c =
    let outside = g.F.Folder.outside in
    let sink = g.O.Sink.report c.args.out.now in
    let shown = g.D.Disk.shown c.args.disk.now in
    subst (λ (how : Ending). ObeysStore (world (outside c.args.folder.now) sink) (world (outside c.read_kept.new.folder) sink) shown shown how) (sym c.from.ensures)
    (obeyed-none (outside c.args.folder.now) (outside c.read_kept.new.folder) sink shown c.in-Err.fault
    c.read_kept.ensures.only c.read_kept.ensures.in_order c.in-Err.ensures.stops c.in-Err.ensures.cause c.in-Err.ensures.exact)

pub returns-in-Ok-clause-obeys : goal.returns-in-Ok-clause-obeys
returns-in-Ok-clause-obeys g c =
    let outside = g.F.Folder.outside in
    let kept = c.in-Ok.kept in
    let before = world (outside c.read_kept.new.folder) (g.O.Sink.report c.args.out.now) in
    let now = world (outside c.keep_events.new.folder) (g.O.Sink.report c.keep_events.new.out) in
    let shown = g.D.Disk.shown c.args.disk.now in
    let told = g.D.Disk.shown c.keep_events.new.disk in
    obeyed-story (outside c.args.folder.now) (outside c.read_kept.new.folder) (g.O.Sink.report c.args.out.now) now shown told
    kept c.keep_events.result c.read_kept.ensures.only c.read_kept.ensures.in_order c.in-Ok.ensures.read c.in-Ok.ensures.exact c.in-Ok.ensures.runs
    (keeps-as kept c.as_slice-batches.result.now c.as_slice.result.now before now shown told c.keep_events.result (c.as_slice-batches.ensures.value ∙ c.batches.view_is) c.as_slice.ensures.value c.keep_events.ensures.keeps)

pub returns-in-Ok-clause-unasked : goal.returns-in-Ok-clause-unasked
returns-in-Ok-clause-unasked g c = λ x tells r refused. absurd (let both = sym (c.in-Ok.ensures.exact x tells) ∙ refused in cc)
