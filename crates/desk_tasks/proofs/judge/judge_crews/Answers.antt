use Rattle.std.proofs.Common.{ℕ, List, [], sym, ap, subst}
use Rattle.std.specs.declared.alloc.Global.{Global}
use Rattle.std.specs.declared.vec.Vec.{Vec}
use Rattle.desk_folder.specs.declared.files.File.{File}
use Rattle.desk_folder.specs.Entries.{named_texts}
use Rattle.desk_tasks.specs.declared.ending.Ending.{Ending}
use Rattle.desk_tasks.specs.Runs.{world}
use Rattle.desk_tasks.specs.Finishing.{Completes}
use Rattle.desk_tasks.specs.Crew.{crewed_verdict}
use Rattle.desk_tasks.proofs.JudgeLaws.{item-names, crewed_report-is, crewed-all, crewed-short}
use Rattle.desk_tasks.proofs.judge.judge_crews.Goals as goal

pub crewed_report-requires : goal.crewed_report-requires
crewed_report-requires g c = item-names c.args.inst.now c.args.plan.now c.in-Ok.found.broken c.in-Ok.ensures.broken

pub returns-in-Ok-put_outputs : goal.returns-in-Ok-put_outputs
returns-in-Ok-put_outputs g c =
    let before = world (g.F.Folder.outside c.args.folder.now) (g.O.Sink.report c.args.out.now) in
    let now = world (g.F.Folder.outside c.put_outputs.new.folder) (g.O.Sink.report c.put_outputs.new.out) in
    let I = c.args.inst.now in
    let P = c.args.plan.now in
    let cs = c.args.crews.now in
    let report = c.in-Ok-crewed_report.report.items in
    subst (λ (how : Ending). Completes [] before now (crewed_verdict I P cs) how) (sym c.end_with_crews.ensures)
    (crewed-all before now I P cs c.in-Ok.found.broken c.in-Ok-crew_least.item (named_texts c.new.result.items) report c.in-Ok-put_outputs.field-0 c.in-Ok.ensures.broken c.in-Ok-crew_least.ensures
    (ap (λ (files : List (File × Vec ℕ Global)). named_texts files) c.new.ensures.items)
    (crewed_report-is I P cs c.in-Ok.found.broken c.in-Ok-crew_least.item report c.in-Ok.found.cost c.in-Ok-crewed_report.ensures c.in-Ok.ensures.cost)
    c.in-Ok-put_outputs.ensures)

pub returns : goal.returns
returns g c =
    let before = world (g.F.Folder.outside c.args.folder.now) (g.O.Sink.report c.args.out.now) in
    let now = world (g.F.Folder.outside c.put_outputs.new.folder) (g.O.Sink.report c.put_outputs.new.out) in
    let I = c.args.inst.now in
    let P = c.args.plan.now in
    let cs = c.args.crews.now in
    let report = c.in-Ok-crewed_report.report.items in
    crewed-short before now I P cs c.in-Ok.found.broken c.in-Ok-crew_least.item (named_texts c.new.result.items) report c.in-Err-put_outputs.end c.in-Ok.ensures.broken c.in-Ok-crew_least.ensures
    (ap (λ (files : List (File × Vec ℕ Global)). named_texts files) c.new.ensures.items)
    (crewed_report-is I P cs c.in-Ok.found.broken c.in-Ok-crew_least.item report c.in-Ok.found.cost c.in-Ok-crewed_report.ensures c.in-Ok.ensures.cost)
    c.in-Err-put_outputs.ensures
