use Rattle.std.proofs.Common.{ℕ, List, [], sym, ap, subst}
use Rattle.std.specs.declared.alloc.Global.{Global}
use Rattle.std.specs.declared.vec.Vec.{Vec}
use Rattle.desk_folder.specs.declared.files.File.{File}
use Rattle.desk_folder.specs.Entries.{named_texts}
use Rattle.desk_tasks.specs.declared.ending.Ending.{Ending}
use Rattle.desk_tasks.specs.Runs.{world}
use Rattle.desk_tasks.specs.Finishing.{Completes}
use Rattle.desk_tasks.specs.Judge.{verdict}
use Rattle.desk_tasks.proofs.JudgeLaws.{item-names, report-is, judged-all, judged-short}
use Rattle.desk_tasks.proofs.judge.judge_plan.Goals as goal

pub verdict_report-requires : goal.verdict_report-requires
verdict_report-requires g c = item-names c.args.inst.now c.args.plan.now c.in-Ok.found.broken c.in-Ok.ensures.broken

pub returns-in-Ok-put_outputs : goal.returns-in-Ok-put_outputs
returns-in-Ok-put_outputs g c =
    let before = world (g.F.Folder.outside c.args.folder.now) (g.O.Sink.report c.args.out.now) in
    let now = world (g.F.Folder.outside c.put_outputs.new.folder) (g.O.Sink.report c.put_outputs.new.out) in
    let I = c.args.inst.now in
    let P = c.args.plan.now in
    subst (λ (how : Ending). Completes [] before now (verdict I P) how) (sym c.end_with.ensures)
    (judged-all before now I P c.in-Ok.found.broken (named_texts c.new.result.items) c.in-Ok-verdict_report.report.items c.in-Ok-put_outputs.field-0 c.in-Ok.ensures.broken
    (ap (λ (files : List (File × Vec ℕ Global)). named_texts files) c.new.ensures.items)
    (report-is I P c.in-Ok.found.broken c.in-Ok-verdict_report.report.items c.in-Ok.found.cost c.in-Ok-verdict_report.ensures c.in-Ok.ensures.cost)
    c.in-Ok-put_outputs.ensures)

pub returns : goal.returns
returns g c =
    let before = world (g.F.Folder.outside c.args.folder.now) (g.O.Sink.report c.args.out.now) in
    let now = world (g.F.Folder.outside c.put_outputs.new.folder) (g.O.Sink.report c.put_outputs.new.out) in
    let I = c.args.inst.now in
    let P = c.args.plan.now in
    judged-short before now I P c.in-Ok.found.broken (named_texts c.new.result.items) c.in-Ok-verdict_report.report.items c.in-Err-put_outputs.end c.in-Ok.ensures.broken
    (ap (λ (files : List (File × Vec ℕ Global)). named_texts files) c.new.ensures.items)
    (report-is I P c.in-Ok.found.broken c.in-Ok-verdict_report.report.items c.in-Ok.found.cost c.in-Ok-verdict_report.ensures c.in-Ok.ensures.cost)
    c.in-Err-put_outputs.ensures
