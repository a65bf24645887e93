use Rattle.std.proofs.Common.{ℕ, List, sym, subst}
use Rattle.desk_folder.specs.declared.faults.FolderFault.TheVariants as call
use Rattle.desk_folder.specs.Texts.{PutsReport}
use Rattle.desk_folder.specs.Outputs.{PutsTexts}
use Rattle.desk_folder.specs.Entries.{named_texts}
use Rattle.std.specs.declared.alloc.Global.{Global}
use Rattle.std.specs.declared.vec.Vec.{Vec}
use Rattle.desk_folder.specs.declared.files.File.{File}
use Rattle.desk_tasks.specs.declared.ending.Ending.{Ending}
use Rattle.desk_tasks.specs.Runs.{world}
use Rattle.desk_tasks.specs.Writing.{as_texts, PutsOutputs}
use Rattle.desk_tasks.proofs.PutLaws.{ended_by, texts_put, texts_short, report_put, report_short, outputs-written, report-failed, report-memory, text-short}
use Rattle.desk_tasks.proofs.write.put_outputs.Goals as goal

pub returns-in-Err : goal.returns-in-Err
returns-in-Err g c =
    let outside = g.F.Folder.outside in
    let sink = g.O.Sink.report c.args.out.now in
    subst (λ (how : Ending). PutsOutputs (world (outside c.args.folder.now) sink) (world (outside c.put_texts.new.folder) sink) (as_texts c.args.texts.now) (ended_by how)) (sym c.from.ensures)
    (text-short (outside c.args.folder.now) (outside c.put_texts.new.folder) sink (as_texts c.args.texts.now) c.in-Err.fault
    (subst (λ (files : List (File × Vec ℕ Global)). PutsTexts (outside c.args.folder.now) (outside c.put_texts.new.folder) (named_texts files) (texts_short c.in-Err.fault)) c.as_slice.ensures.value c.in-Err.ensures))

pub returns-in-Ok-put_report : goal.returns-in-Ok-put_report
returns-in-Ok-put_report g c =
    let outside = g.F.Folder.outside in
    let before = g.O.Sink.report c.args.out.now in
    let now = g.O.Sink.report c.put_report.new.sink in
    outputs-written (outside c.args.folder.now) (outside c.put_texts.new.folder) before now (as_texts c.args.texts.now) c.in-Ok.field-0 c.in-Ok-put_report.field-0 tt
    (subst (λ (files : List (File × Vec ℕ Global)). PutsTexts (outside c.args.folder.now) (outside c.put_texts.new.folder) (named_texts files) (texts_put c.in-Ok.field-0)) c.as_slice.ensures.value c.in-Ok.ensures)
    (subst (λ (text : List ℕ). PutsReport before now text (report_put c.in-Ok-put_report.field-0)) c.as_slice-2.ensures.value c.in-Ok-put_report.ensures)

pub returns-in-Err-Failed : goal.returns-in-Err-Failed
returns-in-Err-Failed g c =
    let outside = g.F.Folder.outside in
    let before = g.O.Sink.report c.args.out.now in
    let now = g.O.Sink.report c.put_report.new.sink in
    report-failed (outside c.args.folder.now) (outside c.put_texts.new.folder) before now (as_texts c.args.texts.now) c.in-Ok.field-0
    (subst (λ (files : List (File × Vec ℕ Global)). PutsTexts (outside c.args.folder.now) (outside c.put_texts.new.folder) (named_texts files) (texts_put c.in-Ok.field-0)) c.as_slice.ensures.value c.in-Ok.ensures)
    (subst (λ (text : List ℕ). PutsReport before now text (report_short call.Failed)) c.as_slice-2.ensures.value (rw c.in-Err-Failed.field-0-is at c.in-Err-Failed.ensures))

pub returns-in-Err-Memory : goal.returns-in-Err-Memory
returns-in-Err-Memory g c =
    let outside = g.F.Folder.outside in
    let before = g.O.Sink.report c.args.out.now in
    let now = g.O.Sink.report c.put_report.new.sink in
    report-memory (outside c.args.folder.now) (outside c.put_texts.new.folder) before now (as_texts c.args.texts.now) c.in-Ok.field-0
    (subst (λ (files : List (File × Vec ℕ Global)). PutsTexts (outside c.args.folder.now) (outside c.put_texts.new.folder) (named_texts files) (texts_put c.in-Ok.field-0)) c.as_slice.ensures.value c.in-Ok.ensures)
    (subst (λ (text : List ℕ). PutsReport before now text (report_short call.Memory)) c.as_slice-2.ensures.value (rw c.in-Err-Memory.field-0-is at c.in-Err-Memory.ensures))
