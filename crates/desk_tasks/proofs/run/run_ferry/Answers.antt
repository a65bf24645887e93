use Rattle.std.proofs.Common.{List, [], ◌∷◌, sym, subst, refl}
use Rattle.std.specs.Prelude.{IsTrue}
use Rattle.desk_folder.specs.declared.files.File.{File}
use Rattle.desk_folder.specs.declared.files.File.TheVariants.{SolAdded}
use Rattle.desk_folder.specs.Outputs.{are_different}
use Rattle.desk_tasks.specs.declared.ending.Ending.{Ending}
use Rattle.desk_tasks.specs.Finishing.{Completes}
use Rattle.desk_tasks.specs.Runs.{world}
use Rattle.desk_tasks.specs.Writing.{as_texts}
use Rattle.desk_tasks.specs.Ferry.{ferry_outcome}
use Rattle.desk_tasks.proofs.FerryTexts.{one_file, ferried-all, ferried-short}
use Rattle.desk_tasks.proofs.run.run_ferry.Goals as goal

pub put_outputs-requires : goal.put_outputs-requires
put_outputs-requires g c =
    subst (λ (files : List File). IsTrue (are_different files))
    (sym (one_file c.args.inst.now c.args.plan.now (as_texts c.in-Ok-outputs_of.texts) c.in-Ok-outputs_of.ensures)) refl

pub returns-in-Ok-put_outputs : goal.returns-in-Ok-put_outputs
returns-in-Ok-put_outputs g c =
    let before = world (g.F.Folder.outside c.args.folder.now) (g.O.Sink.report c.args.out.now) in
    let now = world (g.F.Folder.outside c.put_outputs.new.folder) (g.O.Sink.report c.put_outputs.new.out) in
    let I = c.args.inst.now in
    let P = c.args.plan.now in
    subst (λ (how : Ending). Completes (SolAdded ∷ []) before now (ferry_outcome I P) how) (sym c.end_with.ensures)
    (ferried-all before now I P c.in-Ok.found.broken (as_texts c.in-Ok-outputs_of.texts) c.in-Ok-put_outputs.field-0 c.in-Ok.ensures.broken c.in-Ok-outputs_of.ensures c.in-Ok-put_outputs.ensures)

pub returns : goal.returns
returns g c =
    let before = world (g.F.Folder.outside c.args.folder.now) (g.O.Sink.report c.args.out.now) in
    let now = world (g.F.Folder.outside c.put_outputs.new.folder) (g.O.Sink.report c.put_outputs.new.out) in
    ferried-short before now c.args.inst.now c.args.plan.now (as_texts c.in-Ok-outputs_of.texts) c.in-Err-put_outputs.end c.in-Ok-outputs_of.ensures c.in-Err-put_outputs.ensures
