use Rattle.std.proofs.Common.{◌≡◌, ℕ, List, [], ◌∷◌, ◌++◌, ap, ◌∙◌}
use Rattle.std.specs.declared.alloc.Global.{Global}
use Rattle.std.specs.declared.vec.Vec.{Vec}
use Rattle.desk_folder.specs.declared.files.File.{File}
use Rattle.desk_folder.specs.declared.files.File.TheVariants.{SolAdded}
use Rattle.desk_folder.specs.Entries.{named_texts}
use Rattle.desk_tasks.proofs.FerryTexts.{texts_with, outputs_are}
use Rattle.desk_tasks.proofs.run.outputs_of.Goals as goal

pub returns : goal.returns
returns c =
    let file = c.in_ok-file.file in
    let report = c.in_ok-file.report in
    let entries : c.push.new.self.items ≡ (SolAdded, file) ∷ [] = c.in_ok-push.ensures.items ∙ ap (λ (es : List (File × Vec ℕ Global)). es ++ (SolAdded, file) ∷ []) c.new-files.ensures.items in
    ap (λ (es : List (File × Vec ℕ Global)). texts_with (named_texts es) report.items) entries
    ∙ outputs_are c.args.inst.now c.args.plan.now file.items report.items c.in_ok-file.ensures.file c.in_ok-file.ensures.report
