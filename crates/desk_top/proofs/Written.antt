-- The files of a generated day are written.
use Rattle.std.proofs.Common.{◌≡◌, ℕ, true, List, refl, ap, ◌∙◌}
use Rattle.std.specs.Prelude.{codes}
use Rattle.std.specs.Fmt.{digits}
use Rattle.desk_folder.specs.Outputs.{FileText, files_of, are_different}
use Rattle.desk_folder.specs.Files.{day_files}
use Rattle.output_texts.specs.Generated.{generated}
use Rattle.desk_tasks.specs.declared.ending.Ending.{Ending}
use Rattle.desk_tasks.specs.declared.ending.Ending.TheVariants as ending
use Rattle.desk_tasks.specs.Outcome.{Texts}
use Rattle.desk_tasks.specs.Runs.{World}
use Rattle.desk_tasks.specs.Writing.{PutsOutputs}
use Rattle.desk_tasks.specs.Finishing.{Completes}
use Rattle.desk_tasks.proofs.PutLaws.{all_done, ended_by}
use Rattle.desk_tasks.proofs.CompleteLaws.{completes-all, completes-short}
use Rattle.desk_tasks.specs.Generate.{generation}
use Rattle.desk_tasks.proofs.FilesLaw.{generated-files}

-- these texts of files, and this report
abbrev pub made : List FileText → List ℕ → Texts
made files report = record { files = files; report = report }

pub made-is : (seed size : ℕ) (files : List FileText) (report : List ℕ) → files ≡ generated seed size → report ≡ codes "written 13\n" → made files report ≡ (generation seed size).texts
unfolding generation digits
made-is seed size files report is given = ap (λ (fs : List FileText). made fs report) is ∙ ap (λ (r : List ℕ). made (generated seed size) r) given

pub made-differ : (seed size : ℕ) (files : List FileText) → files ≡ generated seed size → are_different (files_of files) ≡ true
unfolding generated
made-differ seed size files is = ap (λ (fs : List FileText). are_different (files_of fs)) is

status_is : (seed size : ℕ) → (generation seed size).status ≡ 0
unfolding generation
status_is seed size = refl

pub made-all : (before now : World) (seed size : ℕ) (t : Texts) (ok : Unit {0}) → t ≡ (generation seed size).texts → PutsOutputs before now t (all_done ok) → Completes day_files before now (generation seed size) ending.Done
made-all before now seed size t ok is put = completes-all day_files before now (generation seed size) t ending.Done ok (generated-files seed size) is (status_is seed size) put

pub made-short : (before now : World) (seed size : ℕ) (t : Texts) (how : Ending) → t ≡ (generation seed size).texts → PutsOutputs before now t (ended_by how) → Completes day_files before now (generation seed size) how
made-short before now seed size t how is put = completes-short day_files before now (generation seed size) t how (generated-files seed size) is put
