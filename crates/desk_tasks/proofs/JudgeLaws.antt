-- A verdict is written.
use Rattle.std.proofs.Common.{◌≡◌, ℕ, List, [], refl, sym, ap, ◌∙◌}
use Rattle.std.specs.Prelude.{Option, Some, None, IfSome}
use Rattle.desk_folder.specs.Outputs.{FileText, files_of}
use Rattle.desk_units.specs.declared.money.Grains.{Grains}
use Rattle.desk_data.specs.declared.broken.Broken.{Broken}
use Rattle.desk_data.specs.Situation.{Situation}
use Rattle.desk_data.specs.PlanRows.{PlanRows}
use Rattle.desk_rules.specs.Least.{least}
use Rattle.desk_rules.specs.Cost.{cost, grains}
use Rattle.output_texts.specs.Writable.{Names}
use Rattle.output_texts.proofs.WritableLaws.{least-names}
use Rattle.desk_tasks.specs.declared.ending.Ending.{Ending}
use Rattle.desk_tasks.specs.Outcome.{Texts}
use Rattle.desk_tasks.specs.Runs.{World}
use Rattle.desk_tasks.specs.Writing.{PutsOutputs}
use Rattle.desk_tasks.specs.Finishing.{IsEndOf, Completes}
use Rattle.desk_tasks.proofs.PutLaws.{all_done, ended_by}
use Rattle.desk_tasks.proofs.CompleteLaws.{completes-all, completes-short}
use Rattle.crew_rules.specs.declared.crew.CrewInfo.{CrewInfo}
use Rattle.crew_rules.specs.declared.crew.CrewBroken.{CrewBroken}
use Rattle.desk_tasks.specs.Judge.{verdict_report, verdict_end, rule_status, verdict}
use Rattle.desk_tasks.specs.Crew.{crew_least, crewed_report, crewed_end, crewed_status, crewed_verdict}

-- what the least broken item names is in range
pub item-names : (I : Situation) (P : PlanRows) (o : Option Broken) → o ≡ least I P → IfSome o (Names I)
item-names I P None e = tt
item-names I P (Some item) e = least-names I P item (sym e)

-- the report of a cost that is that of the plan
pub report-is : (I : Situation) (P : PlanRows) (o : Option Broken) (report : List ℕ) (found : Grains) → report ≡ verdict_report I o found.0 → found ≡ grains (cost I P) → report ≡ verdict_report I o (cost I P)
report-is I P o report found is same = is ∙ ap (λ (g : Grains). verdict_report I o g.0) same

-- these texts of files, and a report
abbrev pub texts_with : List FileText → List ℕ → Texts
texts_with files report = record { files = files; report = report }

texts_are : (I : Situation) (P : PlanRows) (o : Option Broken) (files : List FileText) (report : List ℕ) → o ≡ least I P → files ≡ [] → report ≡ verdict_report I o (cost I P) → texts_with files report ≡ (verdict I P).texts
unfolding verdict
texts_are I P o files report e none is = ap (λ (fs : List FileText). texts_with fs report) none ∙ ap (λ (r : List ℕ). texts_with [] r) (is ∙ ap (λ (o : Option Broken). verdict_report I o (cost I P)) e)

no_files : (I : Situation) (P : PlanRows) → files_of (verdict I P).texts.files ≡ []
unfolding verdict
no_files I P = refl

status_is : (I : Situation) (P : PlanRows) (o : Option Broken) → o ≡ least I P → (verdict I P).status ≡ rule_status o
unfolding verdict
status_is I P o e = ap rule_status (sym e)

end_is : (I : Situation) (P : PlanRows) (o : Option Broken) → (verdict I P).status ≡ rule_status o → IsEndOf (verdict I P) (verdict_end o)
end_is I P None e = e
end_is I P (Some item) e = e

pub judged-all : (before now : World) (I : Situation) (P : PlanRows) (o : Option Broken) (files : List FileText) (report : List ℕ) (ok : Unit {0}) → o ≡ least I P → files ≡ [] → report ≡ verdict_report I o (cost I P) → PutsOutputs before now (texts_with files report) (all_done ok) → Completes [] before now (verdict I P) (verdict_end o)
judged-all before now I P o files report ok e none is put =
    completes-all [] before now (verdict I P) (texts_with files report) (verdict_end o) ok (no_files I P) (texts_are I P o files report e none is) (end_is I P o (status_is I P o e)) put

pub judged-short : (before now : World) (I : Situation) (P : PlanRows) (o : Option Broken) (files : List FileText) (report : List ℕ) (how : Ending) → o ≡ least I P → files ≡ [] → report ≡ verdict_report I o (cost I P) → PutsOutputs before now (texts_with files report) (ended_by how) → Completes [] before now (verdict I P) how
judged-short before now I P o files report how e none is put =
    completes-short [] before now (verdict I P) (texts_with files report) how (no_files I P) (texts_are I P o files report e none is) put

-- ---- with crews

pub crewed_report-is : (I : Situation) (P : PlanRows) (cs : List CrewInfo) (o : Option Broken) (item : Option CrewBroken) (report : List ℕ) (found : Grains) → report ≡ crewed_report I o found.0 cs item → found ≡ grains (cost I P) → report ≡ crewed_report I o (cost I P) cs item
crewed_report-is I P cs o item report found is same = is ∙ ap (λ (g : Grains). crewed_report I o g.0 cs item) same

crewed_texts : (I : Situation) (P : PlanRows) (cs : List CrewInfo) (o : Option Broken) (item : Option CrewBroken) (files : List FileText) (report : List ℕ) → o ≡ least I P → item ≡ crew_least I cs P → files ≡ [] → report ≡ crewed_report I o (cost I P) cs item → texts_with files report ≡ (crewed_verdict I P cs).texts
unfolding crewed_verdict
crewed_texts I P cs o item files report e crew none is =
    ap (λ (fs : List FileText). texts_with fs report) none
    ∙ ap (λ (r : List ℕ). texts_with [] r) (is ∙ ap (λ (o : Option Broken). crewed_report I o (cost I P) cs item) e ∙ ap (λ (i : Option CrewBroken). crewed_report I (least I P) (cost I P) cs i) crew)

crewed_no_files : (I : Situation) (P : PlanRows) (cs : List CrewInfo) → files_of (crewed_verdict I P cs).texts.files ≡ []
unfolding crewed_verdict
crewed_no_files I P cs = refl

crewed_status_is : (I : Situation) (P : PlanRows) (cs : List CrewInfo) (o : Option Broken) (item : Option CrewBroken) → o ≡ least I P → item ≡ crew_least I cs P → (crewed_verdict I P cs).status ≡ crewed_status o item
unfolding crewed_verdict
crewed_status_is I P cs o item e crew = ap (λ (o : Option Broken). crewed_status o (crew_least I cs P)) (sym e) ∙ ap (λ (i : Option CrewBroken). crewed_status o i) (sym crew)

crewed_end_is : (I : Situation) (P : PlanRows) (cs : List CrewInfo) (o : Option Broken) (item : Option CrewBroken) → (crewed_verdict I P cs).status ≡ crewed_status o item → IsEndOf (crewed_verdict I P cs) (crewed_end o item)
crewed_end_is I P cs None None e = e
crewed_end_is I P cs None (Some item) e = e
crewed_end_is I P cs (Some rule) item e = e

pub crewed-all : (before now : World) (I : Situation) (P : PlanRows) (cs : List CrewInfo) (o : Option Broken) (item : Option CrewBroken) (files : List FileText) (report : List ℕ) (ok : Unit {0}) → o ≡ least I P → item ≡ crew_least I cs P → files ≡ [] → report ≡ crewed_report I o (cost I P) cs item
    → PutsOutputs before now (texts_with files report) (all_done ok) → Completes [] before now (crewed_verdict I P cs) (crewed_end o item)
crewed-all before now I P cs o item files report ok e crew none is put =
    completes-all [] before now (crewed_verdict I P cs) (texts_with files report) (crewed_end o item) ok (crewed_no_files I P cs) (crewed_texts I P cs o item files report e crew none is) (crewed_end_is I P cs o item (crewed_status_is I P cs o item e crew)) put

pub crewed-short : (before now : World) (I : Situation) (P : PlanRows) (cs : List CrewInfo) (o : Option Broken) (item : Option CrewBroken) (files : List FileText) (report : List ℕ) (how : Ending) → o ≡ least I P → item ≡ crew_least I cs P → files ≡ [] → report ≡ crewed_report I o (cost I P) cs item
    → PutsOutputs before now (texts_with files report) (ended_by how) → Completes [] before now (crewed_verdict I P cs) how
crewed-short before now I P cs o item files report how e crew none is put =
    completes-short [] before now (crewed_verdict I P cs) (texts_with files report) how (crewed_no_files I P cs) (crewed_texts I P cs o item files report e crew none is) put
