-- What is written of the legs that are added to a plan, and how a run ends that wrote it.
use Rattle.std.proofs.Common.{◌≡◌, ℕ, ◌+◌, ◌-◌, ◌<◌, ◌≤◌, List, [], ◌∷◌, ◌++◌, length, get_or, take, refl, sym, ap, subst, ◌∙◌, arith, All, append_assoc}
use Rattle.std.specs.Prelude.{Option, Some, None, codes, decimal}
use Rattle.std.specs.List.{flat_map}
use Rattle.std.proofs.lemmas.List.Elements.{All-nil, All-cons, All-head, All-tail}
use Rattle.std.proofs.lemmas.List.{length-append, length-map, map-append, take_all, take_at, get_or_at}
use Rattle.desk_data.specs.declared.broken.Broken.{Broken}
use Rattle.desk_data.specs.Situation.{Situation, legs_of}
use Rattle.desk_data.specs.PlanRows.{PlanRows}
use Rattle.desk_data.specs.Valid.{IsValid}
use Rattle.desk_folder.specs.declared.files.File.TheVariants.{SolAdded}
use Rattle.desk_rules.specs.Least.{least}
use Rattle.desk_rules.specs.Cost.{cost, grains}
use Rattle.desk_units.specs.declared.money.Grains.{Grains}
use Rattle.desk_folder.specs.Outputs.{FileText, files_of}
use Rattle.added_legs.specs.declared.added.Added.{Added}
use Rattle.added_legs.specs.Added.{cost_added}
use Rattle.added_legs.specs.Ferried.{with_added}
use Rattle.added_legs.specs.Merged.{IsAdded}
use Rattle.added_legs.proofs.EmptyLaws.{same_cost}
use Rattle.added_legs.proofs.FerriedLaws.{only_one}
use Rattle.ferry_legs.specs.declared.ferried.Ferried.{Ferried}
use Rattle.ferry_legs.specs.Ferried.{added_of, AreFerried}
use Rattle.output_texts.specs.FerryText.{added_line, added_text, reported_line}
use Rattle.desk_tasks.specs.declared.ending.Ending.{Ending}
use Rattle.desk_tasks.specs.Outcome.{line, Texts}
use Rattle.desk_tasks.specs.Runs.{World}
use Rattle.desk_tasks.specs.Writing.{PutsOutputs}
use Rattle.desk_tasks.specs.Finishing.{IsEndOf, Completes}
use Rattle.desk_tasks.proofs.PutLaws.{all_done, ended_by}
use Rattle.desk_tasks.proofs.CompleteLaws.{completes-all, completes-short}
use Rattle.desk_tasks.specs.Judge.{rule_status, verdict_end}
use Rattle.desk_tasks.specs.Ferry.{ferried, ferried_lines, ferried_report, ferry_file, ferry_report, ferry_outcome}
use Rattle.desk_tasks.proofs.FerryLaw.{ferried_is}
use Rattle.desk_tasks.specs.Lines.{line_of, report_line_of}

-- these texts of files, and a report
abbrev pub texts_with : List FileText → List ℕ → Texts
texts_with files report = record { files = files; report = report }

-- ---- the lines

-- a list with its costs, from the legs before it on
abbrev HasCosts : Situation → PlanRows → List Ferried → Type 0
HasCosts I P list = (k : ℕ) (f : Ferried) → k < length list → (get_or list k f).cost ≡ grains (cost_added I P (take (k + 1) (added_of list)))

pub file_is : (I : Situation) (P : PlanRows) (list : List Ferried) → flat_map (line_of I P) list ≡ added_text I P (added_of list)
unfolding added_text
file_is I P [] = refl
file_is I P (f ∷ list) = ap (λ (text : List ℕ). added_line I P f.leg ++ text) (file_is I P list)

-- the legs of a list in the middle of which one stands
split : (done : List Ferried) (f : Ferried) (rest : List Ferried) → added_of (done ++ f ∷ rest) ≡ with_added (added_of done) f.leg ++ added_of rest
split done f rest = map-append (λ (f : Ferried). f.leg) done (f ∷ rest) ∙ sym (append_assoc (added_of done) (f.leg ∷ []) (added_of rest))

cost_here : (I : Situation) (P : PlanRows) (done : List Ferried) (f : Ferried) (rest : List Ferried) → HasCosts I P (done ++ f ∷ rest) → f.cost ≡ grains (cost_added I P (with_added (added_of done) f.leg))
cost_here I P done f rest h =
    let long : length (added_of done) ≡ length done = length-map done (λ (f : Ferried). f.leg) in
    ap (λ (f : Ferried). f.cost) (sym (get_or_at done f rest f (length done) refl))
    ∙ h (length done) f (omega (arith, length-append done (f ∷ rest)))
    ∙ ap (λ (A : List Added). grains (cost_added I P A))
    (ap (take (length done + 1)) (split done f rest)
    ∙ take_at (with_added (added_of done) f.leg) (added_of rest) (length done + 1) (length-append (added_of done) (f.leg ∷ []) ∙ omega (arith, long)))

lines_from : (I : Situation) (P : PlanRows) (done rest : List Ferried) → HasCosts I P (done ++ rest) → flat_map (report_line_of I P) rest ≡ ferried_lines I P (added_of done) (added_of rest)
unfolding ferried_lines
lines_from I P done [] h = refl
lines_from I P done (f ∷ rest) h =
    let more : flat_map (report_line_of I P) rest ≡ ferried_lines I P (added_of (done ++ f ∷ [])) (added_of rest) =
    lines_from I P (done ++ f ∷ []) rest (subst (HasCosts I P) (sym (append_assoc done (f ∷ []) rest)) h) in
    ap (λ (cost : Grains). reported_line I P f.leg cost.0 ++ flat_map (report_line_of I P) rest) (cost_here I P done f rest h)
    ∙ ap (λ (text : List ℕ). reported_line I P f.leg (cost_added I P (with_added (added_of done) f.leg)) ++ text)
    (more ∙ ap (λ (A : List Added). ferried_lines I P A (added_of rest)) (map-append (λ (f : Ferried). f.leg) done (f ∷ [])))

pub lines_are : (I : Situation) (P : PlanRows) (list : List Ferried) → AreFerried I P list → flat_map (report_line_of I P) list ≡ ferried_lines I P [] (added_of list)
lines_are I P list h = lines_from I P [] list h.costs

pub all_added : (I : Situation) (P : PlanRows) (list : List Ferried) → All (IsAdded I P) (added_of list) → All (λ (f : Ferried). IsAdded I P f.leg) list
all_added I P [] h = All-nil (λ (f : Ferried). IsAdded I P f.leg)
all_added I P (f ∷ list) h =
    All-cons (λ (f : Ferried). IsAdded I P f.leg) f list (All-head (IsAdded I P) f.leg (added_of list) h) (all_added I P list (All-tail (IsAdded I P) f.leg (added_of list) h))

-- ---- the cost with all of them

cost_of : (I : Situation) (P : PlanRows) (list : List Ferried) (alone found : Grains) → IsValid I → length P.rows ≡ legs_of I → AreFerried I P list → alone ≡ grains (cost I P)
    → (length list ≡ 0 → found ≡ alone) → ((f : Ferried) → 1 ≤ length list → found ≡ (get_or list (length list - 1) f).cost) → found ≡ grains (cost_added I P (added_of list))
cost_of I P [] alone found valid all h is none some = none refl ∙ is ∙ ap grains (sym (same_cost I P valid all))
cost_of I P (f ∷ list) alone found valid all h is none some =
    let long : length (added_of (f ∷ list)) ≡ length (f ∷ list) = length-map (f ∷ list) (λ (f : Ferried). f.leg) in
    some f (omega arith) ∙ h.costs (length (f ∷ list) - 1) f (omega arith)
    ∙ ap (λ (A : List Added). grains (cost_added I P A)) (take_all (length (f ∷ list) - 1 + 1) (added_of (f ∷ list)) (omega (arith, long)))

-- ---- both texts

same_list : (I : Situation) (P : PlanRows) (list : List Ferried) → AreFerried I P list → added_of list ≡ ferried I P
same_list I P list h = only_one I P (added_of list) (ferried I P) h.legs (ferried_is I P)

pub file_made : (I : Situation) (P : PlanRows) (list : List Ferried) (text : List ℕ) → AreFerried I P list → text ≡ flat_map (line_of I P) list → text ≡ added_text I P (ferried I P)
file_made I P list text h is = is ∙ file_is I P list ∙ ap (added_text I P) (same_list I P list h)

report_with : (I : Situation) (P : PlanRows) (A : List Added) → ferried_lines I P [] A ++ (line (codes "ended quiet") ++ line (codes "cost " ++ decimal (cost_added I P A))) ≡ ferried_report I P A
unfolding ferried_report
report_with I P A = sym (append_assoc (ferried_lines I P [] A) (line (codes "ended quiet")) (line (codes "cost " ++ decimal (cost_added I P A))))

pub report_made : (I : Situation) (P : PlanRows) (list : List Ferried) (alone found : Grains) (lines text : List ℕ) → IsValid I → length P.rows ≡ legs_of I → AreFerried I P list → alone ≡ grains (cost I P)
    → (length list ≡ 0 → found ≡ alone) → ((f : Ferried) → 1 ≤ length list → found ≡ (get_or list (length list - 1) f).cost)
    → lines ≡ flat_map (report_line_of I P) list → text ≡ lines ++ (line (codes "ended quiet") ++ line (codes "cost " ++ decimal found.0)) → text ≡ ferried_report I P (ferried I P)
report_made I P list alone found lines text valid all h is none some told made =
    made
    ∙ ap (λ (lines : List ℕ). lines ++ (line (codes "ended quiet") ++ line (codes "cost " ++ decimal found.0))) (told ∙ lines_are I P list h)
    ∙ ap (λ (cost : Grains). ferried_lines I P [] (added_of list) ++ (line (codes "ended quiet") ++ line (codes "cost " ++ decimal cost.0))) (cost_of I P list alone found valid all h is none some)
    ∙ report_with I P (added_of list)
    ∙ ap (ferried_report I P) (same_list I P list h)

-- ---- what is written

pub outputs_are : (I : Situation) (P : PlanRows) (file report : List ℕ) → file ≡ ferry_file I P (least I P) → report ≡ ferry_report I P (least I P) → texts_with ((SolAdded, file) ∷ []) report ≡ (ferry_outcome I P).texts
unfolding ferry_outcome
outputs_are I P file report is told =
    ap (λ (text : List ℕ). texts_with ((SolAdded, text) ∷ []) report) is ∙ ap (λ (text : List ℕ). texts_with ((SolAdded, ferry_file I P (least I P)) ∷ []) text) told

-- ---- how a run ends

the_file : (I : Situation) (P : PlanRows) → files_of (ferry_outcome I P).texts.files ≡ SolAdded ∷ []
unfolding ferry_outcome
the_file I P = refl

status_is : (I : Situation) (P : PlanRows) (o : Option Broken) → o ≡ least I P → (ferry_outcome I P).status ≡ rule_status o
unfolding ferry_outcome
status_is I P o e = ap rule_status (sym e)

end_is : (I : Situation) (P : PlanRows) (o : Option Broken) → (ferry_outcome I P).status ≡ rule_status o → IsEndOf (ferry_outcome I P) (verdict_end o)
end_is I P None e = e
end_is I P (Some item) e = e

pub one_file : (I : Situation) (P : PlanRows) (t : Texts) → t ≡ (ferry_outcome I P).texts → files_of t.files ≡ SolAdded ∷ []
one_file I P t is = ap (λ (t : Texts). files_of t.files) is ∙ the_file I P

pub ferried-all : (before now : World) (I : Situation) (P : PlanRows) (o : Option Broken) (t : Texts) (ok : Unit {0}) → o ≡ least I P → t ≡ (ferry_outcome I P).texts → PutsOutputs before now t (all_done ok) → Completes (SolAdded ∷ []) before now (ferry_outcome I P) (verdict_end o)
ferried-all before now I P o t ok e is put = completes-all (SolAdded ∷ []) before now (ferry_outcome I P) t (verdict_end o) ok (the_file I P) is (end_is I P o (status_is I P o e)) put

pub ferried-short : (before now : World) (I : Situation) (P : PlanRows) (t : Texts) (how : Ending) → t ≡ (ferry_outcome I P).texts → PutsOutputs before now t (ended_by how) → Completes (SolAdded ∷ []) before now (ferry_outcome I P) how
ferried-short before now I P t how is put = completes-short (SolAdded ∷ []) before now (ferry_outcome I P) t how (the_file I P) is put
