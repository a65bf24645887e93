-- What came of a history is written, or reported alone.
use Rattle.std.proofs.Common.{◌≡◌, ℕ, true, List, [], refl, sym, ap, ◌∙◌}
use Rattle.std.specs.Prelude.{Option, Some, None}
use Rattle.desk_folder.specs.Outputs.{files_of, are_different}
use Rattle.desk_data.specs.declared.broken.Broken.{Broken}
use Rattle.desk_data.specs.Situation.{Situation}
use Rattle.desk_core.specs.Recorded.{Recorded, state_of}
use Rattle.desk_tasks.specs.declared.ending.Ending.{Ending}
use Rattle.desk_tasks.specs.Commands.{history_files}
use Rattle.desk_tasks.specs.Outcome.{Texts, Outcome}
use Rattle.desk_tasks.specs.Runs.{World}
use Rattle.desk_tasks.specs.Writing.{PutsOutputs}
use Rattle.desk_tasks.specs.Finishing.{IsEndOf, Completes}
use Rattle.desk_tasks.proofs.PutLaws.{all_done, ended_by}
use Rattle.desk_tasks.proofs.CompleteLaws.{completes-all, completes-short}
use Rattle.near_moves.specs.declared.ended.SearchEnd.{SearchEnd}
use Rattle.desk_tasks.specs.Play.{Remarks, seen_lines, search_remarks, watch_remarks, history_outcome, played_end, plan_status}
use Rattle.desk_tasks.specs.Recover.{reported_alone}
use Rattle.desk_tasks.specs.Keep.{opened_first}
use Rattle.desk_tasks.proofs.FilesLaw.{history-files}

-- what the book's history comes to, with these remarks, and what its report comes to alone
abbrev pub outcome_of : Recorded → Remarks → Outcome
outcome_of B remarks = history_outcome B.opening remarks B.journal

abbrev pub alone : Recorded → Option SearchEnd → Outcome
alone B search = reported_alone (outcome_of B (search_remarks search))

-- where nobody watched no view is reported
pub unwatched : (I : Situation) (search : Option SearchEnd) → watch_remarks I search [] ≡ search_remarks search
unfolding seen_lines
unwatched I search = refl

alone_files : (B : Recorded) (search : Option SearchEnd) → files_of (alone B search).texts.files ≡ []
unfolding reported_alone
alone_files B search = refl

status_is : (B : Recorded) (remarks : Remarks) → (outcome_of B remarks).status ≡ plan_status (state_of B).broken
unfolding history_outcome
status_is B remarks = refl

alone_status : (B : Recorded) (search : Option SearchEnd) → (alone B search).status ≡ (outcome_of B (search_remarks search)).status
unfolding reported_alone
alone_status B search = refl

pub files-differ : (B : Recorded) (remarks : Remarks) (t : Texts) → t ≡ (outcome_of B remarks).texts → are_different (files_of t.files) ≡ true
files-differ B remarks t is = ap (λ (t : Texts). are_different (files_of t.files)) is ∙ ap are_different (history-files B.opening remarks B.journal)

pub none-differ : (B : Recorded) (search : Option SearchEnd) (t : Texts) → t ≡ (alone B search).texts → are_different (files_of t.files) ≡ true
none-differ B search t is = ap (λ (t : Texts). are_different (files_of t.files)) is ∙ ap are_different (alone_files B search)

end_is : (o : Outcome) (b : Option Broken) → o.status ≡ plan_status b → IsEndOf o (played_end b)
end_is o None e = e
end_is o (Some item) e = e

pub history-all : (before now : World) (B : Recorded) (remarks : Remarks) (t : Texts) (b : Option Broken) (ok : Unit {0}) → t ≡ (outcome_of B remarks).texts → b ≡ (state_of B).broken → PutsOutputs before now t (all_done ok) → Completes history_files before now (outcome_of B remarks) (played_end b)
history-all before now B remarks t b ok is broken put =
    completes-all history_files before now (outcome_of B remarks) t (played_end b) ok (history-files B.opening remarks B.journal) is
    (end_is (outcome_of B remarks) b (status_is B remarks ∙ ap plan_status (sym broken))) put

pub history-short : (before now : World) (B : Recorded) (remarks : Remarks) (t : Texts) (how : Ending) → t ≡ (outcome_of B remarks).texts → PutsOutputs before now t (ended_by how) → Completes history_files before now (outcome_of B remarks) how
history-short before now B remarks t how is put = completes-short history_files before now (outcome_of B remarks) t how (history-files B.opening remarks B.journal) is put

pub alone-all : (before now : World) (B : Recorded) (search : Option SearchEnd) (t : Texts) (b : Option Broken) (ok : Unit {0}) → t ≡ (alone B search).texts → b ≡ (state_of B).broken → PutsOutputs before now t (all_done ok) → Completes [] before now (alone B search) (played_end b)
alone-all before now B search t b ok is broken put =
    completes-all [] before now (alone B search) t (played_end b) ok (alone_files B search) is
    (end_is (alone B search) b (alone_status B search ∙ status_is B (search_remarks search) ∙ ap plan_status (sym broken))) put

pub alone-short : (before now : World) (B : Recorded) (search : Option SearchEnd) (t : Texts) (how : Ending) → t ≡ (alone B search).texts → PutsOutputs before now t (ended_by how) → Completes [] before now (alone B search) how
alone-short before now B search t how is put = completes-short [] before now (alone B search) t how (alone_files B search) is put

-- ---- with how many entries a disk held

abbrev pub opened : Recorded → ℕ → Outcome
opened B held = opened_first held (outcome_of B (search_remarks None))

opened_files : (B : Recorded) (held : ℕ) → files_of (opened B held).texts.files ≡ history_files
unfolding opened_first
opened_files B held = history-files B.opening (search_remarks None) B.journal

opened_status : (B : Recorded) (held : ℕ) → (opened B held).status ≡ plan_status (state_of B).broken
unfolding opened_first
opened_status B held = status_is B (search_remarks None)

pub opened-differ : (B : Recorded) (held : ℕ) (t : Texts) → t ≡ (opened B held).texts → are_different (files_of t.files) ≡ true
opened-differ B held t is = ap (λ (t : Texts). are_different (files_of t.files)) is ∙ ap are_different (opened_files B held)

pub opened-all : (before now : World) (B : Recorded) (held : ℕ) (t : Texts) (b : Option Broken) (ok : Unit {0}) → t ≡ (opened B held).texts → b ≡ (state_of B).broken → PutsOutputs before now t (all_done ok) → Completes history_files before now (opened B held) (played_end b)
opened-all before now B held t b ok is broken put =
    completes-all history_files before now (opened B held) t (played_end b) ok (opened_files B held) is
    (end_is (opened B held) b (opened_status B held ∙ ap plan_status (sym broken))) put

pub opened-short : (before now : World) (B : Recorded) (held : ℕ) (t : Texts) (how : Ending) → t ≡ (opened B held).texts → PutsOutputs before now t (ended_by how) → Completes history_files before now (opened B held) how
opened-short before now B held t how is put = completes-short history_files before now (opened B held) t how (opened_files B held) is put
