-- The rows of texts, and the batches of a day.
use Rattle.std.proofs.Common.{◌≡◌, ℕ, ◌+◌, ◌<◌, ◌≤◌, List, [], ◌∷◌, map, length, get_or, drop, refl, sym, ap, subst, ◌∙◌, add-one, suc, arith}
use Rattle.std.specs.Prelude.{Option, Some, None, Result, Ok, Err}
use Rattle.std.specs.declared.alloc.Global.{Global}
use Rattle.std.specs.declared.vec.Vec.{Vec}
use Rattle.std.proofs.Math.Seq.{drop-cons}
use Rattle.std.proofs.Math.ListN.{drop_of_length-le}
use Rattle.desk_folder.specs.declared.files.File.{File}
use Rattle.desk_folder.specs.Entries.{named_texts}
use Rattle.desk_folder.specs.Outputs.{FileText}
use Rattle.build_tables.specs.declared.files.Files.{Files}
use Rattle.build_refusals.specs.Refusals.{Refusal as Refused, refusal_of}
use Rattle.desk_build.specs.Batches.{batches_of}
use Rattle.desk_build.specs.declared.joining.Built.{Built}
use Rattle.desk_build.specs.Join.{made_of, unless_refused, built_of}
use Rattle.desk_folder.specs.Files.{day_files}
use Rattle.output_texts.specs.Generated.{text_of, generated}
use Rattle.desk_tasks.specs.declared.refusal.Refusal.{Refusal}
use Rattle.desk_tasks.specs.Inputs.{Inputs}
use Rattle.desk_text.specs.Rows.{◌>>=◌}
use Rattle.desk_tasks.specs.declared.fault.StoryFault.{StoryFault}
use Rattle.desk_tasks.specs.declared.fault.StoryFault.TheVariants as fault
use Rattle.desk_tasks.specs.declared.rows.InputRows.{InputRows}
use Rattle.desk_tasks.specs.declared.recovery.InputRecovery.{InputRecovery}
use Rattle.desk_tasks.specs.Story.{Rows, no_rows, read_as, read_texts, read_all, usual_moves, recovery_of_rows, trial_of}
use Rattle.desk_tasks.specs.Facts.{as_rows, AreInputRows, as_recovery}
use Rattle.desk_tasks.specs.StoryReading.{GivesRead, NeedsNoFault}

-- ---- a fault ends the reading, whatever would come after it

pub fault-ends : {V W X Y : Type 0} (view : V → X) (other : W → Y) (e : StoryFault) (read : Result X Refusal) (rest : X → Result Y Refusal) → NeedsNoFault e → GivesRead view (Err e) read → GivesRead other (Err e) (read >>= rest)
fault-ends view other (fault.Refused r) read rest none gives = rw gives refl
fault-ends view other (fault.ReadFault f) read rest none gives = absurd none
fault-ends view other fault.Memory read rest none gives = tt

-- ---- texts, one after another

-- the texts that are left make of these rows what all make of the first
pub record Continues (rows : InputRows) (left : List FileText) (first : Rows) (texts : List FileText) : Type 0 where
  pub exact : read_texts left (as_rows rows) ≡ read_texts texts first
  pub facts : AreInputRows rows

pub texts-left : (items : List (File × Vec ℕ Global)) (i : ℕ) (item : File × Vec ℕ Global) (text : List ℕ) → i < length items → item ≡ get_or items i item → text ≡ item.1.items → named_texts (drop i items) ≡ (item.0, text) ∷ named_texts (drop (i + 1) items)
texts-left items i item text lt at is =
    let left : drop i items ≡ item ∷ drop (i + 1) items = rw add-one (drop-cons items i item lt ∙ ap (λ (x : File × Vec ℕ Global). x ∷ drop (suc i) items) (sym at)) in
    ap named_texts left ∙ ap (λ (bytes : List ℕ). (item.0, bytes) ∷ named_texts (drop (i + 1) items)) (sym is)

pub texts-next : (rows more : InputRows) (first : Rows) (left rest texts : List FileText) (t : FileText) → left ≡ t ∷ rest → read_as t.0 t.1 (as_rows rows) ≡ Ok (as_rows more) → AreInputRows more → Continues rows left first texts → Continues more rest first texts
unfolding read_texts
texts-next rows more first left rest texts t is step facts h =
    let read : read_texts (t ∷ rest) (as_rows rows) ≡ read_texts rest (as_rows more) = rw step refl in
    record { exact = sym read ∙ ap (λ (ts : List FileText). read_texts ts (as_rows rows)) (sym is) ∙ h.exact; facts = facts }

pub texts-fault : (rows : InputRows) (first : Rows) (left rest texts : List FileText) (t : FileText) (e : StoryFault) → left ≡ t ∷ rest → NeedsNoFault e → GivesRead as_rows (Err e) (read_as t.0 t.1 (as_rows rows)) → Continues rows left first texts → GivesRead as_rows (Err e) (read_texts texts first)
unfolding read_texts
texts-fault rows first left rest texts t e is none gives h =
    subst (λ (read : Result Rows Refusal). GivesRead as_rows (Err e) read) (ap (λ (ts : List FileText). read_texts ts (as_rows rows)) (sym is) ∙ h.exact)
    (fault-ends as_rows as_rows e (read_as t.0 t.1 (as_rows rows)) (read_texts rest) none gives)

pub texts-end : (rows : InputRows) (first : Rows) (items : List (File × Vec ℕ Global)) (i : ℕ) (texts : List FileText) → length items ≤ i → Continues rows (named_texts (drop i items)) first texts → read_texts texts first ≡ Ok (as_rows rows)
unfolding read_texts
texts-end rows first items i texts le h = sym h.exact ∙ ap (λ (left : List (File × Vec ℕ Global)). read_texts (named_texts left) (as_rows rows)) (drop_of_length-le items le)

-- ---- a day that is made up

same_after : (read : Result Rows Refusal) (f g : Rows → Result Rows Refusal) → ((rows : Rows) → f rows ≡ g rows) → (read >>= f) ≡ (read >>= g)
same_after (Ok rows) f g same = same rows
same_after (Err r) f g same = refl

texts_all : (files : List File) (x : Inputs) (rows : Rows) → read_texts (map (λ name. (name, x name)) files) rows ≡ read_all files x rows
unfolding read_texts read_all
texts_all [] x rows = refl
texts_all (f ∷ files) x rows = same_after (read_as f (x f) rows) (read_texts (map (λ name. (name, x name)) files)) (read_all files x) (texts_all files x)

made_is : (seed size : ℕ) → read_texts (generated seed size) no_rows ≡ read_all day_files (text_of seed size) no_rows
unfolding generated
made_is seed size = texts_all day_files (text_of seed size) no_rows

made_first : (seed size : ℕ) (texts : List FileText) (first : Rows) → texts ≡ generated seed size → first ≡ no_rows → read_texts texts first ≡ read_all day_files (text_of seed size) no_rows
made_first seed size texts first is none = ap (λ (ts : List FileText). read_texts ts first) is ∙ ap (read_texts (generated seed size)) none ∙ made_is seed size

pub trial-read : (seed size : ℕ) (texts : List FileText) (first rows : Rows) (answer : Result InputRecovery StoryFault) → texts ≡ generated seed size → first ≡ no_rows → read_texts texts first ≡ Ok rows → GivesRead as_recovery answer (recovery_of_rows usual_moves rows) → GivesRead as_recovery answer (trial_of seed size)
unfolding trial_of
trial-read seed size texts first rows answer is none read gives =
    let made : read_all day_files (text_of seed size) no_rows ≡ Ok rows = sym (made_first seed size texts first is none) ∙ read in
    rw made gives

pub trial-unread : (seed size : ℕ) (texts : List FileText) (first : Rows) (e : StoryFault) → texts ≡ generated seed size → first ≡ no_rows → NeedsNoFault e → GivesRead as_rows (Err e) (read_texts texts first) → GivesRead as_recovery (Err e) (trial_of seed size)
unfolding trial_of
trial-unread seed size texts first e is none faultless gives =
    fault-ends as_rows as_recovery e (read_all day_files (text_of seed size) no_rows) (recovery_of_rows usual_moves) faultless
    (subst (λ (read : Result Rows Refusal). GivesRead as_rows (Err e) read) (made_first seed size texts first is none) gives)

-- ---- the batches of a day: there is one at least

made_some : (x : Files) → 1 ≤ length (made_of x).batches
unfolding batches_of
made_some x = omega arith

built_by : (o : Option Refused) (x : Files) (built : Built) → unless_refused o (made_of x) ≡ Ok built → made_of x ≡ built
built_by None x built e = cc
built_by (Some r) x built e = absurd cc

pub some-batches : (x : Files) (built : Built) → built_of x ≡ Ok built → 1 ≤ length built.batches
unfolding built_of
some-batches x built e = subst (λ (b : Built). 1 ≤ length b.batches) (built_by (refusal_of x) x built e) (made_some x)
