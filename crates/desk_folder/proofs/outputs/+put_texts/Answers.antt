use Rattle.std.proofs.Common.{◌≡◌, ℕ, true, List, ◌∷◌, ap, sym, subst}
use Rattle.std.specs.declared.alloc.Global.{Global}
use Rattle.std.specs.declared.vec.Vec.{Vec}
use Rattle.desk_folder.specs.declared.files.File.{File}
use Rattle.desk_folder.specs.declared.faults.FolderFault.TheVariants as call
use Rattle.desk_folder.specs.Entries.{named_texts}
use Rattle.desk_folder.specs.Texts.{PutsText}
use Rattle.desk_folder.specs.Outputs.{FileText, files_of, are_different, PutsTexts}
use Rattle.desk_folder.proofs.PutAll.{done_with, ended_by, failed_at, no_memory, puts-rest, puts-failed, puts-memory}
use Rattle.desk_folder.proofs.outputs.+put_texts.Goals as goal

-- a file and a text that lies in memory, as one of the texts
abbrev text_of : File × Vec ℕ Global → FileText
text_of t = (t.0, t.1.items)

names_first : (all others : List (File × Vec ℕ Global)) (first : File × Vec ℕ Global) → all ≡ first ∷ others → named_texts all ≡ text_of first ∷ named_texts others
names_first all others first is = ap named_texts is

pub returns-in-Err-Failed : goal.returns-in-Err-Failed
returns-in-Err-Failed g m c =
    let outside = g.F.Folder.outside in
    let first = text_of c.in-Some.text.now in
    let others = named_texts c.in-Some.others.now in
    let is = names_first c.args.texts.now c.in-Some.others.now c.in-Some.text.now c.in-Some.ensures in
    subst (λ (ts : List FileText). PutsTexts (outside c.args.folder.now) (outside c.put_text.new.folder) ts (failed_at first.0)) (sym is)
    (puts-failed first others (outside c.args.folder.now) (outside c.put_text.new.folder)
    (subst (λ (ts : List FileText). are_different (files_of ts) ≡ true) is c.requires)
    (subst (λ (bytes : List ℕ). PutsText (outside c.args.folder.now) (outside c.put_text.new.folder) first.0 bytes (ended_by call.Failed)) c.as_slice.ensures.value (rw c.in-Err-Failed.field-0-is at c.in-Err-Failed.ensures)))

pub returns-in-Err-Memory : goal.returns-in-Err-Memory
returns-in-Err-Memory g m c =
    let outside = g.F.Folder.outside in
    let first = text_of c.in-Some.text.now in
    let others = named_texts c.in-Some.others.now in
    let is = names_first c.args.texts.now c.in-Some.others.now c.in-Some.text.now c.in-Some.ensures in
    subst (λ (ts : List FileText). PutsTexts (outside c.args.folder.now) (outside c.put_text.new.folder) ts no_memory) (sym is)
    (puts-memory first others (outside c.args.folder.now) (outside c.put_text.new.folder)
    (subst (λ (ts : List FileText). are_different (files_of ts) ≡ true) is c.requires)
    (subst (λ (bytes : List ℕ). PutsText (outside c.args.folder.now) (outside c.put_text.new.folder) first.0 bytes (ended_by call.Memory)) c.as_slice.ensures.value (rw c.in-Err-Memory.field-0-is at c.in-Err-Memory.ensures)))

pub returns : goal.returns
returns g m c =
    let outside = g.F.Folder.outside in
    let first = text_of c.in-Some.text.now in
    let others = named_texts c.in-Some.others.now in
    let is = names_first c.args.texts.now c.in-Some.others.now c.in-Some.text.now c.in-Some.ensures in
    subst (λ (ts : List FileText). PutsTexts (outside c.args.folder.now) (outside c.put_texts.new.folder) ts c.put_texts.result) (sym is)
    (puts-rest first others (outside c.args.folder.now) (outside c.put_text.new.folder) (outside c.put_texts.new.folder) c.in-Ok.field-0 c.put_texts.result
    (subst (λ (ts : List FileText). are_different (files_of ts) ≡ true) is c.requires)
    (subst (λ (bytes : List ℕ). PutsText (outside c.args.folder.now) (outside c.put_text.new.folder) first.0 bytes (done_with c.in-Ok.field-0)) c.as_slice.ensures.value c.in-Ok.ensures)
    c.put_texts.ensures)
