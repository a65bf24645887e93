use Rattle.std.proofs.Common.{◌≡◌, true, List, ◌∷◌, sym, subst}
use Rattle.std.specs.Prelude.{Result, Ok, Err, OnOk, IfErr}
use Rattle.desk_folder.specs.declared.files.File.{File}
use Rattle.desk_tasks.specs.declared.rows.InputRows.{InputRows}
use Rattle.desk_tasks.specs.declared.fault.StoryFault.{StoryFault}
use Rattle.desk_folder.specs.Outputs.{is_among}
use Rattle.desk_tasks.specs.Inputs.{Tells}
use Rattle.desk_tasks.specs.Story.{read_all}
use Rattle.desk_tasks.specs.Reading.{IsRead, ReadsAmong}
use Rattle.desk_tasks.specs.StoryReading.{are_in_order, StopsAtFault, GivesRead, HasReadCause}
use Rattle.desk_tasks.specs.Facts.{as_rows}
use Rattle.desk_tasks.proofs.Chain.{tells-rest, tells-first, exact-rest, exact-first, all-read, reads-first, reads-rest, order-first, order-rest, stops-first, stops-rest}
use Rattle.desk_tasks.proofs.story_files.+read_files.Goals as goal

-- what follows at Ok, from what is known there
on_ok : {A B : Type 0} (answer : Result InputRows StoryFault) → (A → B) → OnOk answer A → OnOk answer B
on_ok (Ok rows) f h = f h
on_ok (Err e) f h = tt

pub returns-in-Err-clause-only : goal.returns-in-Err-clause-only
returns-in-Err-clause-only g t c =
    let outside = g.F.Folder.outside in
    subst (λ (fs : List File). ReadsAmong fs (outside c.args.folder.now) (outside c.read_one.new.folder)) (sym c.in-Some.ensures)
    (reads-first c.in-Some.file c.in-Some.others.now (outside c.args.folder.now) (outside c.read_one.new.folder) c.read_one.ensures.only c.read_one.ensures.kept c.read_one.ensures.few)

pub returns-clause-only : goal.returns-clause-only
returns-clause-only g t c =
    let outside = g.F.Folder.outside in
    let order : are_in_order (c.in-Some.file ∷ c.in-Some.others.now) ≡ true = subst (λ (fs : List File). are_in_order fs ≡ true) c.in-Some.ensures c.requires.order in
    subst (λ (fs : List File). ReadsAmong fs (outside c.args.folder.now) (outside c.read_files.new.folder)) (sym c.in-Some.ensures)
    (reads-rest c.in-Some.file c.in-Some.others.now (outside c.args.folder.now) (outside c.read_one.new.folder) (outside c.read_files.new.folder) order
    c.read_one.ensures.only c.read_one.ensures.kept c.read_one.ensures.few c.read_files.ensures.only)

pub returns-clause-read : goal.returns-clause-read
returns-clause-read g t c =
    let outside = g.F.Folder.outside in
    let order : are_in_order (c.in-Some.file ∷ c.in-Some.others.now) ≡ true = subst (λ (fs : List File). are_in_order fs ≡ true) c.in-Some.ensures c.requires.order in
    on_ok c.read_files.result (λ rest.
    subst (λ (fs : List File). (f : File) → is_among f fs ≡ true → IsRead (outside c.args.folder.now) (outside c.read_files.new.folder) f) (sym c.in-Some.ensures)
    (all-read c.in-Some.file c.in-Some.others.now (outside c.args.folder.now) (outside c.read_one.new.folder) (outside c.read_files.new.folder) order
    c.read_one.ensures.only c.in-Ok.ensures.read c.read_files.ensures.only rest))
    c.read_files.ensures.read

pub returns-in-Err-clause-exact : goal.returns-in-Err-clause-exact
returns-in-Err-clause-exact g t c = λ x tells.
    let outside = g.F.Folder.outside in
    let order : are_in_order (c.in-Some.file ∷ c.in-Some.others.now) ≡ true = subst (λ (fs : List File). are_in_order fs ≡ true) c.in-Some.ensures c.requires.order in
    let given : Tells (c.in-Some.file ∷ c.in-Some.others.now) (outside c.args.folder.now) x = subst (λ (fs : List File). Tells fs (outside c.args.folder.now) x) c.in-Some.ensures tells in
    subst (λ (fs : List File). GivesRead as_rows (Err c.in-Err.fault) (read_all fs x (as_rows c.args.rows))) (sym c.in-Some.ensures)
    (exact-first c.in-Some.file c.in-Some.others.now (outside c.args.folder.now) (outside c.read_one.new.folder) x (as_rows c.args.rows) c.in-Err.fault order
    c.in-Err.ensures.cause (c.in-Err.ensures.exact (x c.in-Some.file) (tells-first c.in-Some.file c.in-Some.others.now (outside c.args.folder.now) x given)))

pub returns-clause-exact : goal.returns-clause-exact
returns-clause-exact g t c = λ x tells.
    let outside = g.F.Folder.outside in
    let order : are_in_order (c.in-Some.file ∷ c.in-Some.others.now) ≡ true = subst (λ (fs : List File). are_in_order fs ≡ true) c.in-Some.ensures c.requires.order in
    let given : Tells (c.in-Some.file ∷ c.in-Some.others.now) (outside c.args.folder.now) x = subst (λ (fs : List File). Tells fs (outside c.args.folder.now) x) c.in-Some.ensures tells in
    subst (λ (fs : List File). GivesRead as_rows c.read_files.result (read_all fs x (as_rows c.args.rows))) (sym c.in-Some.ensures)
    (exact-rest c.in-Some.file c.in-Some.others.now x (as_rows c.args.rows) (as_rows c.in-Ok.rows) c.read_files.result
    (c.in-Ok.ensures.exact (x c.in-Some.file) (tells-first c.in-Some.file c.in-Some.others.now (outside c.args.folder.now) x given))
    (c.read_files.ensures.exact x (tells-rest c.in-Some.file c.in-Some.others.now (outside c.args.folder.now) (outside c.read_one.new.folder) x order c.read_one.ensures.only given)))

pub returns-in-Err-clause-in_order : goal.returns-in-Err-clause-in_order
returns-in-Err-clause-in_order g t c = λ x tells r refused.
    let outside = g.F.Folder.outside in
    let order : are_in_order (c.in-Some.file ∷ c.in-Some.others.now) ≡ true = subst (λ (fs : List File). are_in_order fs ≡ true) c.in-Some.ensures c.requires.order in
    order-first c.in-Some.file c.in-Some.others.now (outside c.args.folder.now) (outside c.read_one.new.folder) x (as_rows c.args.rows) r order c.read_one.ensures.only
    (subst (λ (fs : List File). read_all fs x (as_rows c.args.rows) ≡ Err r) c.in-Some.ensures refused)

pub returns-clause-in_order : goal.returns-clause-in_order
returns-clause-in_order g t c = λ x tells r refused.
    let outside = g.F.Folder.outside in
    let order : are_in_order (c.in-Some.file ∷ c.in-Some.others.now) ≡ true = subst (λ (fs : List File). are_in_order fs ≡ true) c.in-Some.ensures c.requires.order in
    let given : Tells (c.in-Some.file ∷ c.in-Some.others.now) (outside c.args.folder.now) x = subst (λ (fs : List File). Tells fs (outside c.args.folder.now) x) c.in-Some.ensures tells in
    order-rest c.in-Some.file c.in-Some.others.now (outside c.args.folder.now) (outside c.read_one.new.folder) (outside c.read_files.new.folder) x (as_rows c.args.rows) (as_rows c.in-Ok.rows) r order
    c.read_one.ensures.only (c.in-Ok.ensures.exact (x c.in-Some.file) (tells-first c.in-Some.file c.in-Some.others.now (outside c.args.folder.now) x given))
    (c.read_files.ensures.in_order x (tells-rest c.in-Some.file c.in-Some.others.now (outside c.args.folder.now) (outside c.read_one.new.folder) x order c.read_one.ensures.only given) r)
    (subst (λ (fs : List File). read_all fs x (as_rows c.args.rows) ≡ Err r) c.in-Some.ensures refused)

pub returns-in-Err-clause-stops : goal.returns-in-Err-clause-stops
returns-in-Err-clause-stops g t c =
    let outside = g.F.Folder.outside in
    stops-first c.in-Some.file (outside c.args.folder.now) (outside c.read_one.new.folder) c.in-Err.fault c.read_one.ensures.only c.in-Err.ensures.cause

-- what follows of an error, from two facts that are known of it
on_err : {A B C : StoryFault → Type 0} (answer : Result InputRows StoryFault) → ((e : StoryFault) → A e → B e → C e) → IfErr answer A → IfErr answer B → IfErr answer C
on_err (Ok rows) f h k = h
on_err (Err e) f h k = f e h k

pub returns-clause-stops : goal.returns-clause-stops
returns-clause-stops g t c =
    let outside = g.F.Folder.outside in
    let order : are_in_order (c.in-Some.file ∷ c.in-Some.others.now) ≡ true = subst (λ (fs : List File). are_in_order fs ≡ true) c.in-Some.ensures c.requires.order in
    on_err {A = HasReadCause c.in-Some.others.now (outside c.read_one.new.folder) (outside c.read_files.new.folder)} {B = StopsAtFault (outside c.read_one.new.folder) (outside c.read_files.new.folder)}
    {C = StopsAtFault (outside c.args.folder.now) (outside c.read_files.new.folder)} c.read_files.result
    (λ e. stops-rest c.in-Some.file c.in-Some.others.now (outside c.args.folder.now) (outside c.read_one.new.folder) (outside c.read_files.new.folder) e order c.read_one.ensures.only)
    c.read_files.ensures.cause c.read_files.ensures.stops
