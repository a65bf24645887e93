-- Files in file order, and what comes of reading them so.
use Rattle.std.proofs.Common.{◌≡◌, ℕ, ◌<◌, ◌==◌, ◌&&◌, Bool, true, false, List, [], ◌∷◌, refl, sym, ap, ◌∙◌, arith, inl, inr, eqb-true, ltb-true}
use Rattle.std.specs.Prelude.{Result, Ok, Err, nat_lt}
use Rattle.std.specs.List.{list_all}
use Rattle.std.proofs.lemmas.Bool.{cases_Bool}
use Rattle.desk_folder.specs.declared.files.File.{File}
use Rattle.desk_folder.specs.Files.{file_number}
use Rattle.file_rows.specs.declared.cause.Cause.{Cause}
use Rattle.desk_tasks.specs.declared.refusal.Refusal.{Refusal}
use Rattle.desk_folder.specs.Outputs.{is_among}
use Rattle.desk_folder.proofs.Among.{among_rest, among_first}
use Rattle.desk_tasks.specs.Inputs.{Inputs}
use Rattle.desk_tasks.specs.Story.{Rows, or_refused, in_file, within_limit, with_rows, read_as, read_all}
use Rattle.desk_tasks.specs.Reading.{StandsFirst}
use Rattle.desk_tasks.specs.StoryReading.{are_in_order}

and_left : (a b : Bool) → (a && b) ≡ true → a ≡ true
and_left true b e = refl
and_left false b e = e

-- each of these comes after a place, so each one among them does
all_after : (n : ℕ) (f : File) (files : List File) → list_all (λ g. nat_lt n (file_number g)) files ≡ true → is_among f files ≡ true → n < file_number f
all_after n f [] all among = absurd (let e : false ≡ true = among in cc)
all_after n f (g ∷ files) all among =
    let first : nat_lt n (file_number g) ≡ true = and_left (nat_lt n (file_number g)) (list_all (λ h. nat_lt n (file_number h)) files) all in
    elim (cases_Bool (file_number g == file_number f)) [
      | inl same ↦ let e : file_number g ≡ file_number f = eqb-true (file_number g) (file_number f) same in omega (arith, ltb-true n (file_number g) first)
      | inr other ↦ all_after n f files (rw first at all) (rw other at among)
    ]

-- a file among those after another one has a greater place
pub numbered_after : (f g : File) (files : List File) → are_in_order (g ∷ files) ≡ true → is_among f files ≡ true → file_number g < file_number f
numbered_after f g files order among =
    all_after (file_number g) f files (and_left (list_all (λ h. nat_lt (file_number g) (file_number h)) files) (are_in_order files) order) among

-- a refusal is reported of the file that is read
reported_of : (f : File) (read : Result Rows (ℕ × Cause)) (r : Refusal) → or_refused (in_file f) read ≡ Err r → r.file ≡ f
reported_of f (Ok rows) r e = cc
reported_of f (Err at) r e = let same : in_file f at ≡ r = cc in ap (λ (r : Refusal). r.file) (sym same)

refused_is : (f : File) (bytes : List ℕ) (rows : Rows) (r : Refusal) → read_as f bytes rows ≡ Err r → r.file ≡ f
unfolding read_as
refused_is f bytes rows r e = reported_of f (within_limit f bytes (with_rows f bytes rows)) r e

-- and so of one of the files
abbrev Read : Type 0
Read = Result Rows Refusal

first_refused : (g : File) (files : List File) (x : Inputs) (rows : Rows) (r : Refusal) (read : Read) → read_as g (x g) rows ≡ read → read_all (g ∷ files) x rows ≡ Err r → ((more : Rows) → read_all files x more ≡ Err r → is_among r.file files ≡ true) → is_among r.file (g ∷ files) ≡ true
unfolding read_all
first_refused g files x rows r (Ok more) is e rest = among_rest r.file g files (rest more (rw is at e))
first_refused g files x rows r (Err why) is e rest = among_first r.file g files (refused_is g (x g) rows r (is ∙ (rw is at e)))

pub refused_among : (files : List File) (x : Inputs) (rows : Rows) (r : Refusal) → read_all files x rows ≡ Err r → is_among r.file files ≡ true
unfolding read_all
refused_among [] x rows r e = cc
refused_among (g ∷ files) x rows r e = first_refused g files x rows r (read_as g (x g) rows) refl e (λ more. refused_among files x more r)

-- where the first of the files can't be read, no file before it is refused
stands : (f g : File) (files : List File) (x : Inputs) (more : Rows) (read : Read) → read_all files x more ≡ read → file_number f ≡ file_number g → are_in_order (g ∷ files) ≡ true → StandsFirst f read
stands f g files x more (Ok rows) is same order = tt
stands f g files x more (Err r) is same order = omega (arith, numbered_after r.file g files order (refused_among files x more r is), same)

first_stands : (f g : File) (files : List File) (x : Inputs) (rows : Rows) (read : Read) → read_as g (x g) rows ≡ read → file_number f ≡ file_number g → are_in_order (g ∷ files) ≡ true → StandsFirst f read → StandsFirst f (read_all (g ∷ files) x rows)
unfolding read_all
first_stands f g files x rows (Ok more) is same order h = rw is (stands f g files x more (read_all files x more) refl same order)
first_stands f g files x rows (Err r) is same order h = rw is h

pub stands-first : (f g : File) (files : List File) (x : Inputs) (rows : Rows) → file_number f ≡ file_number g → are_in_order (g ∷ files) ≡ true → StandsFirst f (read_as g (x g) rows) → StandsFirst f (read_all (g ∷ files) x rows)
stands-first f g files x rows same order h = first_stands f g files x rows (read_as g (x g) rows) refl same order h
