-- Files that are among others.
use Rattle.std.proofs.Common.{◌≡◌, ◌≢◌, ◌⊎◌, ◌==◌, ◌&&◌, Bool, true, false, List, ◌∷◌, refl, sym, ap, ◌∙◌, inl, inr, eqb-true, eq-eqb}
use Rattle.std.specs.Prelude.{not}
use Rattle.std.proofs.lemmas.Bool.{cases_Bool}
use Rattle.desk_folder.specs.declared.files.File.{File}
use Rattle.desk_folder.specs.Files.{file_number}
use Rattle.desk_folder.proofs.FileLemmas.{same_number}
use Rattle.desk_folder.specs.Outputs.{is_among, are_different}

-- the same file, or another
pub same_or_other : (f g : File) → (f ≡ g) ⊎ (f ≢ g)
same_or_other f g = elim (cases_Bool (file_number g == file_number f)) [
  | inl same ↦ inl (same_number f g (sym (eqb-true (file_number g) (file_number f) same)))
  | inr other ↦ inr (λ e. let t : (file_number g == file_number f) ≡ true = eq-eqb (file_number g) (file_number f) (ap file_number (sym e)) in let no : true ≡ false = sym t ∙ other in cc)
]

pub among_rest : (f g : File) (files : List File) → is_among f files ≡ true → is_among f (g ∷ files) ≡ true
among_rest f g files e = elim (cases_Bool (file_number g == file_number f)) [
  | inl same ↦ rw same refl
  | inr other ↦ rw (other, e) refl
]

pub among_first : (f g : File) (files : List File) → f ≡ g → is_among f (g ∷ files) ≡ true
among_first f g files e = rw (eq-eqb (file_number g) (file_number f) (ap file_number (sym e))) refl

pub not_first : (f g : File) (files : List File) → is_among f (g ∷ files) ≡ false → f ≢ g
not_first f g files e same = let t : is_among f (g ∷ files) ≡ true = among_first f g files same in let no : true ≡ false = sym t ∙ e in cc

pub not_rest : (f g : File) (files : List File) → is_among f (g ∷ files) ≡ false → is_among f files ≡ false
not_rest f g files e = elim (cases_Bool (is_among f files)) [
  | inl t ↦ let all : is_among f (g ∷ files) ≡ true = among_rest f g files t in absurd (let no : true ≡ false = sym all ∙ e in cc)
  | inr t ↦ t
]

pub among_either : (f g : File) (files : List File) → is_among f (g ∷ files) ≡ true → (f ≡ g) ⊎ (is_among f files ≡ true)
among_either f g files e = elim (cases_Bool (file_number g == file_number f)) [
  | inl same ↦ inl (same_number f g (sym (eqb-true (file_number g) (file_number f) same)))
  | inr other ↦ inr (rw other at e)
]

-- ---- files of which none stands twice

and_parts : (a b : Bool) → (not a && b) ≡ true → (a ≡ false) × (b ≡ true)
and_parts true b e = absurd (let no : false ≡ true = e in cc)
and_parts false b e = (refl, e)

pub different_first : (f : File) (files : List File) → are_different (f ∷ files) ≡ true → is_among f files ≡ false
different_first f files e = (and_parts (is_among f files) (are_different files) e).0

pub different_rest : (f : File) (files : List File) → are_different (f ∷ files) ≡ true → are_different files ≡ true
different_rest f files e = (and_parts (is_among f files) (are_different files) e).1

pub other_than_first : (f g : File) (files : List File) → are_different (g ∷ files) ≡ true → is_among f files ≡ true → f ≢ g
other_than_first f g files different among same =
    let no : is_among g files ≡ false = different_first g files different in
    let too : is_among g files ≡ true = ap (λ (h : File). is_among h files) (sym same) ∙ among in
    let both : true ≡ false = sym too ∙ no in cc
