-- The fields of a line, as a loop takes them.
use Rattle.std.proofs.Common.{◌≡◌, ℕ, ◌-◌, true, false, cond, eqb, List, [], ◌∷◌, length, take, drop, Some, None, refl, sym, ap, ◌∙◌, arith}
use Rattle.std.specs.Prelude.{filter}
use Rattle.std.specs.List.{slice_split}
use Rattle.std.proofs.lemmas.Bool.{lt-ltb, eqb-true}
use Rattle.desk_text.specs.Lines.{is_blank, is_full, fields}
use Rattle.desk_text.specs.Cuts.{cut_where}
use Rattle.desk_text.proofs.CutLemmas.{split_cut, split_uncut}
use Rattle.desk_text.proofs.LineLemmas.{nothing_left}

-- the pieces of which the full ones are the fields
abbrev full_of : List (List ℕ) → List (List ℕ)
full_of parts = filter is_full parts

full_first : (part : List ℕ) (parts : List (List ℕ)) → eqb (length part) 0 ≡ false → full_of (part ∷ parts) ≡ part ∷ full_of parts
full_first [] parts some = absurd cc
full_first (b ∷ part) parts some = ap (λ t. cond t ((b ∷ part) ∷ full_of parts) (full_of parts)) (lt-ltb 0 (length (b ∷ part)) (omega arith))

not_full_first : (part : List ℕ) (parts : List (List ℕ)) → eqb (length part) 0 ≡ true → full_of (part ∷ parts) ≡ full_of parts
not_full_first [] parts none = refl
not_full_first (b ∷ part) parts none = absurd (omega (arith, eqb-true (length (b ∷ part)) 0 none))

-- what is before the first blank is a field
pub field_cut : (line front back : List ℕ) → Some (front, back) ≡ cut_where is_blank line → eqb (length front) 0 ≡ false → fields line ≡ front ∷ fields back
unfolding fields
field_cut line front back e some = ap full_of (split_cut is_blank line front back (sym e)) ∙ full_first front (slice_split is_blank back) some

-- or nothing
pub blank_cut : (line front back : List ℕ) → Some (front, back) ≡ cut_where is_blank line → eqb (length front) 0 ≡ true → fields line ≡ fields back
unfolding fields
blank_cut line front back e none = ap full_of (split_cut is_blank line front back (sym e)) ∙ not_full_first front (slice_split is_blank back) none

-- no bytes have no fields
pub no_fields : (line : List ℕ) → eqb (length line) 0 ≡ true → fields line ≡ []
unfolding fields
no_fields [] none = refl
no_fields (b ∷ line) none = absurd (omega (arith, eqb-true (length (b ∷ line)) 0 none))

-- the last field
pub field_uncut : (line : List ℕ) → None ≡ cut_where is_blank line → eqb (length line) 0 ≡ false → fields line ≡ line ∷ fields (take (length line - length line) (drop (length line) line))
unfolding fields
field_uncut line e some = ap full_of (split_uncut is_blank line (sym e)) ∙ full_first line [] some ∙ ap (λ (rest : List ℕ). line ∷ full_of (slice_split is_blank rest)) (sym (nothing_left line))
