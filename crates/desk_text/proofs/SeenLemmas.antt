-- The fields of a line that may be read are of bytes that can be seen.
use Rattle.std.proofs.Common.{◌≡◌, ℕ, Bool, true, false, cond, ◌&&◌, ◌||◌, leb, List, [], ◌∷◌, get_or, refl, sym, ap, ◌∙◌}
use Rattle.std.specs.Prelude.{filter, nat_le}
use Rattle.std.specs.List.{slice_split, onto_first, list_all}
use Rattle.std.proofs.lemmas.Bool.{and_parts, leb-true}
use Rattle.std.proofs.lemmas.List.Sums.{AllPass-from_list_all}
use Rattle.file_rows.specs.Seen.{IsSeen}
use Rattle.desk_text.specs.Lines.{is_blank, is_text, is_full, fields}
use Rattle.desk_text.specs.Seen.{is_seen, are_seen}

-- a byte from ! to ~
abbrev is_seen_byte : ℕ → Bool
is_seen_byte byte = nat_le 33 byte && nat_le byte 126

both : (a b : Bool) → a ≡ true → b ≡ true → (a && b) ≡ true
both a b ha hb = ap (λ x. x && b) ha ∙ hb

onto_seen : (x : ℕ) (parts : List (List ℕ)) → is_seen_byte x ≡ true → are_seen parts ≡ true → are_seen (onto_first x parts) ≡ true
onto_seen x [] h hs = both (is_seen_byte x && true) true (both (is_seen_byte x) true h refl) refl
onto_seen x (part ∷ parts) h hs =
    let hs' = and_parts (is_seen part) (are_seen parts) hs in
    both (is_seen_byte x && is_seen part) (are_seen parts) (both (is_seen_byte x) (is_seen part) h hs'.0) hs'.1

one_seen : (blank : Bool) (x : ℕ) (parts : List (List ℕ)) → (blank || is_seen_byte x) ≡ true → are_seen parts ≡ true → are_seen (cond blank ([] ∷ parts) (onto_first x parts)) ≡ true
one_seen true x parts h hs = hs
one_seen false x parts h hs = onto_seen x parts h hs

parts_seen : (line : List ℕ) → list_all is_text line ≡ true → are_seen (slice_split is_blank line) ≡ true
parts_seen [] h = refl
parts_seen (x ∷ line) h =
    let h' = and_parts (is_text x) (list_all is_text line) h in
    one_seen (is_blank x) x (slice_split is_blank line) h'.0 (parts_seen line h'.1)

keep : (full : Bool) (part : List ℕ) (parts : List (List ℕ)) → is_seen part ≡ true → are_seen parts ≡ true → are_seen (cond full (part ∷ parts) parts) ≡ true
keep true part parts h hs = both (is_seen part) (are_seen parts) h hs
keep false part parts h hs = hs

full_seen : (parts : List (List ℕ)) → are_seen parts ≡ true → are_seen (filter is_full parts) ≡ true
full_seen [] hs = refl
full_seen (part ∷ parts) hs =
    let hs' = and_parts (is_seen part) (are_seen parts) hs in
    keep (is_full part) part (filter is_full parts) hs'.0 (full_seen parts hs'.1)

-- the fields of a line whose bytes may stand in a line
pub fields_seen : (line : List ℕ) → list_all is_text line ≡ true → are_seen (fields line) ≡ true
unfolding fields
fields_seen line h = full_seen (slice_split is_blank line) (parts_seen line h)

-- and so are those of its first field
pub first_is_seen : (line field : List ℕ) (others : List (List ℕ)) → list_all is_text line ≡ true → fields line ≡ field ∷ others → IsSeen field
first_is_seen line field others h e =
    let seen : is_seen field ≡ true = (and_parts (is_seen field) (are_seen others) (ap are_seen (sym e) ∙ fields_seen line h)).0 in
    λ k d lt.
    let both = and_parts (leb 33 (get_or field k d)) (leb (get_or field k d) 126) (AllPass-from_list_all is_seen_byte field seen k d lt) in
    (leb-true 33 (get_or field k d) both.0, leb-true (get_or field k d) 126 both.1)
