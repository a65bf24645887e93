-- Blanks and the beginnings of fields in a line whose bytes may stand in one.
use Rattle.std.proofs.Common.{◌≡◌, ℕ, ◌+◌, ◌<◌, ◌≤◌, Bool, true, false, cond, not, ltb, leb, eqb, ◌&&◌, List, [], ◌∷◌, length, get_or, drop, Some, None, inl, inr, refl, sym, ap, ◌∙◌, arith, add-one, drop-cons, position}
use Rattle.std.specs.Prelude.{filter}
use Rattle.std.specs.List.{slice_split, onto_first, list_all, prefix_len, position_or_len}
use Rattle.std.proofs.lemmas.Bool.{and_parts, lt-ltb, le-ltb, le-leb, lt-leb, leb-true, or_cases, or_from, ne_eqb, cases_lt}
use Rattle.desk_text.specs.Lines.{is_blank, is_text, is_full, fields}

blank_below : (byte : ℕ) → byte < 33 → is_text byte ≡ true → is_blank byte ≡ true
blank_below byte lt h = elim (or_cases (is_blank byte) (leb 33 byte && leb byte 126) h) [
  | inl blank ↦ blank
  | inr seen ↦ absurd (omega (arith, leb-true 33 byte (and_parts (leb 33 byte) (leb byte 126) seen).0))
]

not_blank : (byte : ℕ) → 33 ≤ byte → is_blank byte ≡ false
not_blank byte ge = or_from (eqb byte 32) (eqb byte 9) (ne_eqb byte 32 (λ e. omega arith)) (ne_eqb byte 9 (λ e. omega arith))

-- of the bytes of a line, those below '!' are blanks
below_is_blank : (byte : ℕ) → is_text byte ≡ true → ltb byte 33 ≡ is_blank byte
below_is_blank byte h = elim (cases_lt byte 33) [
  | inl lt ↦ lt-ltb byte 33 lt ∙ sym (blank_below byte lt h)
  | inr ge ↦ le-ltb byte 33 ge ∙ sym (not_blank byte ge)
]

-- and the others can be seen
seen_is_not_blank : (byte : ℕ) → is_text byte ≡ true → leb 33 byte ≡ not (is_blank byte)
seen_is_not_blank byte h = elim (cases_lt byte 33) [
  | inl lt ↦ lt-leb 33 byte lt ∙ ap not (sym (blank_below byte lt h))
  | inr ge ↦ le-leb 33 byte ge ∙ ap not (sym (not_blank byte ge))
]

same_place : (line : List ℕ) → list_all is_text line ≡ true → position_or_len (λ byte. ltb byte 33) line ≡ position_or_len is_blank line
same_place [] h = refl
same_place (x ∷ line) h =
    let h' = and_parts (is_text x) (list_all is_text line) h in
    ap (λ b. cond (not b) (1 + prefix_len (λ (byte : ℕ). not (ltb byte 33)) line) 0) (below_is_blank x h'.0)
    ∙ ap (λ (n : ℕ). cond (not (is_blank x)) (1 + n) 0) (same_place line h'.1)

-- so the first byte below '!' is the first blank
pub first_below_is_blank : (line : List ℕ) → list_all is_text line ≡ true → position (λ byte. ltb byte 33) line ≡ position is_blank line
first_below_is_blank line h = ap (λ (n : ℕ). cond (ltb n (length line)) (Some n) None) (same_place line h)

-- ---- how many fields there are

-- how many fields begin in these bytes, after a byte of a field or not
abbrev pub beginnings : Bool → List ℕ → ℕ
beginnings inside [] = 0
beginnings inside (byte ∷ bytes) = cond (leb 33 byte && not inside) 1 0 + beginnings (leb 33 byte) bytes

-- at one byte, and after it
pub beginnings_at : (inside : Bool) (line : List ℕ) (i : ℕ) → i < length line → beginnings inside (drop i line) ≡ cond (leb 33 (get_or line i 0) && not inside) 1 0 + beginnings (leb 33 (get_or line i 0)) (drop (i + 1) line)
beginnings_at inside line i lt = rw (add-one, drop-cons line i 0) refl

-- how many of these pieces are full
abbrev full : List (List ℕ) → ℕ
full parts = length (filter is_full parts)

full_first : (x : ℕ) (part : List ℕ) (parts : List (List ℕ)) → full ((x ∷ part) ∷ parts) ≡ 1 + full parts
full_first x part parts = ap (λ t. length (cond t ((x ∷ part) ∷ filter is_full parts) (filter is_full parts))) (lt-ltb 0 (length (x ∷ part)) (omega arith)) ∙ omega arith

onto_both : (x y : ℕ) (parts : List (List ℕ)) → full (onto_first x (onto_first y parts)) ≡ full (onto_first y parts)
onto_both x y [] = full_first x (y ∷ []) [] ∙ sym (full_first y [] [])
onto_both x y (part ∷ parts) = full_first x (y ∷ part) parts ∙ sym (full_first y part parts)

-- the beginnings in a line, and in one after a byte of a field
record AreBeginnings (line : List ℕ) : Type 0 where
  outside : beginnings false line ≡ full (slice_split is_blank line)
  inside : (x : ℕ) → 1 + beginnings true line ≡ full (onto_first x (slice_split is_blank line))

none_more : (n : ℕ) → 0 + n ≡ n
none_more n = omega arith

one_more : (blank seen : Bool) (y : ℕ) (line : List ℕ) (parts : List (List ℕ)) → seen ≡ not blank → beginnings false line ≡ full parts → ((x : ℕ) → 1 + beginnings true line ≡ full (onto_first x parts))
    → (cond (seen && true) 1 0 + beginnings seen line ≡ full (cond blank ([] ∷ parts) (onto_first y parts))) × ((x : ℕ) → 1 + (cond (seen && false) 1 0 + beginnings seen line) ≡ full (onto_first x (cond blank ([] ∷ parts) (onto_first y parts))))
one_more true false y line parts is outside inside = (none_more _ ∙ outside, λ x. ap (λ (n : ℕ). 1 + n) (none_more _ ∙ outside) ∙ sym (full_first x [] parts))
one_more false true y line parts is outside inside = (inside y, λ x. ap (λ (n : ℕ). 1 + n) (none_more _) ∙ inside y ∙ sym (onto_both x y parts))
one_more true true y line parts is outside inside = absurd cc
one_more false false y line parts is outside inside = absurd cc

are_beginnings : (line : List ℕ) → list_all is_text line ≡ true → AreBeginnings line
are_beginnings [] h = record { outside = refl; inside = λ x. sym (full_first x [] []) }
are_beginnings (y ∷ line) h =
    let h' = and_parts (is_text y) (list_all is_text line) h in
    let before = are_beginnings line h'.1 in
    let more = one_more (is_blank y) (leb 33 y) y line (slice_split is_blank line) (seen_is_not_blank y h'.0) before.outside before.inside in
    record { outside = more.0; inside = more.1 }

-- the fields of a line are as many as begin in it
pub beginnings_are_fields : (line : List ℕ) → list_all is_text line ≡ true → beginnings false line ≡ length (fields line)
unfolding fields
beginnings_are_fields line h = (are_beginnings line h).outside
