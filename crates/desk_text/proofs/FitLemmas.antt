-- The lines of a text each of whose bytes may stand in a line or ends one.
use Rattle.std.proofs.Common.{◌≡◌, ℕ, ◌+◌, ◌-◌, Bool, true, false, cond, eqb, ◌&&◌, ◌||◌, List, [], ◌∷◌, length, map, take, refl, sym, ap, ◌∙◌}
use Rattle.std.specs.List.{slice_split, onto_first, list_all}
use Rattle.std.specs.Str.Lines.{strip_carriage_return}
use Rattle.std.proofs.lemmas.Bool.{and_parts, and_from}
use Rattle.desk_text.specs.Lines.{is_blank, is_text, is_last, lines_from}
use Rattle.desk_text.proofs.CutLemmas.{all_taken}
use Rattle.desk_text.proofs.LineLemmas.{kept, kept-cons}

-- whether each byte of each piece may stand in a line
abbrev pieces_fit : List (List ℕ) → Bool
pieces_fit parts = list_all (list_all is_text) parts

-- whether each byte of each line may stand in a line
abbrev pub lines_fit : List (ℕ × List ℕ) → Bool
lines_fit lines = list_all (λ line. list_all is_text line.1) lines

no_other : (x : Bool) → (x || false) ≡ true → x ≡ true
no_other true h = refl
no_other false h = h

onto_fits : (x : ℕ) (parts : List (List ℕ)) → is_text x ≡ true → pieces_fit parts ≡ true → pieces_fit (onto_first x parts) ≡ true
onto_fits x [] h hs = and_from (is_text x && true) true (and_from (is_text x) true h refl) refl
onto_fits x (part ∷ parts) h hs =
    let hs' = and_parts (list_all is_text part) (pieces_fit parts) hs in
    and_from (is_text x && list_all is_text part) (pieces_fit parts) (and_from (is_text x) (list_all is_text part) h hs'.0) hs'.1

one_fits : (ends : Bool) (x : ℕ) (parts : List (List ℕ)) → (is_text x || ends) ≡ true → pieces_fit parts ≡ true → pieces_fit (cond ends ([] ∷ parts) (onto_first x parts)) ≡ true
one_fits true x parts h hs = hs
one_fits false x parts h hs = onto_fits x parts (no_other (is_text x) h) hs

all_fit : (bytes : List ℕ) → list_all (λ byte. is_text byte || eqb byte 10) bytes ≡ true → pieces_fit (slice_split (λ b. eqb b 10) bytes) ≡ true
all_fit [] h = refl
all_fit (x ∷ bytes) h =
    let h' = and_parts (is_text x || eqb x 10) (list_all (λ byte. is_text byte || eqb byte 10) bytes) h in
    one_fits (eqb x 10) x (slice_split (λ b. eqb b 10) bytes) h'.0 (all_fit bytes h'.1)

one_of_fits : (b : Bool) (xs ys : List ℕ) → list_all is_text xs ≡ true → list_all is_text ys ≡ true → list_all is_text (cond b xs ys) ≡ true
one_of_fits true xs ys hx hy = hx
one_of_fits false xs ys hx hy = hy

stripped_fits : (line : List ℕ) → list_all is_text line ≡ true → list_all is_text (strip_carriage_return line) ≡ true
stripped_fits line h = one_of_fits _ (take (length line - 1) line) line (all_taken is_text (length line - 1) line h) h

one_line_fits : (last blank : Bool) (n : ℕ) (line : List ℕ) (others : List (ℕ × List ℕ)) → list_all is_text line ≡ true → lines_fit others ≡ true → lines_fit (cond last [] (cond blank others ((n, line) ∷ others))) ≡ true
one_line_fits true blank n line others h hs = refl
one_line_fits false true n line others h hs = hs
one_line_fits false false n line others h hs = and_from (list_all is_text line) (lines_fit others) h hs

kept_fit : (n : ℕ) (parts : List (List ℕ)) → pieces_fit parts ≡ true → lines_fit (kept n (map strip_carriage_return parts)) ≡ true
kept_fit n [] h = refl
kept_fit n (part ∷ parts) h =
    let h' = and_parts (list_all is_text part) (pieces_fit parts) h in
    let line : List ℕ = strip_carriage_return part in
    let others : List (ℕ × List ℕ) = kept (n + 1) (map strip_carriage_return parts) in
    ap lines_fit (kept-cons n line (map strip_carriage_return parts))
    ∙ one_line_fits (is_last line) (list_all is_blank line) n line others (stripped_fits part h'.0) (kept_fit (n + 1) parts h'.1)

-- the bytes of its lines may stand in a line
pub text_fits : (n : ℕ) (bytes : List ℕ) → list_all (λ byte. is_text byte || eqb byte 10) bytes ≡ true → lines_fit (lines_from n bytes) ≡ true
unfolding lines_from
text_fits n bytes h = kept_fit n (slice_split (λ b. eqb b 10) bytes) (all_fit bytes h)

-- those of the first line, and of the others
pub first_fits : (number : ℕ) (line : List ℕ) (lines old : List (ℕ × List ℕ)) → old ≡ (number, line) ∷ lines → lines_fit old ≡ true → (list_all is_text line ≡ true) × (lines_fit lines ≡ true)
first_fits number line lines old e h = and_parts (list_all is_text line) (lines_fit lines) (ap lines_fit (sym e) ∙ h)
