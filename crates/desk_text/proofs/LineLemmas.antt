-- The lines of a text, and which of them have fields.
use Rattle.std.proofs.Common.{◌≡◌, ◌≤◌, ℕ, suc, ◌+◌, Bool, true, false, cond, not, ◌&&◌, ltb, eqb, ◌-◌, drop, List, [], ◌∷◌, length, take, map, Some, None, refl, sym, ap, ◌∙◌, arith}
use Rattle.std.specs.Prelude.{filter, take_while, sum_by}
use Rattle.std.proofs.lemmas.List.{length-take}
use Rattle.std.proofs.lemmas.List.Sums.{sum_by-cons}
use Rattle.std.specs.List.{slice_split, onto_first, enumerate_from, prefix_len, list_all}
use Rattle.std.specs.Str.Lines.{strip_carriage_return}
use Rattle.std.proofs.lemmas.Bool.{lt-ltb, eqb-true}
use Rattle.desk_text.specs.Lines.{is_blank, is_full, is_last, fields, lines_from}
use Rattle.desk_text.specs.Cuts.{cut, line_then}
use Rattle.desk_text.proofs.CutLemmas.{split_cut, split_uncut}

-- what follows a byte that is no cut is full
full_onto : (x : ℕ) (parts : List (List ℕ)) → ltb 0 (length (filter is_full (onto_first x parts))) ≡ true
full_onto x [] = refl
full_onto x (part ∷ parts) = rw (lt-ltb 0 (length (x ∷ part)) (omega arith)) (lt-ltb 0 (length ((x ∷ part) ∷ filter is_full parts)) (omega arith))

-- there is a full part exactly where not all are cuts
pub full_parts : (p : ℕ → Bool) (xs : List ℕ) → ltb 0 (length (filter is_full (slice_split p xs))) ≡ not (list_all p xs)
full_parts p [] = refl
full_parts p (x ∷ xs) = elim (p x) as (λ b. ltb 0 (length (filter is_full (cond b ([] ∷ slice_split p xs) (onto_first x (slice_split p xs))))) ≡ not (b && list_all p xs)) [
  | true ↦ full_parts p xs
  | false ↦ full_onto x (slice_split p xs)
]

-- a line has fields exactly where it is not blank
pub has_fields : (line : List ℕ) → ltb 0 (length (fields line)) ≡ not (list_all is_blank line)
unfolding fields
has_fields line = full_parts is_blank line

-- the first is taken, and then the others
take_while-cons : {X : Type 0} (p : X → Bool) (x : X) (xs : List X) → take_while p (x ∷ xs) ≡ cond (p x) (x ∷ take_while p xs) []
take_while-cons {X} p x xs = elim (p x) as (λ b. take (cond b (1 + prefix_len p xs) 0) (x ∷ xs) ≡ cond b (x ∷ take (prefix_len p xs) xs) []) [
  | true ↦ let next : 1 + prefix_len p xs ≡ suc (prefix_len p xs) = omega arith in ap (λ (k : ℕ). take k (x ∷ xs)) next
  | false ↦ refl
]

-- the lines that are kept of these
abbrev pub kept : ℕ → List (List ℕ) → List (ℕ × List ℕ)
kept n ls = filter (λ line. ltb 0 (length (fields line.1))) (enumerate_from n (take_while (λ line. not (is_last line)) ls))

swapped : {X : Type 0} (b : Bool) (x y : X) → cond (not b) x y ≡ cond b y x
swapped true x y = refl
swapped false x y = refl

pub kept-cons : (n : ℕ) (line : List ℕ) (ls : List (List ℕ)) → kept n (line ∷ ls) ≡ cond (is_last line) [] (cond (list_all is_blank line) (kept (n + 1) ls) ((n, line) ∷ kept (n + 1) ls))
kept-cons n line ls =
    ap (λ (taken : List (List ℕ)). filter (λ (line : ℕ × List ℕ). ltb 0 (length (fields line.1))) (enumerate_from n taken)) (take_while-cons (λ (line : List ℕ). not (is_last line)) line ls)
    ∙ elim (is_last line) as (λ b. filter (λ (line : ℕ × List ℕ). ltb 0 (length (fields line.1))) (enumerate_from n (cond (not b) (line ∷ take_while (λ line. not (is_last line)) ls) [])) ≡ cond b [] (cond (list_all is_blank line) (kept (n + 1) ls) ((n, line) ∷ kept (n + 1) ls))) [
      | true ↦ refl
      | false ↦ ap (λ b. cond b ((n, line) ∷ kept (n + 1) ls) (kept (n + 1) ls)) (has_fields line) ∙ swapped (list_all is_blank line) ((n, line) ∷ kept (n + 1) ls) (kept (n + 1) ls)
    ]

-- no bytes have no lines
pub no_lines : (n : ℕ) → lines_from n [] ≡ []
unfolding lines_from fields
no_lines n = refl

-- a line is cut off
pub lines_cut : (n : ℕ) (bytes front back line : List ℕ) → Some (front, back) ≡ cut 10 bytes → line ≡ strip_carriage_return front → lines_from n bytes ≡ line_then n line back
unfolding lines_from
lines_cut n bytes front back line e is_line =
    ap (λ (parts : List (List ℕ)). kept n (map strip_carriage_return parts)) (split_cut (λ b. eqb b 10) bytes front back (sym e))
    ∙ ap (λ (l : List ℕ). kept n (l ∷ map strip_carriage_return (slice_split (λ b. eqb b 10) back))) (sym is_line)
    ∙ kept-cons n line (map strip_carriage_return (slice_split (λ b. eqb b 10) back))

-- the last line has no LF
pub lines_uncut : (n : ℕ) (bytes line rest : List ℕ) → None ≡ cut 10 bytes → line ≡ strip_carriage_return bytes → rest ≡ [] → lines_from n bytes ≡ line_then n line rest
lines_uncut n bytes line rest e is_line none =
    unfold lines_from in ap (λ (parts : List (List ℕ)). kept n (map strip_carriage_return parts)) (split_uncut (λ b. eqb b 10) bytes (sym e))
    ∙ ap (λ (l : List ℕ). kept n (l ∷ [])) (sym is_line)
    ∙ kept-cons n line []
    ∙ ap (λ (others : List (ℕ × List ℕ)). cond (is_last line) [] (cond (list_all is_blank line) others ((n, line) ∷ others))) (sym (no_lines (n + 1)) ∙ ap (lines_from (n + 1)) (sym none))

-- nothing comes after the last byte
pub nothing_left : (bytes : List ℕ) → take (length bytes - length bytes) (drop (length bytes) bytes) ≡ []
nothing_left bytes = let none : length bytes - length bytes ≡ 0 = omega arith in rw none refl

-- nor have bytes of which there are none
pub no_more_lines : (n : ℕ) (bytes : List ℕ) → eqb (length bytes) 0 ≡ true → lines_from n bytes ≡ []
no_more_lines n [] none = no_lines n
no_more_lines n (b ∷ bytes) none = absurd (omega (arith, eqb-true (length (b ∷ bytes)) 0 none))

-- ---- how many lines there are

onto_length : (x : ℕ) (parts : List (List ℕ)) → sum_by length (onto_first x parts) ≡ 1 + sum_by length parts
onto_length x [] = refl
onto_length x (part ∷ parts) = omega (arith, sum_by-cons length (x ∷ part) parts, sum_by-cons length part parts)

pieces_length : (p : ℕ → Bool) (xs : List ℕ) → sum_by length (slice_split p xs) ≤ length xs
pieces_length p [] = omega arith
pieces_length p (x ∷ xs) = elim (p x) as (λ b. sum_by length (cond b ([] ∷ slice_split p xs) (onto_first x (slice_split p xs))) ≤ length (x ∷ xs)) [
  | true ↦ omega (arith, sum_by-cons length [] (slice_split p xs), pieces_length p xs)
  | false ↦ omega (arith, onto_length x (slice_split p xs), pieces_length p xs)
]

one_of : (b : Bool) (xs ys : List ℕ) → length xs ≤ length ys → length (cond b xs ys) ≤ length ys
one_of true xs ys le = le
one_of false xs ys le = omega arith

stripped_shorter : (line : List ℕ) → length (strip_carriage_return line) ≤ length line
stripped_shorter line = one_of _ (take (length line - 1) line) line (omega (arith, length-take (length line - 1) line))

one_line_at_most : (last : Bool) (n : ℕ) (line : List ℕ) (others : List (ℕ × List ℕ)) → length (cond last [] (cond (list_all is_blank line) others ((n, line) ∷ others))) ≤ length line + length others
one_line_at_most true n line others = omega arith
one_line_at_most false n [] others = omega arith
one_line_at_most false n (x ∷ line) others = elim (list_all is_blank (x ∷ line)) as (λ b. length (cond b others ((n, x ∷ line) ∷ others)) ≤ length (x ∷ line) + length others) [
  | true ↦ omega arith
  | false ↦ omega arith
]

kept_few : (n : ℕ) (parts : List (List ℕ)) → length (kept n (map strip_carriage_return parts)) ≤ sum_by length parts
kept_few n [] = omega arith
kept_few n (part ∷ parts) =
    let line : List ℕ = strip_carriage_return part in
    let others : List (ℕ × List ℕ) = kept (n + 1) (map strip_carriage_return parts) in
    let step : length (kept n (line ∷ map strip_carriage_return parts)) ≡ length (cond (is_last line) [] (cond (list_all is_blank line) others ((n, line) ∷ others))) = ap length (kept-cons n line (map strip_carriage_return parts)) in
    let one : length (cond (is_last line) [] (cond (list_all is_blank line) others ((n, line) ∷ others))) ≤ length line + length others = one_line_at_most (is_last line) n line others in
    let shorter : length line ≤ length part = stripped_shorter part in
    let rest : length others ≤ sum_by length parts = kept_few (n + 1) parts in
    omega (arith, sum_by-cons length part parts)

-- there are no more lines with fields than bytes
pub lines_few : (n : ℕ) (bytes : List ℕ) → length (lines_from n bytes) ≤ length bytes
unfolding lines_from
lines_few n bytes = omega (arith, kept_few n (slice_split (λ b. eqb b 10) bytes), pieces_length (λ b. eqb b 10) bytes)
