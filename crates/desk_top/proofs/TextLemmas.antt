-- A written text has the lines that were written, and these have their fields.
use Rattle.std.proofs.Common.{◌≡◌, ℕ, zero, suc, ◌+◌, ◌-◌, ◌<◌, ◌≤◌, inl, inr, Bool, true, false, cond, not, ◌&&◌, ◌||◌, eqb, leb, ltb, List, [], ◌∷◌, ◌++◌, length, take, drop, get_or, Option, Some, None, Result, Ok, Err, refl, sym, ap, ◌∙◌, arith, append_assoc, option_map, position}
use Rattle.std.specs.Prelude.{filter}
use Rattle.std.specs.List.{AllByRecursion, prefix_len, list_all, flat_map}
use Rattle.std.specs.Str.Lines.{strip_carriage_return}
use Rattle.std.proofs.Math.Seq.{take-append_seam, drop-append-add}
use Rattle.std.proofs.lemmas.Bool.{lt-ltb, le-leb, ne_eqb, eq-eqb, and_from, and_parts, leb-true, cases_eq}
use Rattle.std.proofs.lemmas.List.{length-append}
use Rattle.std.proofs.lemmas.List.Concat.{flat_map-cons}
use Rattle.std.proofs.lemmas.List.Elements.{All-from_recursion}
use Rattle.std.proofs.lemmas.List.Splits.{slice_split_none}
use Rattle.file_rows.specs.declared.cause.Cause.{Cause}
use Rattle.file_rows.specs.declared.cause.Cause.TheVariants as causes
use Rattle.desk_text.specs.Cuts.{cut_where}
use Rattle.desk_text.specs.Lines.{is_blank, is_text, is_full, is_last, fields, lines_from}
use Rattle.desk_text.specs.Rows.{◌>>=◌, RowOf, line_row, at_line, rows_of_lines, text_rows}
use Rattle.desk_text.proofs.FieldLemmas.{field_cut}
use Rattle.desk_text.proofs.LineLemmas.{lines_cut, no_lines}
use Rattle.desk_text.proofs.RowLemmas.{short_enough}

-- ---- cuts

-- where nothing in front passes, the place is after it
place_is : (p : ℕ → Bool) (front : List ℕ) (b : ℕ) (back : List ℕ) → AllByRecursion (λ x. p x ≡ false) front → p b ≡ true → prefix_len (λ x. not (p x)) (front ++ b ∷ back) ≡ length front
place_is p [] b back none is = ap (λ t. cond (not t) (1 + prefix_len (λ x. not (p x)) back) 0) is
place_is p (x ∷ front) b back none is =
    let rest = place_is p front b back none.1 is in
    ap (λ t. cond (not t) (1 + prefix_len (λ x. not (p x)) (front ++ b ∷ back)) 0) none.0 ∙ omega (arith, rest)

pub cut_after : (p : ℕ → Bool) (front : List ℕ) (b : ℕ) (back : List ℕ) → AllByRecursion (λ x. p x ≡ false) front → p b ≡ true → cut_where p (front ++ b ∷ back) ≡ Some (front, back)
cut_after p front b back none is =
    let bytes : List ℕ = front ++ b ∷ back in
    let within : length front < length bytes = omega (arith, length-append front (b ∷ back)) in
    let there : position p bytes ≡ Some (length front) =
    ap (λ n. cond {A = Option ℕ} (ltb n (length bytes)) (Some n) None) (place_is p front b back none is)
    ∙ ap (λ t. cond {A = Option ℕ} t (Some (length front)) None) (lt-ltb (length front) (length bytes) within) in
    ap (option_map (λ n. (take n bytes, drop (n + 1) bytes))) there
    ∙ (λ i. Some (take-append_seam front (b ∷ back) i, drop-append-add front (b ∷ back) 1 i))

-- ---- bytes

-- a byte that can be seen, and one that can be seen or is a space
abbrev pub IsSeenByte : ℕ → Type 0
IsSeenByte b = (33 ≤ b) × (b ≤ 126)

abbrev pub IsLineByte : ℕ → Type 0
IsLineByte b = (32 ≤ b) × (b ≤ 126)

weaker : (P Q : ℕ → Type 0) → ((b : ℕ) → P b → Q b) → (bs : List ℕ) → AllByRecursion P bs → AllByRecursion Q bs
weaker P Q h [] all = tt
weaker P Q h (b ∷ bs) all = (h b all.0, weaker P Q h bs all.1)

pub all_append : (P : ℕ → Type 0) (front bs : List ℕ) → AllByRecursion P front → AllByRecursion P bs → AllByRecursion P (front ++ bs)
all_append P [] bs first second = second
all_append P (b ∷ front) bs first second = (first.0, all_append P front bs first.1 second)

not_blank : (b : ℕ) → IsSeenByte b → is_blank b ≡ false
not_blank b seen =
    let space = ne_eqb b 32 (λ e. omega (arith, e, seen.0)) in
    let tab = ne_eqb b 9 (λ e. omega (arith, e, seen.0)) in
    (λ i. space i || tab i)

-- bytes that pass the test can be seen
pub seen_from : (bytes : List ℕ) → list_all (λ b. leb 33 b && leb b 126) bytes ≡ true → AllByRecursion IsSeenByte bytes
seen_from [] h = tt
seen_from (b ∷ bytes) h =
    let both = and_parts _ _ h in
    let range = and_parts _ _ both.0 in
    ((leb-true 33 b range.0, leb-true b 126 range.1), seen_from bytes both.1)

-- ---- fields

-- a field that can be written
pub record IsField (field : List ℕ) : Type 0 where
  pub some : 1 ≤ length field
  pub seen : AllByRecursion IsSeenByte field

no_blanks : (field : List ℕ) → AllByRecursion IsSeenByte field → AllByRecursion (λ b. is_blank b ≡ false) field
no_blanks field seen = weaker IsSeenByte (λ b. is_blank b ≡ false) not_blank field seen

field_then : (field rest : List ℕ) → IsField field → fields (field ++ 32 ∷ rest) ≡ field ∷ fields rest
field_then field rest is =
    field_cut (field ++ 32 ∷ rest) field rest (sym (cut_after is_blank field 32 rest (no_blanks field is.seen) refl))
    (ne_eqb (length field) 0 (λ e. let some = is.some in omega (arith, e, some)))

field_alone : (field : List ℕ) → IsField field → fields field ≡ field ∷ []
unfolding fields
field_alone field is =
    ap (filter is_full) (slice_split_none is_blank field (All-from_recursion (λ b. is_blank b ≡ false) field (no_blanks field is.seen)))
    ∙ ap (λ t. cond t (field ∷ []) []) (lt-ltb 0 (length field) is.some)

-- fields with a space between them
abbrev pub spaced : List ℕ → List (List ℕ) → List ℕ
spaced field [] = field
spaced field (next ∷ others) = field ++ 32 ∷ spaced next others

-- a space between two texts, where texts are joined from the left
pub after_space : (front next rest : List ℕ) → front ++ (32 ∷ []) ++ next ++ rest ≡ front ++ 32 ∷ (next ++ rest)
after_space front next rest = append_assoc (front ++ 32 ∷ []) next rest ∙ append_assoc front (32 ∷ []) (next ++ rest)

pub fields_of_spaced : (field : List ℕ) (others : List (List ℕ)) → IsField field → AllByRecursion IsField others → fields (spaced field others) ≡ field ∷ others
fields_of_spaced field [] is all = field_alone field is
fields_of_spaced field (next ∷ others) is all = field_then field (spaced next others) is ∙ ap (λ (fs : List (List ℕ)). field ∷ fs) (fields_of_spaced next others all.0 all.1)

seen_line : (field : List ℕ) → AllByRecursion IsSeenByte field → AllByRecursion IsLineByte field
seen_line field all = weaker IsSeenByte IsLineByte (λ b seen. (let low = seen.0 in omega (arith, low), seen.1)) field all

spaced_bytes : (field : List ℕ) (others : List (List ℕ)) → IsField field → AllByRecursion IsField others → AllByRecursion IsLineByte (spaced field others)
spaced_bytes field [] is all = seen_line field is.seen
spaced_bytes field (next ∷ others) is all = all_append IsLineByte field (32 ∷ spaced next others) (seen_line field is.seen) ((omega arith, omega arith), spaced_bytes next others all.0 all.1)

-- ---- lines

-- a line that can be written
pub record IsLine (line : List ℕ) : Type 0 where
  pub bytes : AllByRecursion IsLineByte line
  pub goes_on : is_last line ≡ false
  pub full : list_all is_blank line ≡ false

-- a line of fields, the first of which does not begin with '#'
first_byte : (field : List ℕ) (rest : List ℕ) → IsField field → is_last field ≡ false → (is_last (field ++ rest) ≡ false) × (list_all is_blank (field ++ rest) ≡ false)
first_byte [] rest is plain = absurd (let some = is.some in omega (arith, some))
first_byte (b ∷ field) rest is plain = (plain, ap (λ t. t && list_all is_blank (field ++ rest)) (not_blank b is.seen.0))

append_none : (field : List ℕ) → field ++ [] ≡ field
append_none [] = refl
append_none (b ∷ field) = ap (λ (bs : List ℕ). b ∷ bs) (append_none field)

first_of_line : (field : List ℕ) (others : List (List ℕ)) → IsField field → is_last field ≡ false → (is_last (spaced field others) ≡ false) × (list_all is_blank (spaced field others) ≡ false)
first_of_line field [] is plain =
    let first = first_byte field [] is plain in
    (sym (ap is_last (append_none field)) ∙ first.0, sym (ap (list_all is_blank) (append_none field)) ∙ first.1)
first_of_line field (next ∷ others) is plain = first_byte field (32 ∷ spaced next others) is plain

pub spaced_line : (field : List ℕ) (others : List (List ℕ)) → IsField field → is_last field ≡ false → AllByRecursion IsField others → IsLine (spaced field others)
spaced_line field others is plain all =
    let first = first_of_line field others is plain in
    record { bytes = spaced_bytes field others is all; goes_on = first.0; full = first.1 }

-- no byte of a line is CR, so that none is taken off its end
byte_at : (line : List ℕ) (k : ℕ) → AllByRecursion IsLineByte line → eqb (get_or line k 0) 13 ≡ false
byte_at [] k all = refl
byte_at (b ∷ line) zero all = let low = all.0.0 in ne_eqb b 13 (λ e. omega (arith, e, low))
byte_at (b ∷ line) (suc k) all = byte_at line k all.1

kept_whole : (line : List ℕ) → AllByRecursion IsLineByte line → strip_carriage_return line ≡ line
kept_whole line all = ap (λ t. cond t (take (length line - 1) line) line) (byte_at line (length line - 1) all)

no_line_feeds : (line : List ℕ) → AllByRecursion IsLineByte line → AllByRecursion (λ b. eqb b 10 ≡ false) line
no_line_feeds line all = weaker IsLineByte (λ b. eqb b 10 ≡ false) (λ b is. let low = is.0 in ne_eqb b 10 (λ e. omega (arith, e, low))) line all

or_true : (x : Bool) → (x || true) ≡ true
or_true true = refl
or_true false = refl

text_byte : (b : ℕ) → IsLineByte b → is_text b ≡ true
text_byte b is =
    elim (cases_eq b 32) [
      | inl space ↦ ap (λ t. (t || eqb b 9) || (leb 33 b && leb b 126)) (eq-eqb b 32 space)
      | inr other ↦
          let low : 33 ≤ b = (let least = is.0 in omega (arith, least, other)) in
          ap (λ t. is_blank b || t) (and_from (leb 33 b) (leb b 126) (le-leb 33 b low) (le-leb b 126 is.1)) ∙ or_true (is_blank b)
    ]

all_text : (line : List ℕ) → AllByRecursion IsLineByte line → list_all is_text line ≡ true
all_text [] all = refl
all_text (b ∷ line) all = and_from (is_text b) (list_all is_text line) (text_byte b all.0) (all_text line all.1)

line_back : (n : ℕ) (line rest : List ℕ) → IsLine line → lines_from n (line ++ 10 ∷ rest) ≡ (n, line) ∷ lines_from (n + 1) rest
line_back n line rest is =
    lines_cut n (line ++ 10 ∷ rest) line rest line (sym (cut_after (λ b. eqb b 10) line 10 rest (no_line_feeds line is.bytes) refl)) (sym (kept_whole line is.bytes))
    ∙ ap (λ t. cond t [] (cond (list_all is_blank line) (lines_from (n + 1) rest) ((n, line) ∷ lines_from (n + 1) rest))) is.goes_on
    ∙ ap (λ t. cond t (lines_from (n + 1) rest) ((n, line) ∷ lines_from (n + 1) rest)) is.full

-- ---- rows

module _ {X Row : Type 0} (row_of : RowOf Row) (line : X → List ℕ) (row : ℕ → X → Row) where
  -- the line of x reads back
  pub record Reads (x : X) : Type 0 where
    pub is_line : IsLine (line x)
    pub reads : (n : ℕ) → row_of n (fields (line x)) ≡ Ok (row n x)

  -- the rows, in lines that are counted from n
  abbrev pub numbered : ℕ → List X → List Row
  numbered n [] = []
  numbered n (x ∷ xs) = row n x ∷ numbered (n + 1) xs

  -- the text of the lines
  abbrev pub text_of : List X → List ℕ
  text_of xs = flat_map (λ x. line x ++ 10 ∷ []) xs

  text_of-cons : (x : X) (xs : List X) → text_of (x ∷ xs) ≡ line x ++ 10 ∷ text_of xs
  text_of-cons x xs = flat_map-cons (λ x. line x ++ 10 ∷ []) x xs ∙ append_assoc (line x) (10 ∷ []) (text_of xs)

  row_back : (n : ℕ) (x : X) → Reads x → line_row row_of n (line x) ≡ Ok (row n x)
  row_back n x is = ap (λ t. cond t (row_of n (fields (line x))) (Err causes.Byte)) (all_text (line x) is.is_line.bytes) ∙ is.reads n

  lines_read : (n : ℕ) (xs : List X) → AllByRecursion Reads xs → rows_of_lines row_of (lines_from n (text_of xs)) ≡ Ok (numbered n xs)
  unfolding rows_of_lines
  lines_read n [] all = ap (rows_of_lines row_of) (no_lines n)
  lines_read n (x ∷ xs) all =
      ap (λ (text : List ℕ). rows_of_lines row_of (lines_from n text)) (text_of-cons x xs)
      ∙ ap (rows_of_lines row_of) (line_back n (line x) (text_of xs) all.0.is_line)
      ∙ ap (λ (r : Result Row Cause). at_line n r >>= λ first. rows_of_lines row_of (lines_from (n + 1) (text_of xs)) >>= λ others. Ok (first ∷ others)) (row_back n x all.0)
      ∙ ap (λ (r : Result (List Row) (ℕ × Cause)). r >>= λ others. Ok (row n x ∷ others)) (lines_read (n + 1) xs all.1)

  -- a written text reads back, where it is not too long
  pub text_reads : (limit : ℕ) (xs : List X) → AllByRecursion Reads xs → length (text_of xs) ≤ limit → text_rows limit row_of (text_of xs) ≡ Ok (numbered 1 xs)
  text_reads limit xs all few = sym (short_enough row_of limit (text_of xs) few) ∙ lines_read 1 xs all
