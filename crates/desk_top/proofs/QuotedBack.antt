-- The lines of a journal are the records of a comma file.
use Rattle.std.proofs.Common.{◌≡◌, ℕ, zero, suc, ◌+◌, ◌^◌, ◌<◌, ◌≤◌, Bool, true, false, ◌||◌, eqb, List, [], ◌∷◌, ◌++◌, length, map, take, refl, sym, ap, ◌∙◌, arith, append_assoc, length-append, inl, inr}
use Rattle.std.specs.Prelude.{codes, decimal}
use Rattle.std.specs.List.{AllByRecursion, flat_map, list_all, list_any}
use Rattle.std.specs.Char.{is_ascii_digit}
use Rattle.std.proofs.lemmas.Bool.{and_parts, or_from, leb-true, eqb-true, ne_eqb, cases_Bool}
use Rattle.std.proofs.lemmas.List.{append-nil}
use Rattle.csv.specs.Machine.{next_record}
use Rattle.csv.specs.Reading.{default_config, records, records_from, records_next, strip_bom}
use Rattle.csv.specs.Writing.{default_writer, escaped, field_text, fields_text, is_blank, needs_byte, row_text}
use Rattle.csv.specs.declared.parser.State.TheVariants as st
use Rattle.csv.proofs.RoundTrip.{read-write-many}
use Rattle.desk_data.specs.Situation.{Situation}
use Rattle.desk_model.specs.declared.answer.Entry.{Entry}
use Rattle.desk_model.specs.declared.answer.Event.{Event}
use Rattle.desk_model.specs.declared.answer.Event.TheVariants as event
use Rattle.comma_rows.specs.Records.{text_records}
use Rattle.output_texts.specs.Quoting.{quoted, doubled, doubled_byte, is_mark}
use Rattle.output_texts.specs.Lines.{kind_text, detail_text, answer_text, line_text, batches, line_at}
use Rattle.desk_top.specs.Named.{fields_at}
use Rattle.desk_top.proofs.Spelled.{decimal_digits}

-- ---- fields

marks_agree : (a b c d : Bool) → (a || b || c || d) ≡ (a || b || (c || d) || false || false)
marks_agree true b c d = refl
marks_agree false true c d = refl
marks_agree false false true d = refl
marks_agree false false false true = refl
marks_agree false false false false = refl

byte_agrees : (b : ℕ) → is_mark b ≡ needs_byte default_writer b
byte_agrees b = marks_agree (eqb b 44) (eqb b 34) (eqb b 13) (eqb b 10)

any_agrees : (field : List ℕ) → list_any is_mark field ≡ list_any (needs_byte default_writer) field
any_agrees [] = refl
any_agrees (b ∷ field) = rw (byte_agrees b, any_agrees field) refl

doubled_agrees : (field : List ℕ) → doubled field ≡ escaped default_writer field
unfolding escaped doubled_byte
doubled_agrees [] = refl
doubled_agrees (b ∷ field) = elim (cases_Bool (eqb b 34)) [
  | inl is ↦ rw (is, eqb-true b 34 is, doubled_agrees field) refl
  | inr other ↦ rw (other, doubled_agrees field) refl
]

-- a field is written as csv writes one
pub quoted_agrees : (field : List ℕ) → quoted field ≡ field_text default_writer field
unfolding quoted
quoted_agrees field = rw (any_agrees field, doubled_agrees field) refl

-- digits call for no quotes
digits_plain : (ds : List ℕ) → list_all is_ascii_digit ds ≡ true → list_any is_mark ds ≡ false
digits_plain [] h = refl
digits_plain (d ∷ ds) h =
    let both = and_parts _ _ h in
    let low : 48 ≤ d = leb-true 48 d (and_parts _ _ both.0).0 in
    or_from _ _ (or_from _ _ (or_from _ _ (or_from _ _ (ne_eqb d 44 (λ e. omega (arith, e))) (ne_eqb d 34 (λ e. omega (arith, e)))) (ne_eqb d 13 (λ e. omega (arith, e)))) (ne_eqb d 10 (λ e. omega (arith, e))))
    (digits_plain ds both.1)

decimal_plain : (n : ℕ) → n < 2 ^ 64 → quoted (decimal n) ≡ decimal n
unfolding quoted
decimal_plain n lt = rw (digits_plain (decimal n) (decimal_digits n lt).digits) refl

kind_plain : (e : Event) → quoted (kind_text e) ≡ kind_text e
unfolding quoted kind_text
kind_plain (event.Batch batch) = refl
kind_plain (event.Move m) = refl

-- ---- records

-- the last part but one
peel : (a b c : List ℕ) → a ++ codes "," ++ b ++ c ≡ a ++ 44 ∷ (b ++ c)
peel a b c = append_assoc (a ++ codes ",") b c ∙ append_assoc a (44 ∷ []) (b ++ c)

-- a line in other brackets
line_is : (a b c d : List ℕ) → a ++ codes "," ++ b ++ codes "," ++ c ++ codes "," ++ d ++ codes "\n" ≡ a ++ 44 ∷ (b ++ 44 ∷ (c ++ 44 ∷ (d ++ 10 ∷ [])))
line_is a b c d =
    peel (a ++ codes "," ++ b ++ codes "," ++ c) d (10 ∷ [])
    ∙ peel (a ++ codes "," ++ b) c (44 ∷ (d ++ 10 ∷ []))
    ∙ peel a b (44 ∷ (c ++ 44 ∷ (d ++ 10 ∷ [])))

-- a record in other brackets
record_is : (a b c d : List ℕ) → (a ++ (44 ∷ (b ++ (44 ∷ (c ++ (44 ∷ (d ++ []))))))) ++ ([] ++ 10 ∷ []) ≡ a ++ 44 ∷ (b ++ 44 ∷ (c ++ 44 ∷ (d ++ 10 ∷ [])))
record_is a b c d =
    append_assoc a (44 ∷ (b ++ (44 ∷ (c ++ (44 ∷ (d ++ [])))))) (10 ∷ [])
    ∙ ap (λ (t : List ℕ). a ++ 44 ∷ t) (append_assoc b (44 ∷ (c ++ (44 ∷ (d ++ [])))) (10 ∷ [])
    ∙ ap (λ (t : List ℕ). b ++ 44 ∷ t) (append_assoc c (44 ∷ (d ++ [])) (10 ∷ [])
    ∙ ap (λ (t : List ℕ). c ++ 44 ∷ t) (ap (λ (t : List ℕ). t ++ 10 ∷ []) (append-nil d))))

-- a line is the record that csv writes of its fields
pub line_is_record : (I : Situation) (number : ℕ) (entry : Entry) → entry.caller < 2 ^ 64 → line_text I number entry ≡ row_text default_writer (fields_at I number entry)
unfolding line_text fields_text is_blank
line_is_record I number entry lt =
    let a = decimal entry.caller in
    let b = kind_text entry.event in
    let c = detail_text I number entry.event in
    let d = answer_text I entry.answer in
    let caller : a ≡ field_text default_writer a = sym (decimal_plain entry.caller lt) ∙ quoted_agrees a in
    let kind : b ≡ field_text default_writer b = sym (kind_plain entry.event) ∙ quoted_agrees b in
    line_is a b (quoted c) (quoted d)
    ∙ ap (λ (t : List ℕ). t ++ 44 ∷ (b ++ 44 ∷ (quoted c ++ 44 ∷ (quoted d ++ 10 ∷ [])))) caller
    ∙ ap (λ (t : List ℕ). field_text default_writer a ++ 44 ∷ (t ++ 44 ∷ (quoted c ++ 44 ∷ (quoted d ++ 10 ∷ [])))) kind
    ∙ ap (λ (t : List ℕ). field_text default_writer a ++ 44 ∷ (field_text default_writer b ++ 44 ∷ (t ++ 44 ∷ (quoted d ++ 10 ∷ [])))) (quoted_agrees c)
    ∙ ap (λ (t : List ℕ). field_text default_writer a ++ 44 ∷ (field_text default_writer b ++ 44 ∷ (field_text default_writer c ++ 44 ∷ (t ++ 10 ∷ [])))) (quoted_agrees d)
    ∙ sym (record_is (field_text default_writer a) (field_text default_writer b) (field_text default_writer c) (field_text default_writer d))

-- a line begins with its caller
abbrev after_caller : Situation → ℕ → Entry → List ℕ
after_caller I number entry = 44 ∷ (kind_text entry.event ++ 44 ∷ (quoted (detail_text I number entry.event) ++ 44 ∷ (quoted (answer_text I entry.answer) ++ 10 ∷ [])))

line_begins : (I : Situation) (number : ℕ) (entry : Entry) → line_text I number entry ≡ decimal entry.caller ++ after_caller I number entry
unfolding line_text
line_begins I number entry = line_is (decimal entry.caller) (kind_text entry.event) (quoted (detail_text I number entry.event)) (quoted (answer_text I entry.answer))

-- ---- texts

-- entries at their places, each with a caller that there may be
abbrev pub HaveCallers : List (ℕ × Entry) → Type 0
HaveCallers placed = AllByRecursion (λ p. p.1.caller ≤ 64) placed

-- the fields of the line of an entry at its place
abbrev pub placed_fields : Situation → List Entry → ℕ × Entry → List (List ℕ)
placed_fields I h p = fields_at I (batches (take p.0 h)) p.1

unmarked : (d : ℕ) (xs : List ℕ) → eqb d 239 ≡ false → strip_bom (d ∷ xs) ≡ d ∷ xs
unfolding strip_bom
unmarked d [] not = refl
unmarked d (x ∷ []) not = refl
unmarked d (x ∷ y ∷ xs) not = rw not refl

module _ (I : Situation) (h : List Entry) where
  records_back : (n : ℕ) (placed : List (ℕ × Entry)) → HaveCallers placed → length placed < n → records_from default_config n st.StartRecord (flat_map (line_at I h) placed) ≡ map (placed_fields I h) placed
  unfolding records_from next_record
  records_back zero placed callers few = absurd (omega arith)
  records_back (suc n) [] callers few = refl
  records_back (suc n) (p ∷ placed) callers few =
      let number = batches (take p.0 h) in
      let fields = fields_at I number p.1 in
      let line = line_is_record I number p.1 (omega (arith, callers.0)) in
      let back = read-write-many (decimal p.1.caller) (kind_text p.1.event) (detail_text I number p.1.event ∷ answer_text I p.1.answer ∷ []) (flat_map (line_at I h) placed) in
      ap (λ (text : List ℕ). records_next (records_from default_config n) (next_record default_config st.StartRecord [] [] (text ++ flat_map (line_at I h) placed))) line
      ∙ ap (records_next (records_from default_config n)) back
      ∙ ap (λ (records : List (List (List ℕ))). fields ∷ records) (records_back n placed callers.1 (omega arith))

  few_lines : (placed : List (ℕ × Entry)) → length placed ≤ length (flat_map (line_at I h) placed)
  few_lines [] = omega arith
  few_lines (p ∷ placed) =
      let number = batches (take p.0 h) in
      omega (
        arith,
        few_lines placed,
        length-append (line_text I number p.1) (flat_map (line_at I h) placed),
        ap length (line_begins I number p.1),
        length-append (decimal p.1.caller) (after_caller I number p.1),
      )

  -- a text that begins with a digit has no byte order mark
  no_mark : (ds tail : List ℕ) → list_all is_ascii_digit ds ≡ true → 1 ≤ length ds → strip_bom (ds ++ tail) ≡ ds ++ tail
  no_mark [] tail digits some = absurd (omega arith)
  no_mark (d ∷ ds) tail digits some =
      let high : d ≤ 57 = leb-true d 57 (and_parts _ _ (and_parts _ _ digits).0).1 in
      unmarked d (ds ++ tail) (ne_eqb d 239 (λ e. omega (arith, e)))

  unmarked_text : (placed : List (ℕ × Entry)) → HaveCallers placed → strip_bom (flat_map (line_at I h) placed) ≡ flat_map (line_at I h) placed
  unfolding strip_bom
  unmarked_text [] callers = refl
  unmarked_text (p ∷ placed) callers =
      let number = batches (take p.0 h) in
      let more = flat_map (line_at I h) placed in
      let whole : line_text I number p.1 ++ more ≡ decimal p.1.caller ++ (after_caller I number p.1 ++ more) =
      ap (λ (text : List ℕ). text ++ more) (line_begins I number p.1) ∙ append_assoc (decimal p.1.caller) (after_caller I number p.1) more in
      let digits = decimal_digits p.1.caller (omega (arith, callers.0)) in
      ap strip_bom whole ∙ no_mark (decimal p.1.caller) (after_caller I number p.1 ++ more) digits.digits digits.some ∙ sym whole

  -- the records of the lines are their fields
  pub records_of_lines : (placed : List (ℕ × Entry)) → HaveCallers placed → text_records (flat_map (line_at I h) placed) ≡ map (placed_fields I h) placed
  records_of_lines placed callers =
      let text = flat_map (line_at I h) placed in
      ap (records default_config) (unmarked_text placed callers)
      ∙ records_back (length text + 1) placed callers (omega (arith, few_lines placed))
