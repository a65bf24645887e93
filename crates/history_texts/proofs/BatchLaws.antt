-- The lines of the batches among entries, one entry after another.
use Rattle.std.proofs.Common.{◌≡◌, ℕ, suc, ◌+◌, ◌<◌, ◌≤◌, true, false, List, [], ◌∷◌, ◌++◌, length, take, get_or, refl, sym, ap, ◌∙◌, arith, append_assoc, length-append, add-one}
use Rattle.std.specs.Prelude.{codes, decimal}
use Rattle.std.specs.List.{flat_map, zip}
use Rattle.std.proofs.lemmas.List.{append-nil, take_more}
use Rattle.std.proofs.lemmas.List.Elements.{filter-append}
use Rattle.std.proofs.lemmas.Grind.{flat_map-append}
use Rattle.std.proofs.Math.Path.{fun_ext}
use Rattle.desk_data.specs.Situation.{Situation}
use Rattle.desk_rules.specs.Numbers.{numbers}
use Rattle.desk_rules.proofs.HourLaws.{length-numbers}
use Rattle.desk_model.specs.declared.answer.Entry.{Entry}
use Rattle.desk_model.specs.Histories.{is_batch}
use Rattle.output_texts.proofs.PartsLaws.{answer-same}
use Rattle.desk_tasks.specs.Outcome.{line}
use Rattle.desk_tasks.specs.Play.{batch_entries, batch_line, batch_lines}

zip_after : {A B : Type 0} (xs : List A) (ys : List B) (x : A) (y : B) → length xs ≡ length ys → zip (xs ++ x ∷ []) (ys ++ y ∷ []) ≡ zip xs ys ++ (x, y) ∷ []
zip_after [] [] x y e = refl
zip_after [] (b ∷ ys) x y e = absurd (omega (arith, e))
zip_after (a ∷ xs) [] x y e = absurd (omega (arith, e))
zip_after (a ∷ xs) (b ∷ ys) x y e = ap (λ (t : List _). (a, b) ∷ t) (zip_after xs ys x y (omega (arith, e)))

-- one batch more
batches-batch : (h : List Entry) (entry : Entry) → is_batch entry.event ≡ true → batch_entries (h ++ entry ∷ []) ≡ batch_entries h ++ entry ∷ []
batches-batch h entry is = filter-append (λ (e : Entry). is_batch e.event) h (entry ∷ []) ∙ (rw is refl)

batches-move : (h : List Entry) (entry : Entry) → is_batch entry.event ≡ false → batch_entries (h ++ entry ∷ []) ≡ batch_entries h
batches-move h entry is = filter-append (λ (e : Entry). is_batch e.event) h (entry ∷ []) ∙ (rw is (append-nil (batch_entries h)))

-- the numbers of a list with one element more
numbered-more : (bs : List Entry) (entry : Entry) → zip (numbers (length (bs ++ entry ∷ []))) (bs ++ entry ∷ []) ≡ zip (numbers (length bs)) bs ++ (length bs, entry) ∷ []
numbered-more bs entry =
    let n : length (bs ++ entry ∷ []) ≡ suc (length bs) = length-append bs (entry ∷ []) ∙ add-one (length bs) in
    ap (λ (k : ℕ). zip (numbers k) (bs ++ entry ∷ [])) n ∙ zip_after (numbers (length bs)) bs (length bs) entry (length-numbers (length bs))

pub lines-batch : (I : Situation) (h : List Entry) (entry : Entry) → is_batch entry.event ≡ true → batch_lines I (h ++ entry ∷ []) ≡ batch_lines I h ++ batch_line I (length (batch_entries h)) entry.answer
unfolding batch_lines
lines-batch I h entry is =
    let line = λ (numbered : ℕ × Entry). batch_line I numbered.0 numbered.1.answer in
    ap (λ (bs : List Entry). flat_map line (zip (numbers (length bs)) bs)) (batches-batch h entry is)
    ∙ ap (flat_map line) (numbered-more (batch_entries h) entry)
    ∙ flat_map-append line (zip (numbers (length (batch_entries h))) (batch_entries h)) ((length (batch_entries h), entry) ∷ [])
    ∙ ap (λ (t : List ℕ). batch_lines I h ++ t) (append-nil (batch_line I (length (batch_entries h)) entry.answer))

pub lines-move : (I : Situation) (h : List Entry) (entry : Entry) → is_batch entry.event ≡ false → batch_lines I (h ++ entry ∷ []) ≡ batch_lines I h
unfolding batch_lines
lines-move I h entry is =
    let line = λ (numbered : ℕ × Entry). batch_line I numbered.0 numbered.1.answer in
    ap (λ (bs : List Entry). flat_map line (zip (numbers (length bs)) bs)) (batches-move h entry is)

-- so many bytes are reported of the first entries, and so many batches are among them
pub record IsReported (I : Situation) (before now : List ℕ) (number i : ℕ) (h : List Entry) : Type 0 where
  pub text : now ≡ before ++ batch_lines I (take i h)
  pub number_is : number ≡ length (batch_entries (take i h))
  pub small : number ≤ i

pub reported-start : (I : Situation) (before : List ℕ) (h : List Entry) → IsReported I before before 0 0 h
unfolding batch_lines
reported-start I before h = record { text = sym (append-nil before); number_is = refl; small = omega arith }

one_more : (h : List Entry) (i : ℕ) (entry : Entry) → i < length h → entry ≡ get_or h i entry → take (i + 1) h ≡ take i h ++ entry ∷ []
one_more h i entry lt at = take_more h i entry lt ∙ ap (λ (e : Entry). take i h ++ e ∷ []) (sym at)

pub reported-batch : (I : Situation) (before mid now : List ℕ) (number i : ℕ) (h : List Entry) (entry : Entry) → i < length h → entry ≡ get_or h i entry → is_batch entry.event ≡ true → now ≡ mid ++ batch_line I number entry.answer → IsReported I before mid number i h → IsReported I before now (number + 1) (i + 1) h
reported-batch I before mid now number i h entry lt at is text given =
    let n = given.number_is in
    let more = one_more h i entry lt at in
    record {
      text = text
          ∙ ap (λ (t : List ℕ). t ++ batch_line I number entry.answer) given.text
          ∙ append_assoc before (batch_lines I (take i h)) (batch_line I number entry.answer)
          ∙ ap (λ (k : ℕ). before ++ (batch_lines I (take i h) ++ batch_line I k entry.answer)) n
          ∙ ap (λ (t : List ℕ). before ++ t) (sym (lines-batch I (take i h) entry is))
          ∙ ap (λ (t : List Entry). before ++ batch_lines I t) (sym more);
      number_is = ap (λ (k : ℕ). k + 1) n ∙ sym (length-append (batch_entries (take i h)) (entry ∷ [])) ∙ ap length (sym (batches-batch (take i h) entry is)) ∙ ap (λ (t : List Entry). length (batch_entries t)) (sym more);
      small = omega (arith, given.small);
    }

pub reported-move : (I : Situation) (before now : List ℕ) (number i : ℕ) (h : List Entry) (entry : Entry) → i < length h → entry ≡ get_or h i entry → is_batch entry.event ≡ false → IsReported I before now number i h → IsReported I before now number (i + 1) h
reported-move I before now number i h entry lt at is given =
    let more = one_more h i entry lt at in
    record {
      text = given.text ∙ ap (λ (t : List ℕ). before ++ t) (sym (lines-move I (take i h) entry is)) ∙ ap (λ (t : List Entry). before ++ batch_lines I t) (sym more);
      number_is = given.number_is ∙ ap length (sym (batches-move (take i h) entry is)) ∙ ap (λ (t : List Entry). length (batch_entries t)) (sym more);
      small = omega (arith, given.small);
    }

-- the orders taken and how far the day has gone on make no difference to the lines
pub lines-same : (I J : Situation) → I.parts ≡ J.parts → (h : List Entry) → batch_lines I h ≡ batch_lines J h
unfolding batch_lines
lines-same I J same h =
    ap (λ (text : ℕ × Entry → List ℕ). flat_map text (zip (numbers (length (batch_entries h))) (batch_entries h)))
    (fun_ext (λ (numbered : ℕ × Entry). ap (λ (given : List ℕ). line (codes "batch " ++ decimal numbered.0 ++ codes " " ++ given)) (answer-same I J same numbered.1.answer)))
