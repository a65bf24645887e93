-- The lines of the first entries of a history.
use Rattle.std.proofs.Common.{◌≡◌, ℕ, ◌+◌, ◌<◌, Bool, true, false, cond, List, [], ◌∷◌, ◌++◌, length, get_or, take, sym, ap, ◌∙◌, arith}
use Rattle.std.specs.List.{enumerate_from, flat_map}
use Rattle.std.proofs.lemmas.List.{append-nil, take_more, length-take}
use Rattle.std.proofs.lemmas.List.Concat.{flat_map-append}
use Rattle.std.proofs.lemmas.List.Sums.{count_by_more_no, count_by_more_yes}
use Rattle.desk_data.specs.Situation.{Situation}
use Rattle.desk_model.specs.declared.answer.Entry.{Entry}
use Rattle.desk_model.specs.Histories.{is_batch}
use Rattle.output_texts.specs.Lines.{batches, line_at, line_text}

pub enumerate-append : {X : Type 0} (n : ℕ) (xs ys : List X) → enumerate_from n (xs ++ ys) ≡ enumerate_from n xs ++ enumerate_from (n + length xs) ys
enumerate-append n [] ys = let same : n ≡ n + 0 = omega arith in ap (λ (k : ℕ). enumerate_from k ys) same
enumerate-append n (x ∷ xs) ys =
    let same : n + 1 + length xs ≡ n + length (x ∷ xs) = omega arith in
    ap (λ all. (n, x) ∷ all) (enumerate-append (n + 1) xs ys ∙ ap (λ (k : ℕ). enumerate_from (n + 1) xs ++ enumerate_from k ys) same)

module _ (I : Situation) (h : List Entry) (i : ℕ) (entry : Entry) (within : i < length h) (is : entry ≡ get_or h i entry) where
  -- the line of one more entry
  pub lines_more : flat_map (line_at I h) (enumerate_from 0 (take i h)) ++ line_text I (batches (take i h)) entry ≡ flat_map (line_at I h) (enumerate_from 0 (take (i + 1) h))
  lines_more =
      let long : 0 + length (take i h) ≡ i = omega (arith, length-take i h) in
      let one_more : take (i + 1) h ≡ take i h ++ entry ∷ [] = take_more h i entry within ∙ ap (λ (e : Entry). take i h ++ e ∷ []) (sym is) in
      sym (ap (λ (es : List Entry). flat_map (line_at I h) (enumerate_from 0 es)) one_more
      ∙ ap (flat_map (line_at I h)) (enumerate-append 0 (take i h) (entry ∷ []))
      ∙ ap (λ (k : ℕ). flat_map (line_at I h) (enumerate_from 0 (take i h) ++ (k, entry) ∷ [])) long
      ∙ flat_map-append (line_at I h) (enumerate_from 0 (take i h)) ((i, entry) ∷ [])
      ∙ ap (λ (text : List ℕ). flat_map (line_at I h) (enumerate_from 0 (take i h)) ++ text) (append-nil (line_text I (batches (take i h)) entry)))

  -- it counts where it is a batch
  pub batches_more : (b : Bool) → b ≡ is_batch entry.event → batches (take (i + 1) h) ≡ batches (take i h) + cond b 1 0
  batches_more true same = count_by_more_yes (λ e. is_batch e.event) h i entry within (ap (λ (e : Entry). is_batch e.event) (sym is) ∙ sym same)
  batches_more false same = omega (arith, count_by_more_no (λ e. is_batch e.event) h i entry within (ap (λ (e : Entry). is_batch e.event) (sym is) ∙ sym same))
