-- A cut takes off the first piece.
use Rattle.std.proofs.Common.{◌≡◌, ℕ, ◌+◌, ◌-◌, ◌<◌, Bool, true, false, cond, ltb, List, [], ◌∷◌, length, take, drop, Option, Some, None, refl, sym, ap, ◌∙◌, arith, option_map, position}
use Rattle.std.specs.List.{slice_split, position_or_len, list_all}
use Rattle.std.proofs.lemmas.Bool.{ltb-true, ltb-false, lt-ltb, le-ltb, and_parts, cond-true, cond-false, false_from_ne_true}
use Rattle.std.proofs.lemmas.List.{take_all, drop-drop, length-drop, take-append-drop}
use Rattle.std.proofs.lemmas.List.Folds.{list_all-append}
use Rattle.std.proofs.lemmas.List.Splits.{slice_split_first, slice_split_none}
use Rattle.std.proofs.lemmas.List.Sums.{fails_before_first, position_or_len_is}
use Rattle.memchr.specs.Find.{IsFirstByte}
use Rattle.desk_text.specs.Cuts.{cut_where}

-- the cut at a place that is there
abbrev parts_at : ℕ → List ℕ → List ℕ × List ℕ
parts_at n bytes = (take n bytes, drop (n + 1) bytes)

cut_there : (there : Bool) (n : ℕ) (bytes : List ℕ) (x : List ℕ × List ℕ) → option_map (λ k. parts_at k bytes) (cond there (Some n) None) ≡ Some x → (there ≡ true) × (parts_at n bytes ≡ x)
cut_there true n bytes x e = (refl, cc)
cut_there false n bytes x e = absurd cc

cut_not : (there : Bool) (n : ℕ) (bytes : List ℕ) → option_map (λ k. parts_at k bytes) (cond there (Some n) None) ≡ None → there ≡ false
cut_not true n bytes e = absurd cc
cut_not false n bytes e = refl

module _ (p : ℕ → Bool) where
  -- what is cut off is the first piece, and what is left has the others
  pub split_cut : (bytes front back : List ℕ) → cut_where p bytes ≡ Some (front, back) → slice_split p bytes ≡ front ∷ slice_split p back
  split_cut bytes front back e =
      let n = position_or_len p bytes in
      let h = cut_there (ltb n (length bytes)) n bytes (front, back) e in
      slice_split_first p bytes 0 (ltb-true _ _ h.0) ∙ ap (λ (x : List ℕ × List ℕ). x.0 ∷ slice_split p x.1) h.1

  -- where nothing is cut off there is one piece
  pub split_uncut : (bytes : List ℕ) → cut_where p bytes ≡ None → slice_split p bytes ≡ bytes ∷ []
  split_uncut bytes e =
      let n = position_or_len p bytes in
      let h = ltb-false _ _ (cut_not (ltb n (length bytes)) n bytes e) in
      slice_split_none p bytes (λ k d lt. fails_before_first p bytes k d (omega arith))

  -- the cut at the first such byte
  pub cut_at_place : (n : ℕ) (bytes front back : List ℕ) → Some n ≡ position p bytes → front ≡ take n bytes → back ≡ drop (n + 1) bytes → Some (front, back) ≡ cut_where p bytes
  cut_at_place n bytes front back place is_front is_back = (λ i. Some (is_front i, is_back i)) ∙ ap (option_map (λ k. parts_at k bytes)) place

  -- the first place that passes, where there is one, is the position
  pub first_is_position : (bytes : List ℕ) (r : Option ℕ) → IsFirstByte p bytes r → r ≡ position p bytes
  first_is_position bytes None none =
      let at_end : position_or_len p bytes ≡ length bytes = position_or_len_is p bytes (length bytes) 0 (omega arith) (λ k lt. false_from_ne_true _ (none k (omega arith) lt)) (λ lt. absurd (omega arith)) in
      sym (cond-false _ (Some (position_or_len p bytes)) None (le-ltb (position_or_len p bytes) (length bytes) (omega arith)))
  first_is_position bytes (Some k) first =
      let high : k < length bytes = first.0.high in
      let there : position_or_len p bytes ≡ k = position_or_len_is p bytes k 0 (omega arith) (λ j lt. false_from_ne_true _ (first.0.before j (omega arith) lt)) (λ lt. first.1) in
      ap Some (sym there) ∙ sym (cond-true _ (Some (position_or_len p bytes)) None (lt-ltb (position_or_len p bytes) (length bytes) (omega arith)))

  -- all of a list is its front and what comes after
  pub all_taken : (n : ℕ) (bytes : List ℕ) → list_all p bytes ≡ true → list_all p (take n bytes) ≡ true
  all_taken n bytes all = (and_parts _ _ (sym (list_all-append p (take n bytes) (drop n bytes)) ∙ ap (list_all p) (take-append-drop n bytes) ∙ all)).0

  pub all_dropped : (n : ℕ) (bytes : List ℕ) → list_all p bytes ≡ true → list_all p (drop n bytes) ≡ true
  all_dropped n bytes all = (and_parts _ _ (sym (list_all-append p (take n bytes) (drop n bytes)) ∙ ap (list_all p) (take-append-drop n bytes) ∙ all)).1

-- what comes after a place, in two steps
pub after_place : (n : ℕ) (bytes back : List ℕ) → back ≡ drop n bytes → take (length back - 1) (drop 1 back) ≡ drop (n + 1) bytes
after_place n bytes back is_back = take_all (length back - 1) (drop 1 back) (omega (arith, length-drop 1 back)) ∙ ap (drop 1) is_back ∙ drop-drop 1 n bytes
