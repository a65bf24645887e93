-- The first and the greatest number of which a test holds.
use Rattle.std.proofs.Common.{◌≡◌, ℕ, zero, suc, ◌+◌, ◌-◌, ◌<◌, ◌≤◌, ◌⊎◌, inl, inr, Bool, true, false, cond, List, [], ◌∷◌, refl, sym, ap, subst, ◌∙◌, arith, add-one}
use Rattle.std.specs.Prelude.{find, map, reverse, None, Some, Option, unwrap_or}
use Rattle.std.specs.Option.{option_or}
use Rattle.std.proofs.lemmas.Bool.{cases_Bool, cases_order, true≢false}
use Rattle.std.proofs.lemmas.List.{map-append, reverse-append}
use Rattle.std.proofs.lemmas.List.Folds.{find-append}
use Rattle.desk_rules.specs.Numbers.{numbers}
use Rattle.desk_rules.proofs.FindLaws.{none_of_numbers, numbers_none, first_of_numbers}
use Rattle.desk_model.specs.Choices.{first_within, greatest_within, IsFirstWithin, HoldsOfNone, IsGreatestWithin}

-- ---- the first

-- the place of the first of some numbers of which the test holds
pub record FirstAt (test : ℕ → Bool) (f : ℕ → ℕ) (n t : ℕ) : Type 0 where
  pub place : ℕ
  pub within : place < n
  pub is : f place ≡ t
  pub holds : test t ≡ true
  pub before : (j : ℕ) → j < place → test (f j) ≡ false

found_last : (test : ℕ → Bool) (f : ℕ → ℕ) (n t : ℕ) (b : Bool) → test (f n) ≡ b → cond b (Some (f n)) None ≡ Some t → ((j : ℕ) → j < n → test (f j) ≡ false) → FirstAt test f (suc n) t
found_last test f n t true here h before =
    let same : f n ≡ t = cc in
    record { place = n; within = omega arith; is = same; holds = subst (λ (k : ℕ). test k ≡ true) same here; before = before }
found_last test f n t false here h before = absurd cc

found_more : (test : ℕ → Bool) (f : ℕ → ℕ) (n t : ℕ) (o : Option ℕ) → find test (map f (numbers n)) ≡ o → option_or o (find test (f n ∷ [])) ≡ Some t → ((s : ℕ) → find test (map f (numbers n)) ≡ Some s → FirstAt test f n s) → FirstAt test f (suc n) t
found_more test f n t (Some s) is h earlier =
    let same : s ≡ t = cc in
    let at : FirstAt test f n t = earlier t (is ∙ ap Some same) in
    record { place = at.place; within = omega arith; is = at.is; holds = at.holds; before = at.before }
found_more test f n t None is h earlier = found_last test f n t (test (f n)) refl h (none_of_numbers test f n is)

pub found_first : (test : ℕ → Bool) (f : ℕ → ℕ) (n t : ℕ) → find test (map f (numbers n)) ≡ Some t → FirstAt test f n t
found_first test f zero t h = absurd cc
found_first test f (suc n) t h =
    let parts : option_or (find test (map f (numbers n))) (find test (f n ∷ [])) ≡ Some t =
    sym (find-append test (map f (numbers n)) (f n ∷ [])) ∙ ap (find test) (sym (map-append f (numbers n) (n ∷ []))) ∙ h in
    found_more test f n t (find test (map f (numbers n))) refl parts (λ s e. found_first test f n s e)

pub first_within-holds : (low high : ℕ) (test : ℕ → Bool) (t : ℕ) → first_within low high test ≡ Some t → IsFirstWithin low high test t
unfolding first_within
first_within-holds low high test t h =
    let at : FirstAt test (λ k. low + k) (high + 1 - low) t = found_first test (λ k. low + k) (high + 1 - low) t h in
    let within = at.within in
    let is = at.is in
    record {
      from = omega arith;
      to = omega arith;
      holds = at.holds;
      first = λ s from before.
          let there : low + (s - low) ≡ s = omega arith in
          subst (λ (k : ℕ). test k ≡ false) there (at.before (s - low) (omega arith));
    }

pub first_within-from : (low high : ℕ) (test : ℕ → Bool) (t : ℕ) → IsFirstWithin low high test t → first_within low high test ≡ Some t
unfolding first_within
first_within-from low high test t is =
    let from = is.from in
    let to = is.to in
    let there : low + (t - low) ≡ t = omega arith in
    first_of_numbers test (λ k. low + k) (high + 1 - low) (t - low) (omega arith)
    (subst (λ (k : ℕ). test k ≡ true) (sym there) is.holds)
    (λ j before. is.first (low + j) (omega arith) (omega arith))
    ∙ ap Some there

pub first_within-none : (low high : ℕ) (test : ℕ → Bool) → first_within low high test ≡ None → HoldsOfNone low high test
unfolding first_within
first_within-none low high test h s from to =
    let there : low + (s - low) ≡ s = omega arith in
    subst (λ (k : ℕ). test k ≡ false) there (none_of_numbers test (λ k. low + k) (high + 1 - low) h (s - low) (omega arith))

pub none-first_within : (low high : ℕ) (test : ℕ → Bool) → HoldsOfNone low high test → first_within low high test ≡ None
unfolding first_within
none-first_within low high test none = numbers_none test (λ k. low + k) (high + 1 - low) (λ k lt. none (low + k) (omega arith) (omega arith))

-- ---- the greatest

greatest_from : (test : ℕ → Bool) (n : ℕ) (b : Bool) → test n ≡ b → unwrap_or (cond b (Some n) (find test (reverse (numbers n)))) 0 ≡ cond b n (unwrap_or (find test (reverse (numbers n))) 0)
greatest_from test n true here = refl
greatest_from test n false here = refl

greatest-at : (test : ℕ → Bool) (n : ℕ) → unwrap_or (find test (reverse (numbers (suc n)))) 0 ≡ cond (test n) n (unwrap_or (find test (reverse (numbers n))) 0)
greatest-at test n =
    ap (λ (ns : List ℕ). unwrap_or (find test ns) 0) (reverse-append (numbers n) (n ∷ []))
    ∙ greatest_from test n (test n) refl

greatest_within-step : (test : ℕ → Bool) (n k : ℕ) (b : Bool) → test (suc n) ≡ b → IsGreatestWithin n test k → IsGreatestWithin (suc n) test (cond b (suc n) k)
greatest_within-step test n k true here is = record { to = omega arith; holds = inr here; greatest = λ j above within. absurd (omega arith) }
greatest_within-step test n k false here is =
    let to = is.to in
    record {
      to = omega arith;
      holds = is.holds;
      greatest = λ j above within.
          let cases : (j ≤ n) ⊎ (j ≡ suc n) = grind arith in
          elim cases [
            | inl less ↦ is.greatest j above less
            | inr last ↦ subst (λ (i : ℕ). test i ≡ false) (sym last) here
          ];
    }

pub greatest_within-holds : (n : ℕ) (test : ℕ → Bool) → IsGreatestWithin n test (greatest_within n test)
unfolding greatest_within
greatest_within-holds zero test =
    let here : unwrap_or (find test (reverse (numbers 1))) 0 ≡ 0 = greatest-at test 0 ∙ (elim (cases_Bool (test 0)) [ inl holds ↦ rw holds refl | inr fails ↦ rw fails refl ]) in
    subst (IsGreatestWithin 0 test) (sym here) (record { to = omega arith; holds = inl refl; greatest = λ j above within. absurd (omega arith) })
greatest_within-holds (suc n) test =
    rw (add-one, greatest-at test (suc n)) (greatest_within-step test n (unwrap_or (find test (reverse (numbers (suc n)))) 0) (test (suc n)) refl (rw add-one at (greatest_within-holds n test)))

-- there is one greatest number
pub greatest_within-is : (n : ℕ) (test : ℕ → Bool) (k : ℕ) → IsGreatestWithin n test k → greatest_within n test ≡ k
greatest_within-is n test k is =
    let own = greatest_within-holds n test in
    elim (cases_order (greatest_within n test) k) [
      | inl same ↦ same
      | inr rest ↦ elim rest [
        | inl more ↦ elim is.holds [
          | inl none ↦ absurd (omega (arith, none, more))
          | inr holds ↦ absurd (true≢false (sym holds ∙ own.greatest k more is.to))
        ]
        | inr less ↦ elim own.holds [
          | inl none ↦ absurd (omega (arith, none, less))
          | inr holds ↦ absurd (true≢false (sym holds ∙ is.greatest (greatest_within n test) less own.to))
        ]
      ]
    ]
