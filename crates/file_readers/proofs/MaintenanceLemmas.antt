-- The last dash of a field, found from the end.
use Rattle.std.proofs.Common.{◌≡◌, ℕ, suc, ◌+◌, ◌-◌, Bool, true, false, cond, ltb, ◌||◌, not, List, [], ◌∷◌, length, take, drop, reverse, Some, None, refl, sym, ◌∙◌, arith, position}
use Rattle.std.specs.List.{list_any, position_or_len}
use Rattle.std.proofs.lemmas.Bool.Decides.{nat_tests}
use Rattle.std.proofs.lemmas.Option.{cond_some}
use Rattle.std.proofs.lemmas.List.Sorted.{IsPermutation-reverse, list_any-IsPermutation}
use Rattle.file_readers.specs.Maintenance.{is_dash, cut_at_last_dash}

one_more : (here rest : Bool) (n m : ℕ) → rest ≡ ltb n m → (here || rest) ≡ ltb (cond (not here) (1 + n) 0) (suc m)
one_more true rest n m e = grind (arith, nat_tests)
one_more false rest n m e = e ∙ grind (arith, nat_tests)

-- an element passes where the first that passes comes before the end
any_is_before_end : (p : ℕ → Bool) (xs : List ℕ) → list_any p xs ≡ ltb (position_or_len p xs) (length xs)
any_is_before_end p [] = refl
any_is_before_end p (x ∷ xs) = one_more (p x) (list_any p xs) (position_or_len p xs) (length xs) (any_is_before_end p xs)

-- there is a dash where one is found from the end
found : (bytes : List ℕ) → list_any is_dash bytes ≡ ltb (position_or_len is_dash (reverse bytes)) (length (reverse bytes))
found bytes = list_any-IsPermutation is_dash bytes (reverse bytes) (IsPermutation-reverse bytes) ∙ any_is_before_end is_dash (reverse bytes)

cond_none : {A : Type 0} (b : Bool) (x : A) → cond b (Some x) None ≡ None → b ≡ false
cond_none true x e = absurd cc
cond_none false x e = refl

-- a dash is found
pub cut_found : (n : ℕ) (bytes front back : List ℕ) → Some n ≡ position is_dash (reverse bytes) → front ≡ take (length bytes - n - 1) bytes → back ≡ drop (length bytes - n) bytes → Some (front, back) ≡ cut_at_last_dash bytes
unfolding cut_at_last_dash
cut_found n bytes front back e is_front is_back =
    let h = cond_some (ltb (position_or_len is_dash (reverse bytes)) (length (reverse bytes))) (position_or_len is_dash (reverse bytes)) n (sym e) in
    rw (found bytes, h.0, h.1, is_front, is_back) refl

-- no dash is found
pub cut_none : (bytes : List ℕ) → None ≡ position is_dash (reverse bytes) → None ≡ cut_at_last_dash bytes
unfolding cut_at_last_dash
cut_none bytes e =
    let h = cond_none (ltb (position_or_len is_dash (reverse bytes)) (length (reverse bytes))) (position_or_len is_dash (reverse bytes)) (sym e) in
    rw (found bytes, h) refl
