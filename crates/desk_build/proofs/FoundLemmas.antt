-- What is found stands among the rows.
use Rattle.std.proofs.Common.{◌≡◌, ℕ, ◌<◌, Bool, true, false, cond, List, [], ◌∷◌, length, Option, Some, None, refl, subst, All}
use Rattle.std.specs.Prelude.{find, position, is_some, unwrap_or}
use Rattle.std.specs.Option.{option_or}
use Rattle.std.proofs.lemmas.Bool.{false≢true}
use Rattle.std.proofs.lemmas.List.Elements.{All-head, All-tail}
use Rattle.std.proofs.lemmas.List.Quantifiers.{position-Some}

-- a place that is found is among the rows
pub place_within : {A : Type 0} (p : A → Bool) (xs : List A) (k : ℕ) → position p xs ≡ Some k → k < length xs
place_within p [] k e = absurd cc
place_within p (x ∷ xs) k e = (position-Some p (x ∷ xs) k x e).0

place_by : {A : Type 0} (p : A → Bool) (xs : List A) (o : Option ℕ) → position p xs ≡ o → is_some o ≡ true → unwrap_or o 0 < length xs
place_by p xs None at known = absurd (false≢true known)
place_by p xs (Some k) at known = place_within p xs k at

pub known_within : {A : Type 0} (p : A → Bool) (xs : List A) → is_some (position p xs) ≡ true → unwrap_or (position p xs) 0 < length xs
known_within p xs known = place_by p xs (position p xs) refl known

-- what is found is one of the rows
found_by : {A : Type 0} (P : A → Type 0) (y x : A) (b : Bool) (rest : Option A) → P y → (rest ≡ Some x → P x) → cond b (Some y) rest ≡ Some x → P x
found_by P y x true rest h more e = let same : y ≡ x = cc in subst P same h
found_by P y x false rest h more e = more e

pub found : {A : Type 0} (P : A → Type 0) (p : A → Bool) (xs : List A) (x : A) → All P xs → find p xs ≡ Some x → P x
found P p [] x h e = absurd cc
found P p (y ∷ ys) x h e = found_by P y x (p y) (find p ys) (All-head P y ys h) (found P p ys x (All-tail P y ys h)) e

-- what is found first or second is one of the rows
pub found_either : {A : Type 0} (P : A → Type 0) (p q : A → Bool) (xs : List A) (x : A) → All P xs → option_or (find p xs) (find q xs) ≡ Some x → P x
found_either P p q xs x h e = either_by P (find p xs) (find q xs) x (found P p xs x h) (found P q xs x h) e where
  either_by : {A : Type 0} (P : A → Type 0) (a b : Option A) (x : A) → (a ≡ Some x → P x) → (b ≡ Some x → P x) → option_or a b ≡ Some x → P x
  either_by P None b x one other e = other e
  either_by P (Some y) b x one other e = one e
