-- The first item that passes, by the items that pass.
use Rattle.std.proofs.Common.{◌≡◌, ◌⊎◌, inl, inr, Bool, true, false, List, [], ◌∷◌, refl, sym, ap, arith}
use Rattle.std.specs.Prelude.{find, None, Some}
use Rattle.std.specs.List.{AllPairs, Contains}
use Rattle.std.proofs.lemmas.Bool.{cases_Bool}
use Rattle.kept_set.specs.Kept.{first}
pub use Rattle.kept_set.proofs.ListLaws.{contains-cons, contains-first, contains-rest, pairs-first, pairs-rest, none_in}
use Rattle.board_kit.specs.Items.{AreThose}

-- nothing passes
pub find-nothing : {X : Type 0} (p : X → Bool) (xs : List X) → ((y : X) → Contains xs y → p y ≡ false) → find p xs ≡ None
find-nothing p [] fails = refl
find-nothing p (x ∷ xs) fails = rw (fails x (contains-first x xs)) (find-nothing p xs (λ y in_xs. fails y (contains-rest x y xs in_xs)))

-- in a list in order, what passes and comes before all others that pass is found
pub find-least : {X : Type 0} (R : X → X → Type 0) (p : X → Bool) (xs : List X) (x : X) → ((a b : X) → R a b → R b a → ⊥) → AllPairs R xs → Contains xs x → p x ≡ true → ((y : X) → Contains xs y → p y ≡ true → (y ≡ x) ⊎ R x y) → find p xs ≡ Some x
find-least R p [] x asym order (k, lt, is) here least = absurd (omega arith)
find-least R p (z ∷ xs) x asym order in_xs here least =
    elim (cases_Bool (p z)) [
      | inl passes ↦ rw passes (ap Some (elim (least z (contains-first z xs) passes) [
        | inl same ↦ same
        | inr before ↦ elim (contains-cons z x xs in_xs) [
          | inl same ↦ sym same
          | inr later ↦ absurd (asym x z before (pairs-first R z x xs order later))
        ]
      ]))
      | inr fails ↦ rw fails (find-least R p xs x asym (pairs-rest R z xs order)
          (elim (contains-cons z x xs in_xs) [
            | inl same ↦ absurd cc
            | inr later ↦ later
          ]) here (λ y in_after. least y (contains-rest z y xs in_after)))
    ]

none_kept : {X : Type 0} (y : X) → Contains [] y → ⊥
none_kept y (k, lt, is) = omega arith

passes_not : {X : Type 0} (p : X → Bool) (xs : List X) → ((y : X) → Contains xs y → p y ≡ true → Contains [] y) → (y : X) → Contains xs y → p y ≡ false
passes_not p xs whole y in_xs = elim (cases_Bool (p y)) [
  | inl passes ↦ absurd (none_kept y (whole y in_xs passes))
  | inr fails ↦ fails
]

-- the first of the items that pass, kept in order, is the first of all that passes
pub first_is_find : {X : Type 0} (R : X → X → Type 0) (p : X → Bool) (xs kept : List X) → ((a b : X) → R a b → R b a → ⊥) → AllPairs R xs → AllPairs R kept → AreThose p xs kept → first kept ≡ find p xs
first_is_find R p xs [] asym order kept_so those = sym (find-nothing p xs (passes_not p xs (λ y in_xs passes. (those y).1 (in_xs, passes))))
first_is_find R p xs (x ∷ kept) asym order kept_so those =
    let is = (those x).0 (contains-first x kept) in
    sym (find-least R p xs x asym order is.0 is.1
    (λ y in_xs passes. elim (contains-cons x y kept ((those y).1 (in_xs, passes))) [
      | inl same ↦ inl same
      | inr later ↦ inr (pairs-first R x y kept kept_so later)
    ]))
