-- Journals of a book, and histories of a turn, as lists.
use Rattle.std.specs.Prelude.{◌≡◌, ℕ, zero, suc, Bool, List, [], ◌∷◌, ◌++◌, Option, Some, None, is_some, length, take, slice_get}

-- what an answer puts after a journal: its item, or nothing
abbrev pub listed : {I : Type 0} → Option I → List I
listed (Some x) = x ∷ []
listed None = []

-- the place of an item that is added after a history, if one is
abbrev pub placed : {I : Type 0} → List I → Option I → List ℕ
placed before (Some x) = length before ∷ []
placed before None = []

-- the items at these places
abbrev pub items_at : {I : Type 0} → List I → List ℕ → List I
items_at xs [] = []
items_at xs (k ∷ ks) = listed (slice_get xs k) ++ items_at xs ks

-- n places, from place a on
abbrev pub places_from : ℕ → ℕ → List ℕ
places_from a zero = []
places_from a (suc n) = a ∷ places_from (suc a) n

module _ {O A R I : Type 0} (may_ask : O → A → Type 0) (answers : O → List I → ℕ → A → R → Option I → Type 0) where
  -- A journal is legal from an opening where each item was added by an answer, at the journal before it, to some ask that may be asked, of some caller.
  abbrev pub IsLegal : O → List I → Type 0
  IsLegal o xs = (k : ℕ) (x : I) → slice_get xs k ≡ Some x
      → (caller : ℕ) × (ask : A) × (reply : R) × may_ask o ask × answers o (take k xs) caller ask reply (Some x)

module _ {O A R I : Type 0} (answers : O → List I → ℕ → A → R → Option I → Type 0) (tells : R → Bool) where
  -- The reply is one at the journal before, and after that journal stands the item of the answer, or none, as the reply says.
  abbrev pub Served : O → List I → ℕ → A → R → List I → Type 0
  Served o before caller ask reply after = (added : Option I) × answers o before caller ask reply added × (after ≡ before ++ listed added) × (is_some added ≡ tells reply)
