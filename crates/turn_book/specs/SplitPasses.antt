-- Passes that are split from one, and joined into it again in the same order.
use Rattle.std.specs.Prelude.{◌≡◌, ◌≢◌, ◌⊎◌, ℕ, ◌+◌, ◌<◌, true, false, Some, List, [], ◌∷◌, ◌++◌, length, slice_get}
use mathlib.Core.List.{IsPrefix}
use Rattle.turn_book.specs.declared.view.View.{View}
use Rattle.turn_book.specs.Names.{Name, knows}
use Rattle.turn_book.specs.Places.{has}
use Rattle.turn_book.specs.Knowing.{tags_at}

module _ {O I : Type 0} where
  -- the name of the pass that is split as number i, from 0
  abbrev pub child : View O I → ℕ → Name
  child v i = v.tags.name ++ (v.tags.splits + i + 1) ∷ []

  -- a name that is out was out, or is that of one of the first n passes
  abbrev pub IsOutOrChild : ℕ → View O I → Name → Type 0
  IsOutOrChild n v m = (knows m v.tags.out ≡ true) ⊎ ((i : ℕ) × (i < n) × (m ≡ child v i))

  -- n passes were split
  pub record AreSplit (n : ℕ) (v w : View O I) : Type 0 where
    pub seen : w.seen ≡ v.seen
    pub made : w.made ≡ v.made
    pub name : w.tags.name ≡ v.tags.name
    pub names : w.tags.names ≡ v.tags.names
    pub splits : w.tags.splits ≡ v.tags.splits + n
    pub out : (m : Name) → knows m w.tags.out ≡ true → IsOutOrChild n v m

  -- a pass that was split as number i knows this now: it has seen at least as much, and none was split from it
  pub record IsSplitOff (v : View O I) (i : ℕ) (t : View O I) : Type 0 where
    pub began : IsPrefix v.seen t.seen
    pub tags : t.tags ≡ tags_at (child v i)

  -- one of some passes has made the place
  abbrev pub SomeMade : List (View O I) → ℕ → Type 0
  SomeMade taken k = (j : ℕ) × (t : View O I) × (slice_get taken j ≡ Some t) × (has k t.made ≡ true)

  -- this history was seen by v, or by one of some passes
  abbrev pub IsOneOf : View O I → List (View O I) → List I → Type 0
  IsOneOf v taken seen = (seen ≡ v.seen) ⊎ ((j : ℕ) × (t : View O I) × (slice_get taken j ≡ Some t) × (seen ≡ t.seen))

  -- n passes were split from v, and some first ones of them were joined again. What these knew then is taken
  pub record AreJoined (n : ℕ) (v w : View O I) (taken : List (View O I)) : Type 0 where
    pub began : IsPrefix v.seen w.seen
    pub whose : IsOneOf v taken w.seen
    pub all : (j : ℕ) (t : View O I) → slice_get taken j ≡ Some t → IsPrefix t.seen w.seen
    pub name : w.tags.name ≡ v.tags.name
    pub out : (m : Name) → knows m w.tags.out ≡ true → IsOutOrChild n v m
    pub back : (j : ℕ) → j < length taken → knows (child v j) w.tags.names ≡ true
    pub gone : 0 < length taken → (m : Name) → knows m w.tags.out ≡ true → knows m w.tags.names ≡ false
    -- the places: those that were made before, and those of the passes, each in one list alone
    pub made_only : (k : ℕ) → has k w.made ≡ true → (has k v.made ≡ true) ⊎ SomeMade taken k
    pub made_before : (k : ℕ) → has k v.made ≡ true → has k w.made ≡ true
    pub made_since : (k : ℕ) → SomeMade taken k → has k w.made ≡ true
    pub new : (k : ℕ) → SomeMade taken k → has k v.made ≡ false
    pub apart : (i j : ℕ) (t u : View O I) (k : ℕ) → i ≢ j → slice_get taken i ≡ Some t → slice_get taken j ≡ Some u → has k t.made ≡ true → has k u.made ≡ false
