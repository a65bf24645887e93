-- A set that is kept in order, with room.
use Rattle.std.specs.Prelude.{◌≡◌, ◌≢◌, ℕ, ◌-◌, ◌<◌, ◌≤◌, ◌⊎◌, List, [], ◌∷◌, length, All, Option, None, Some, IfSome, IsTrue, ◌↔◌, Bool, true, false}
use Rattle.std.specs.List.{AllPairs, AllWithin, Contains, HoldsAt}
use Rattle.std.specs.declared.cmp.Ordering.{Ordering}
use Rattle.std.specs.declared.cmp.Ordering.TheVariants.{Less, Equal, Greater}

-- the items, and how many there is room for
pub record OrderedItems (K : Type 0) : Type 0 where
  pub items : List K
  pub room : ℕ

-- items that compare alike are one
abbrev pub IsExact : {K : Type 0} → (K → K → Ordering) → Type 0
IsExact {K} cmp = (x y : K) → cmp x y ≡ Equal → x ≡ y

-- each item is below those after it
abbrev pub AreRising : {K : Type 0} → (K → K → Ordering) → List K → Type 0
AreRising cmp items = AllPairs (λ a b. cmp a b ≡ Less) items

-- the same items, but that one item is among them exactly where a test says so
pub record AreSet {K : Type 0} (old new : List K) (item : K) (is_in : Bool) : Type 0 where
  pub here : IsTrue is_in ↔ Contains new item
  pub others : (y : K) → y ≢ item → Contains new y ↔ Contains old y

-- the same, where one item comes if it was not among them, and else goes
abbrev pub IsToggled : {K : Type 0} → List K → List K → K → Type 0
IsToggled old new item = (Contains old item × AreSet old new item false) ⊎ ((Contains old item → ⊥) × AreSet old new item true)

-- one item goes, and then another comes
pub record AreReplaced {K : Type 0} (old new : List K) (from to : K) : Type 0 where
  pub mid : List K
  pub had : Contains old from
  pub gone : AreSet old mid from false
  pub come : AreSet mid new to true
  pub lacked : Contains mid to → ⊥

-- another item has the place of an item: what is below the one is below the other, and what is above the one above the other
abbrev pub KeepsPlace : {K : Type 0} → (K → K → Ordering) → List K → K → K → Type 0
KeepsPlace cmp items from to = All (λ y. (cmp y from ≡ Less → cmp y to ≡ Less) × (cmp from y ≡ Less → cmp to y ≡ Less)) items

-- where an item would stand that is not among the items
pub record IsGap {K : Type 0} (cmp : K → K → Ordering) (items : List K) (item : K) (at : ℕ) : Type 0 where
  pub within : at ≤ length items
  pub before : AllWithin (λ y. cmp y item ≡ Less) items 0 at
  pub after : AllWithin (λ y. cmp y item ≡ Greater) items at (length items)

-- the greatest item below an item, if there is one
abbrev pub IsLastBefore : {K : Type 0} → (K → K → Ordering) → List K → K → Option K → Type 0
IsLastBefore cmp items item None = All (λ y. cmp y item ≢ Less) items
IsLastBefore cmp items item (Some z) = Contains items z × (cmp z item ≡ Less) × All (λ y. cmp y item ≡ Less → (y ≡ z) ⊎ (cmp y z ≡ Less)) items

-- the least item above an item, if there is one
abbrev pub IsFirstAfter : {K : Type 0} → (K → K → Ordering) → List K → K → Option K → Type 0
IsFirstAfter cmp items item None = All (λ y. cmp item y ≢ Less) items
IsFirstAfter cmp items item (Some z) = Contains items z × (cmp item z ≡ Less) × All (λ y. cmp item y ≡ Less → (y ≡ z) ⊎ (cmp z y ≡ Less)) items

-- the first of a list, if it has one
abbrev pub first : {X : Type 0} → List X → Option X
first [] = None
first (x ∷ xs) = Some x

-- the item at a place, and that before it, if there is one
abbrev pub IsItemAt : {K : Type 0} → List K → ℕ → Option K → Type 0
IsItemAt items at None = length items ≤ at
IsItemAt items at (Some z) = (at < length items) × HoldsAt (λ y. y ≡ z) items at

abbrev pub IsItemBefore : {K : Type 0} → List K → ℕ → Option K → Type 0
IsItemBefore items at None = at ≡ 0
IsItemBefore items at (Some z) = (at ≢ 0) × HoldsAt (λ y. y ≡ z) items (at - 1)

-- an item is above one, and below another, where there are these
pub record IsBetween {K : Type 0} (cmp : K → K → Ordering) (before : Option K) (item : K) (after : Option K) : Type 0 where
  pub above : IfSome before (λ y. cmp y item ≡ Less)
  pub below : IfSome after (λ y. cmp item y ≡ Less)
