-- The order of items, their keys, and the items that pass a test when it changes at one of them.
use Rattle.std.proofs.Common.{◌≡◌, ◌≢◌, ℕ, ◌<◌, ◌⊎◌, inl, inr, Bool, List, [], ◌∷◌, length, get_or, refl, sym, ap, subst, ◌∙◌, arith}
use Rattle.std.specs.Prelude.{map}
use Rattle.std.specs.List.{AllPairs, Contains}
use Rattle.std.specs.Ordering.{nat_cmp, ordering_then}
use Rattle.std.specs.declared.cmp.Ordering.{Ordering}
use Rattle.std.specs.declared.cmp.Ordering.TheVariants.{Less, Equal}
use Rattle.std.proofs.lemmas.Bool.Decides.{nat_tests}
use Rattle.std.proofs.lemmas.List.{length-map, get_or-map, get_or_default}
use Rattle.desk_units.specs.declared.numbers.Cabin.TheVariants.{F, B, E}
use Rattle.desk_data.specs.declared.broken.Broken.{Broken}
use Rattle.desk_data.specs.declared.broken.Broken.TheVariants.{C1, C2, C3, C4, C5, C6, C7, C8, C9, C10, C11, C12, C13, C14, C15}
use Rattle.desk_rules.specs.Order.{rule_of, named_by, part_of, IsLess, ComesBefore}
use Rattle.kept_set.specs.Kept.{AreSet, AreRising, IsExact}
use Rattle.board_kit.specs.declared.key.ItemKey.{ItemKey}
use Rattle.board_kit.specs.Items.{AreThose, AreKeys, key_of, item_of}
use Rattle.board_kit.specs.contracts.key.ItemKeyOrd.TheImpl as keys
use Rattle.board_kit.proofs.FirstLaws.{contains-cons, contains-first, contains-rest}

-- ---- keys

pub item_is : (b : Broken) → item_of (key_of b) ≡ b
unfolding item_of
item_is (C1 x) = refl
item_is (C2 x) = refl
item_is (C3 x) = refl
item_is (C4 x) = refl
item_is (C5 x) = refl
item_is (C6 x) = refl
item_is (C7 x) = refl
item_is (C8 p) = refl
item_is (C9 p) = refl
item_is (C10 a h) = refl
item_is (C11 a h) = refl
item_is (C12 x F) = refl
item_is (C12 x B) = refl
item_is (C12 x E) = refl
item_is (C13 r) = refl
item_is (C14 r) = refl
item_is (C15 r) = refl

abbrev key : ℕ → ℕ → ℕ → ItemKey
key r n m = record { rule = r; named = n; part = m }

-- keys of the same numbers are one
same_key : (a b : ItemKey) → a.rule ≡ b.rule → a.named ≡ b.named → a.part ≡ b.part → a ≡ b
same_key a b rule named part =
    ap (λ (r : ℕ). key r a.named a.part) rule ∙ ap (λ (n : ℕ). key b.rule n a.part) named ∙ ap (λ (m : ℕ). key b.rule b.named m) part

three_numbers : (a b c d e f : ℕ) → ((a ≡ d) × (b ≡ e) × (c ≡ f)) ⊎ ((a ≢ d) ⊎ ((b ≢ e) ⊎ (c ≢ f)))
three_numbers a b c d e f = grind (arith, nat_tests)

one_key : (a b : ItemKey) → (a ≡ b) ⊎ (a ≢ b)
one_key a b = elim (three_numbers a.rule a.named a.part b.rule b.named b.part) [
  | inl all ↦ inl (same_key a b all.0 all.1 all.2)
  | inr some ↦ inr (λ e. elim some [
    | inl first ↦ first (ap (λ (k : ItemKey). k.rule) e)
    | inr rest ↦ elim rest [
      | inl second ↦ second (ap (λ (k : ItemKey). k.named) e)
      | inr third ↦ third (ap (λ (k : ItemKey). k.part) e)
    ]
  ])
]

-- two items are one, or not
pub one_or_other : (a b : Broken) → (a ≡ b) ⊎ (a ≢ b)
one_or_other a b = elim (one_key (key_of a) (key_of b)) [
  | inl same ↦ inl (sym (item_is a) ∙ ap item_of same ∙ item_is b)
  | inr other ↦ inr (λ e. other (ap key_of e))
]

abbrev key_cmp : ℕ → ℕ → ℕ → ℕ → ℕ → ℕ → Ordering
key_cmp a b c d e f = ordering_then (nat_cmp a d) (ordering_then (nat_cmp b e) (nat_cmp c f))

equal_numbers : (a b c d e f : ℕ) → key_cmp a b c d e f ≡ Equal → (a ≡ d) × (b ≡ e) × (c ≡ f)
equal_numbers a b c d e f h = (grind (arith, nat_tests), grind (arith, nat_tests), grind (arith, nat_tests))

pub keys_exact : IsExact keys.cmp-value.it
keys_exact a b e =
    let all = equal_numbers a.rule a.named a.part b.rule b.named b.part e in
    same_key a b all.0 all.1 all.2

less_numbers : (a b c d e f : ℕ) → key_cmp a b c d e f ≡ Less → (a < d) ⊎ ((a ≡ d) × IsLess b c e f)
less_numbers a b c d e f h = grind (arith, nat_tests)

asym_numbers : (a b c d e f : ℕ) → (a < d) ⊎ ((a ≡ d) × IsLess b c e f) → (d < a) ⊎ ((d ≡ a) × IsLess e f b c) → ⊥
asym_numbers a b c d e f low high = grind arith

pub comes_before-asym : (a b : Broken) → ComesBefore a b → ComesBefore b a → ⊥
comes_before-asym a b low high = asym_numbers (rule_of a) (named_by a) (part_of a) (rule_of b) (named_by b) (part_of b) low high

abbrev reported_by : ItemKey → ItemKey → Type 0
reported_by a b = (a.rule < b.rule) ⊎ ((a.rule ≡ b.rule) × IsLess a.named a.part b.named b.part)

-- ---- items by their keys

-- what is among the images of some is the image of one of them
image_of : {X Y : Type 0} (f : X → Y) (xs : List X) (y : Y) → Contains (map f xs) y → (x : X) × Contains xs x × (f x ≡ y)
image_of f [] y (k, lt, is) = absurd (omega arith)
image_of f (x ∷ xs) y is = elim (contains-cons (f x) y (map f xs) is) [
  | inl same ↦ (x, contains-first x xs, sym same)
  | inr later ↦ let at = image_of f xs y later in (at.0, contains-rest x at.0 xs at.1, at.2)
]

image_in : {X Y : Type 0} (f : X → Y) (xs : List X) (x : X) → Contains xs x → Contains (map f xs) (f x)
image_in f [] x (k, lt, is) = absurd (omega arith)
image_in f (z ∷ xs) x is = elim (contains-cons z x xs is) [
  | inl same ↦ subst (λ w. Contains (map f (z ∷ xs)) (f w)) (sym same) (contains-first (f z) (map f xs))
  | inr later ↦ contains-rest (f z) (f x) (map f xs) (image_in f xs x later)
]

-- an item is among the items of some keys where its key is among these
pub held : (ks : List ItemKey) (y : Broken) → AreKeys ks → Contains (map item_of ks) y → Contains ks (key_of y)
held ks y are is = let at = image_of item_of ks y is in subst (Contains ks) (sym (are at.0 at.1) ∙ ap key_of at.2) at.1

pub holds : (ks : List ItemKey) (y : Broken) → Contains ks (key_of y) → Contains (map item_of ks) y
holds ks y is = subst (Contains (map item_of ks)) (item_is y) (image_in item_of ks (key_of y) is)

-- the keys stay those of items
pub keys_set : (old new : List ItemKey) (item : Broken) (is_in : Bool) → AreKeys old → AreSet old new (key_of item) is_in → AreKeys new
keys_set old new item is_in are set k is = elim (one_key k (key_of item)) [
  | inl same ↦ rw same (ap key_of (item_is item))
  | inr other ↦ are k ((set.others k other).0 is)
]

pub items_set : (old new : List ItemKey) (item : Broken) (is_in : Bool) → AreKeys old → AreSet old new (key_of item) is_in → AreSet (map item_of old) (map item_of new) item is_in
items_set old new item is_in are set =
    let are_new = keys_set old new item is_in are set in
    record {
      here = (λ so. holds new item (set.here.0 so), λ is. set.here.1 (held new item are_new is));
      others = λ y other.
          let apart : key_of y ≢ key_of item = λ e. other (sym (item_is y) ∙ ap item_of e ∙ item_is item) in
          (λ is. holds old y ((set.others (key_of y) apart).0 (held new y are_new is)), λ is. holds new y ((set.others (key_of y) apart).1 (held old y are is)));
    }

reported_so : (a b : ItemKey) → key_of (item_of a) ≡ a → key_of (item_of b) ≡ b → keys.cmp-value.it a b ≡ Less → ComesBefore (item_of a) (item_of b)
reported_so a b first second less =
    let given : reported_by a b = less_numbers a.rule a.named a.part b.rule b.named b.part less in
    subst (reported_by (key_of (item_of a))) (sym second) (subst (λ (k : ItemKey). reported_by k b) (sym first) given)

-- the items of rising keys are in the order in which they are reported
pub items_rise : (ks : List ItemKey) → AreKeys ks → AreRising keys.cmp-value.it ks → AllPairs ComesBefore (map item_of ks)
items_rise ks are rising i j d lt within =
    let len = length-map ks item_of in
    let k = key_of d in
    let low : i < length ks = omega (arith, lt, within, len) in
    let high : j < length ks = omega (arith, within, len) in
    rw (get_or-map item_of ks i k d low, get_or-map item_of ks j k d high)
    (reported_so (get_or ks i k) (get_or ks j k) (are (get_or ks i k) (i, low, get_or_default ks i (get_or ks i k) k low)) (are (get_or ks j k) (j, high, get_or_default ks j (get_or ks j k) k high)) (rising i j k lt high))

-- ---- a test that changes at one item

-- the items that pass stay those that pass where the item is set as the new test says
pub those_set : (p q : Broken → Bool) (xs old new : List Broken) (item : Broken) → AreThose p xs old → Contains xs item → AreSet old new item (q item) → ((y : Broken) → y ≢ item → q y ≡ p y) → AreThose q xs new
those_set p q xs old new item those inside set same y = elim (one_or_other y item) [
  | inl here ↦ (
    λ is. (subst (Contains xs) (sym here) inside, ap q here ∙ set.here.1 (subst (Contains new) here is)),
    λ both. subst (Contains new) (sym here) (set.here.0 (ap q (sym here) ∙ both.1)),
  )
  | inr other ↦ (
    λ is. let was = (those y).0 ((set.others y other).0 is) in (was.0, same y other ∙ was.1),
    λ both. (set.others y other).1 ((those y).1 (both.0, sym (same y other) ∙ both.1)),
  )
]

-- items that are none of those whose test changes
pub those_stay : (p q : Broken → Bool) (xs kept : List Broken) → AreThose p xs kept → ((y : Broken) → Contains xs y → q y ≡ p y) → AreThose q xs kept
those_stay p q xs kept those same y = (
  λ is. let was = (those y).0 is in (was.0, same y was.0 ∙ was.1),
  λ both. (those y).1 (both.0, sym (same y both.0) ∙ both.1),
)
