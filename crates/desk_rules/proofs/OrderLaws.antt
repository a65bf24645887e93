-- The items are in their order: by rule, then by what they name.
use Rattle.std.proofs.Common.{◌≡◌, ◌++◌, ℕ, zero, suc, ◌<◌, ◌≤◌, inl, inr, List, [], ◌∷◌, refl, sym, ap, subst, ◌∙◌, arith}
use Rattle.std.specs.Prelude.{map}
use Rattle.std.specs.List.{AllByRecursion, AllPairs, flat_map}
use Rattle.std.proofs.lemmas.List.{append-nil, map-append}
use Rattle.std.proofs.lemmas.List.Concat.{flat_map-append}
use Rattle.std.proofs.lemmas.List.Elements.{All-from_recursion}
use Rattle.std.proofs.lemmas.List.Kept.{AllPairs-cons}
use Rattle.desk_units.specs.declared.numbers.Airport.{Airport}
use Rattle.desk_units.specs.declared.numbers.Cabin.{Cabin}
use Rattle.desk_units.specs.declared.numbers.Cabin.TheVariants.{F, B, E}
use Rattle.desk_data.specs.declared.broken.Broken.{Broken}
use Rattle.desk_data.specs.declared.broken.Broken.TheVariants.{C1, C2, C3, C4, C5, C6, C7, C8, C9, C10, C11, C12, C13, C14, C15}
use Rattle.desk_data.specs.Situation.{Situation, legs_of, planes_of, airports_of, reservations_of}
use Rattle.desk_rules.specs.Numbers.{numbers}
use Rattle.desk_rules.specs.Least.{all_hours, each_leg, each_plane, each_hour, each_cabin, each_res, rotation_items, slot_items, pax_items, items, leg, plane, airport, res}
use Rattle.desk_rules.specs.Order.{rule_of, IsLess, ComesBefore}

-- ---- lists

pub each_append : {X : Type 0} (P : X → Type 0) (xs ys : List X) → AllByRecursion P xs → AllByRecursion P ys → AllByRecursion P (xs ++ ys)
each_append P [] ys a b = b
each_append P (x ∷ xs) ys a b = (a.0, each_append P xs ys a.1 b)

each_weaker : {X : Type 0} (P Q : X → Type 0) → ((x : X) → P x → Q x) → (xs : List X) → AllByRecursion P xs → AllByRecursion Q xs
each_weaker P Q says [] h = tt
each_weaker P Q says (x ∷ xs) h = (says x h.0, each_weaker P Q says xs h.1)

-- each item is reported before all those after it
Ascends : List Broken → Type 0
Ascends [] = Unit {0}
Ascends (item ∷ rest) = AllByRecursion (ComesBefore item) rest × Ascends rest

AreBefore : List Broken → List Broken → Type 0
AreBefore xs ys = AllByRecursion (λ item. AllByRecursion (ComesBefore item) ys) xs

ascends-append : (xs ys : List Broken) → Ascends xs → Ascends ys → AreBefore xs ys → Ascends (xs ++ ys)
unfolding Ascends AreBefore
ascends-append [] ys a b before = b
ascends-append (x ∷ xs) ys a b before = (each_append (ComesBefore x) xs ys a.0 before.0, ascends-append xs ys a.1 b before.1)

ascends-pairs : (xs : List Broken) → Ascends xs → AllPairs ComesBefore xs
unfolding Ascends
ascends-pairs [] h = λ i j d lt within. absurd (omega arith)
ascends-pairs (x ∷ xs) h = AllPairs-cons ComesBefore x xs (All-from_recursion (ComesBefore x) xs h.0) (ascends-pairs xs h.1)

-- ---- items of numbers

each_number : (P : Broken → Type 0) (f : ℕ → Broken) (n : ℕ) → ((k : ℕ) → k < n → P (f k)) → AllByRecursion P (map f (numbers n))
each_number P f zero h = tt
each_number P f (suc n) h =
    subst (AllByRecursion P) (sym (map-append f (numbers n) (n ∷ [])))
    (each_append P (map f (numbers n)) (f n ∷ []) (each_number P f n (λ k lt. h k (omega arith))) (h n (omega arith), tt))

ascends_numbers : (f : ℕ → Broken) (n : ℕ) → ((i j : ℕ) → i < j → ComesBefore (f i) (f j)) → Ascends (map f (numbers n))
unfolding Ascends AreBefore
ascends_numbers f zero h = tt
ascends_numbers f (suc n) h =
    subst Ascends (sym (map-append f (numbers n) (n ∷ [])))
    (ascends-append (map f (numbers n)) (f n ∷ []) (ascends_numbers f n h) (tt, tt)
    (each_number (λ item. AllByRecursion (ComesBefore item) (f n ∷ [])) f n (λ k lt. (h k n lt, tt))))

-- the lists of the numbers up to n are those below n, and that of n
one_more : (f : ℕ → List Broken) (n : ℕ) → flat_map f (numbers (suc n)) ≡ flat_map f (numbers n) ++ f n
one_more f n = flat_map-append f (numbers n) (n ∷ []) ∙ ap (λ (ys : List Broken). flat_map f (numbers n) ++ ys) (append-nil (f n))

each_list : (P : Broken → Type 0) (f : ℕ → List Broken) (n : ℕ) → ((k : ℕ) → k < n → AllByRecursion P (f k)) → AllByRecursion P (flat_map f (numbers n))
each_list P f zero h = tt
each_list P f (suc n) h =
    subst (AllByRecursion P) (sym (one_more f n))
    (each_append P (flat_map f (numbers n)) (f n) (each_list P f n (λ k lt. h k (omega arith))) (h n (omega arith)))

ascends_lists : (f : ℕ → List Broken) (n : ℕ) → ((k : ℕ) → Ascends (f k)) → ((i j : ℕ) → i < j → AreBefore (f i) (f j)) → Ascends (flat_map f (numbers n))
unfolding Ascends AreBefore
ascends_lists f zero each h = tt
ascends_lists f (suc n) each h =
    subst Ascends (sym (one_more f n))
    (ascends-append (flat_map f (numbers n)) (f n) (ascends_lists f n each h) (each n)
    (each_list (λ item. AllByRecursion (ComesBefore item) (f n)) f n (λ k lt. h k n lt)))

-- ---- the items of some rules

-- items in their order, of rules from one to another
record AreOf (low high : ℕ) (xs : List Broken) : Type 0 where
  ascending : Ascends xs
  rules : AllByRecursion (λ item. (low ≤ rule_of item) × (rule_of item ≤ high)) xs

-- items of lower rules, and items of higher ones after them
join : (a b c d : ℕ) (xs ys : List Broken) → a ≤ c → b < c → b ≤ d → AreOf a b xs → AreOf c d ys → AreOf a d (xs ++ ys)
unfolding AreBefore
join a b c d xs ys first apart last low high = record {
  ascending = ascends-append xs ys low.ascending high.ascending
      (each_weaker (λ item. (a ≤ rule_of item) × (rule_of item ≤ b)) (λ item. AllByRecursion (ComesBefore item) ys)
      (λ item is. each_weaker (λ other. (c ≤ rule_of other) × (rule_of other ≤ d)) (ComesBefore item)
      (λ other is_high. let less : rule_of item < rule_of other = omega (arith, is.1, is_high.0) in inl less) ys high.rules)
      xs low.rules);
  rules = each_append (λ item. (a ≤ rule_of item) × (rule_of item ≤ d)) xs ys
      (each_weaker (λ item. (a ≤ rule_of item) × (rule_of item ≤ b)) (λ item. (a ≤ rule_of item) × (rule_of item ≤ d)) (λ item is. (is.0, omega (arith, is.1))) xs low.rules)
      (each_weaker (λ item. (c ≤ rule_of item) × (rule_of item ≤ d)) (λ item. (a ≤ rule_of item) × (rule_of item ≤ d)) (λ item is. (omega (arith, is.0), is.1)) ys high.rules);
}

of_numbers : (rule : ℕ) (f : ℕ → Broken) (n : ℕ) → ((k : ℕ) → rule_of (f k) ≡ rule) → ((i j : ℕ) → i < j → ComesBefore (f i) (f j)) → AreOf rule rule (map f (numbers n))
of_numbers rule f n is before = record {
  ascending = ascends_numbers f n before;
  rules = each_number (λ item. (rule ≤ rule_of item) × (rule_of item ≤ rule)) f n (λ k lt. (omega (arith, is k), omega (arith, is k)));
}

of_hours : (I : Situation) (rule : ℕ) (item : Airport → ℕ → Broken) → ((a h : ℕ) → rule_of (item (airport a) h) ≡ rule) → ((a h b g : ℕ) → IsLess a h b g → ComesBefore (item (airport a) h) (item (airport b) g)) → AreOf rule rule (each_hour I item)
unfolding AreBefore
of_hours I rule item is before = record {
  ascending = ascends_lists (λ a. map (item (airport a)) (numbers all_hours)) (airports_of I)
      (λ a. ascends_numbers (item (airport a)) all_hours (λ h g lt. before a h a g (inr (refl, lt))))
      (λ a b lt. each_number (λ here. AllByRecursion (ComesBefore here) (map (item (airport b)) (numbers all_hours))) (item (airport a)) all_hours
      (λ h within. each_number (ComesBefore (item (airport a) h)) (item (airport b)) all_hours (λ g there. before a h b g (inl lt))));
  rules = each_list (λ here. (rule ≤ rule_of here) × (rule_of here ≤ rule)) (λ a. map (item (airport a)) (numbers all_hours)) (airports_of I)
      (λ a lt. each_number (λ here. (rule ≤ rule_of here) × (rule_of here ≤ rule)) (item (airport a)) all_hours (λ h within. (omega (arith, is a h), omega (arith, is a h))));
}

of_cabins : (I : Situation) → AreOf 12 12 (each_cabin I C12)
unfolding Ascends AreBefore
of_cabins I =
    let cabins = λ (x : ℕ). let three : List Broken = C12 (leg x) F ∷ C12 (leg x) B ∷ C12 (leg x) E ∷ [] in three in
    record {
      ascending = ascends_lists cabins (legs_of I)
          (λ x. (
            (inr (refl, inr (refl, omega arith)), (inr (refl, inr (refl, omega arith)), tt)),
            ((inr (refl, inr (refl, omega arith)), tt), (tt, tt)),
          ))
          (λ x y lt.
          let later : (c : Cabin) → AllByRecursion (ComesBefore (C12 (leg x) c)) (cabins y) = λ c. (inr (refl, inl lt), (inr (refl, inl lt), (inr (refl, inl lt), tt))) in
          (later F, (later B, (later E, tt))));
      rules = each_list (λ here. (12 ≤ rule_of here) × (rule_of here ≤ 12)) cabins (legs_of I)
          (λ x lt. ((omega arith, omega arith), ((omega arith, omega arith), ((omega arith, omega arith), tt))));
    }

-- ---- all items

of_c1 : (I : Situation) → AreOf 1 1 (each_leg I C1)
of_c1 I = of_numbers 1 (λ x. C1 (leg x)) (legs_of I) (λ x. refl) (λ x y lt. inr (refl, inl lt))

of_c2 : (I : Situation) → AreOf 2 2 (each_leg I C2)
of_c2 I = of_numbers 2 (λ x. C2 (leg x)) (legs_of I) (λ x. refl) (λ x y lt. inr (refl, inl lt))

of_c3 : (I : Situation) → AreOf 3 3 (each_leg I C3)
of_c3 I = of_numbers 3 (λ x. C3 (leg x)) (legs_of I) (λ x. refl) (λ x y lt. inr (refl, inl lt))

of_c4 : (I : Situation) → AreOf 4 4 (each_leg I C4)
of_c4 I = of_numbers 4 (λ x. C4 (leg x)) (legs_of I) (λ x. refl) (λ x y lt. inr (refl, inl lt))

of_c5 : (I : Situation) → AreOf 5 5 (each_leg I C5)
of_c5 I = of_numbers 5 (λ x. C5 (leg x)) (legs_of I) (λ x. refl) (λ x y lt. inr (refl, inl lt))

of_c6 : (I : Situation) → AreOf 6 6 (each_leg I C6)
of_c6 I = of_numbers 6 (λ x. C6 (leg x)) (legs_of I) (λ x. refl) (λ x y lt. inr (refl, inl lt))

of_c7 : (I : Situation) → AreOf 7 7 (each_leg I C7)
of_c7 I = of_numbers 7 (λ x. C7 (leg x)) (legs_of I) (λ x. refl) (λ x y lt. inr (refl, inl lt))

of_c8 : (I : Situation) → AreOf 8 8 (each_plane I C8)
of_c8 I = of_numbers 8 (λ x. C8 (plane x)) (planes_of I) (λ x. refl) (λ x y lt. inr (refl, inl lt))

of_c9 : (I : Situation) → AreOf 9 9 (each_plane I C9)
of_c9 I = of_numbers 9 (λ x. C9 (plane x)) (planes_of I) (λ x. refl) (λ x y lt. inr (refl, inl lt))

of_c13 : (I : Situation) → AreOf 13 13 (each_res I C13)
of_c13 I = of_numbers 13 (λ x. C13 (res x)) (reservations_of I) (λ x. refl) (λ x y lt. inr (refl, inl lt))

of_c14 : (I : Situation) → AreOf 14 14 (each_res I C14)
of_c14 I = of_numbers 14 (λ x. C14 (res x)) (reservations_of I) (λ x. refl) (λ x y lt. inr (refl, inl lt))

of_c15 : (I : Situation) → AreOf 15 15 (each_res I C15)
of_c15 I = of_numbers 15 (λ x. C15 (res x)) (reservations_of I) (λ x. refl) (λ x y lt. inr (refl, inl lt))

of_rotations : (I : Situation) → AreOf 1 9 (rotation_items I)
unfolding rotation_items
of_rotations I =
    let up_to_c2 = join 1 1 2 2 (each_leg I C1) (each_leg I C2) (omega arith) (omega arith) (omega arith) (of_c1 I) (of_c2 I) in
    let up_to_c3 = join 1 2 3 3 (each_leg I C1 ++ each_leg I C2) (each_leg I C3) (omega arith) (omega arith) (omega arith) up_to_c2 (of_c3 I) in
    let up_to_c4 = join 1 3 4 4 (each_leg I C1 ++ each_leg I C2 ++ each_leg I C3) (each_leg I C4) (omega arith) (omega arith) (omega arith) up_to_c3 (of_c4 I) in
    let up_to_c5 = join 1 4 5 5 (each_leg I C1 ++ each_leg I C2 ++ each_leg I C3 ++ each_leg I C4) (each_leg I C5) (omega arith) (omega arith) (omega arith) up_to_c4 (of_c5 I) in
    let up_to_c6 = join 1 5 6 6 (each_leg I C1 ++ each_leg I C2 ++ each_leg I C3 ++ each_leg I C4 ++ each_leg I C5) (each_leg I C6) (omega arith) (omega arith) (omega arith) up_to_c5 (of_c6 I) in
    let up_to_c7 = join 1 6 7 7 (each_leg I C1 ++ each_leg I C2 ++ each_leg I C3 ++ each_leg I C4 ++ each_leg I C5 ++ each_leg I C6) (each_leg I C7) (omega arith) (omega arith) (omega arith) up_to_c6 (of_c7 I) in
    let up_to_c8 = join 1 7 8 8 (each_leg I C1 ++ each_leg I C2 ++ each_leg I C3 ++ each_leg I C4 ++ each_leg I C5 ++ each_leg I C6 ++ each_leg I C7) (each_plane I C8) (omega arith) (omega arith) (omega arith) up_to_c7 (of_c8 I) in
    join 1 8 9 9 (each_leg I C1 ++ each_leg I C2 ++ each_leg I C3 ++ each_leg I C4 ++ each_leg I C5 ++ each_leg I C6 ++ each_leg I C7 ++ each_plane I C8) (each_plane I C9) (omega arith) (omega arith) (omega arith) up_to_c8 (of_c9 I)

of_slots : (I : Situation) → AreOf 10 11 (slot_items I)
unfolding slot_items
of_slots I =
    join 10 10 11 11 (each_hour I C10) (each_hour I C11) (omega arith) (omega arith) (omega arith)
    (of_hours I 10 C10 (λ a h. refl) (λ a h b g less. inr (refl, less)))
    (of_hours I 11 C11 (λ a h. refl) (λ a h b g less. inr (refl, less)))

of_passengers : (I : Situation) → AreOf 12 15 (pax_items I)
unfolding pax_items
of_passengers I =
    let up_to_c13 = join 12 12 13 13 (each_cabin I C12) (each_res I C13) (omega arith) (omega arith) (omega arith) (of_cabins I) (of_c13 I) in
    let up_to_c14 = join 12 13 14 14 (each_cabin I C12 ++ each_res I C13) (each_res I C14) (omega arith) (omega arith) (omega arith) up_to_c13 (of_c14 I) in
    join 12 14 15 15 (each_cabin I C12 ++ each_res I C13 ++ each_res I C14) (each_res I C15) (omega arith) (omega arith) (omega arith) up_to_c14 (of_c15 I)

pub items-ascend : (I : Situation) → AllPairs ComesBefore (items I)
unfolding items
items-ascend I =
    let rows = join 1 9 10 11 (rotation_items I) (slot_items I) (omega arith) (omega arith) (omega arith) (of_rotations I) (of_slots I) in
    ascends-pairs (items I) (join 1 11 12 15 (rotation_items I ++ slot_items I) (pax_items I) (omega arith) (omega arith) (omega arith) rows (of_passengers I)).ascending
