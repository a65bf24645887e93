-- The slots that legs take say how many depart from an airport in an hour, and how many arrive.
use Rattle.std.proofs.Common.{◌≡◌, ℕ, zero, suc, ◌+◌, inl, inr, Bool, true, false, ◌&&◌, not, eqb, List, [], ◌∷◌, ◌++◌, length, refl, sym, ap, ◌∙◌, cond, length-append, add-one, arith}
use Rattle.std.specs.Prelude.{Option, Some, None}
use Rattle.desk_units.specs.declared.numbers.Airport.{Airport}
use Rattle.std.specs.List.{filter, filter_map}
use Rattle.std.specs.List.Sorted.{IsPermutation}
use Rattle.std.proofs.lemmas.Bool.{cases_Bool, true≢false}
use Rattle.std.proofs.lemmas.Bool.Decides.{nat_tests}
use Rattle.std.proofs.lemmas.List.{append-nil}
use Rattle.std.proofs.lemmas.List.Elements.{filter-append, filter_map-append}
use Rattle.std.proofs.lemmas.List.Sorted.{sum_by-IsPermutation}
use Rattle.std.proofs.lemmas.List.Sums.{length-filter}
use Rattle.desk_data.specs.Hours.{dep_cap, arr_cap}
use Rattle.desk_data.specs.PlanRows.{PlanRows, row_at}
use Rattle.desk_data.specs.Situation.{Situation, legs_of, leg_at}
use Rattle.desk_rules.specs.Least.{breaks}
use Rattle.desk_rules.specs.Numbers.{numbers}
use Rattle.desk_rules.specs.Rotations.{dep, arr}
use Rattle.desk_rules.specs.Slots.{is_in_the_air, hour_of, is_within, keeps_c10, keeps_c11}
use Rattle.hour_counts.specs.declared.slot.Slot.{Slot}
use Rattle.hour_counts.specs.declared.slot.Movement.{Movement}
use Rattle.hour_counts.specs.declared.slot.Movement.TheVariants.{Departure, Arrival}
use Rattle.hour_counts.specs.Slots.{rank, cap}
use Rattle.hour_counts.proofs.SlotLaws.{same_movement, same_number}
use Rattle.plan_checks.specs.TakenSlots.{airport_of, moment_of, slot_for, item_of, slot_of, slots, is_at, is_overfull}
use Rattle.plan_checks.proofs.PlaceLaws.{passed}

-- whether leg x takes a slot
abbrev takes : Situation → PlanRows → Movement → Airport → ℕ → ℕ → Bool
takes I P movement a h x = is_in_the_air I (row_at P x) && (eqb (airport_of I movement x).0 a.0 && eqb (hour_of (moment_of I P movement x)) h)

passed-append : {X : Type 0} (p : X → Bool) (xs ys : List X) → passed p (xs ++ ys) ≡ passed p xs + passed p ys
passed-append p xs ys = ap length (filter-append p xs ys) ∙ length-append (filter p xs) (filter p ys)

one_each : {X Y : Type 0} (b : Bool) (x : X) (y : Y) → length (cond b (x ∷ []) []) ≡ length (cond b (y ∷ []) [])
one_each true x y = refl
one_each false x y = refl

one_taken : (I : Situation) (P : PlanRows) (movement : Movement) (a : Airport) (h x : ℕ) → passed (is_at (slot_for movement a h)) (filter_map (slot_of I P movement) (x ∷ [])) ≡ passed (takes I P movement a h) (x ∷ [])
one_taken I P Departure a h x =
    let t : Slot = slot_for Departure (leg_at I x).origin (hour_of (dep P x)) in
    elim (cases_Bool (is_in_the_air I (row_at P x))) [
      | inl air ↦ rw air (one_each (is_at (slot_for Departure a h) t) t x)
      | inr ground ↦ rw ground refl
    ]
one_taken I P Arrival a h x =
    let t : Slot = slot_for Arrival (leg_at I x).dest (hour_of (arr I P x)) in
    elim (cases_Bool (is_in_the_air I (row_at P x))) [
      | inl air ↦ rw air (one_each (is_at (slot_for Arrival a h) t) t x)
      | inr ground ↦ rw ground refl
    ]

slots-append : (I : Situation) (P : PlanRows) (movement : Movement) (p : Slot → Bool) (n : ℕ) → passed p (slots I P movement (suc n)) ≡ passed p (slots I P movement n) + passed p (filter_map (slot_of I P movement) (n ∷ []))
slots-append I P movement p n =
    ap (passed p) (filter_map-append (slot_of I P movement) (numbers n) (n ∷ []))
    ∙ passed-append p (slots I P movement n) (filter_map (slot_of I P movement) (n ∷ []))

pub taken_passed : (I : Situation) (P : PlanRows) (movement : Movement) (a : Airport) (h n : ℕ) → passed (is_at (slot_for movement a h)) (slots I P movement n) ≡ passed (takes I P movement a h) (numbers n)
taken_passed I P movement a h zero = refl
taken_passed I P movement a h (suc n) =
    let p = is_at (slot_for movement a h) in
    slots-append I P movement p n
    ∙ ap (λ k. k + passed p (filter_map (slot_of I P movement) (n ∷ []))) (taken_passed I P movement a h n)
    ∙ ap (λ k. passed (takes I P movement a h) (numbers n) + k) (one_taken I P movement a h n)
    ∙ sym (passed-append (takes I P movement a h) (numbers n) (n ∷ []))

-- an item is broken where its slot is overfull
pub overfull-breaks : (I : Situation) (P : PlanRows) (movement : Movement) (a : Airport) (h : ℕ) → is_overfull I (slots I P movement (legs_of I)) (slot_for movement a h) ≡ breaks I P (item_of movement a h)
unfolding breaks keeps_c10 keeps_c11
overfull-breaks I P Departure a h = ap (λ n. not (is_within n (dep_cap I a.0 h))) (taken_passed I P Departure a h (legs_of I))
overfull-breaks I P Arrival a h = ap (λ n. not (is_within n (arr_cap I a.0 h))) (taken_passed I P Arrival a h (legs_of I))

-- ---- no slot of the other movement is overfull

one_other : (I : Situation) (P : PlanRows) (movement : Movement) (s : Slot) (x : ℕ) → eqb (rank movement) (rank s.movement) ≡ false → passed (is_at s) (filter_map (slot_of I P movement) (x ∷ [])) ≡ 0
one_other I P movement s x other =
    elim (cases_Bool (is_in_the_air I (row_at P x))) [
      | inl air ↦ rw (air, other) refl
      | inr ground ↦ rw ground refl
    ]

none_other : (I : Situation) (P : PlanRows) (movement : Movement) (s : Slot) (n : ℕ) → eqb (rank movement) (rank s.movement) ≡ false → passed (is_at s) (slots I P movement n) ≡ 0
none_other I P movement s zero other = refl
none_other I P movement s (suc n) other =
    slots-append I P movement (is_at s) n
    ∙ ap (λ k. k + passed (is_at s) (filter_map (slot_of I P movement) (n ∷ []))) (none_other I P movement s n other)
    ∙ ap (λ k. 0 + k) (one_other I P movement s n other)

none_over : (c : Option ℕ) → not (is_within 0 c) ≡ false
none_over None = refl
none_over (Some c) = grind (arith, nat_tests)

overfull-movement : (I : Situation) (P : PlanRows) (movement : Movement) (s : Slot) → is_overfull I (slots I P movement (legs_of I)) s ≡ true → s.movement ≡ movement
overfull-movement I P movement s over =
    elim (cases_Bool (eqb (rank movement) (rank s.movement))) [
      | inl same ↦ sym (same_movement movement s.movement (same_number (rank movement) (rank s.movement) same))
      | inr other ↦ absurd (true≢false (sym over ∙ ap (λ n. not (is_within n (cap I s))) (none_other I P movement s (legs_of I) other) ∙ none_over (cap I s)))
    ]

-- the order of the slots says nothing of that
passed-permutation : (p : Slot → Bool) (xs ys : List Slot) → IsPermutation xs ys → passed p ys ≡ passed p xs
passed-permutation p xs ys h = length-filter p ys ∙ sum_by-IsPermutation (λ s. cond (p s) 1 0) xs ys h ∙ sym (length-filter p xs)

overfull-permutation : (I : Situation) (xs ys : List Slot) (s : Slot) → IsPermutation xs ys → is_overfull I ys s ≡ is_overfull I xs s
overfull-permutation I xs ys s h = ap (λ n. not (is_within n (cap I s))) (passed-permutation (is_at s) xs ys h)

-- ---- one more leg

slots-more : (I : Situation) (P : PlanRows) (movement : Movement) (n : ℕ) → slots I P movement (suc n) ≡ slots I P movement n ++ filter_map (slot_of I P movement) (n ∷ [])
slots-more I P movement n = filter_map-append (slot_of I P movement) (numbers n) (n ∷ [])

pub slots-taken : (I : Situation) (P : PlanRows) (movement : Movement) (n : ℕ) (s : Slot) → Some s ≡ slot_of I P movement n → slots I P movement (n + 1) ≡ slots I P movement n ++ s ∷ []
slots-taken I P movement n s is =
    let one : filter_map (slot_of I P movement) (n ∷ []) ≡ s ∷ [] = rw (← is) refl in
    rw add-one (slots-more I P movement n ∙ ap (λ ts. slots I P movement n ++ ts) one)

pub slots-none : (I : Situation) (P : PlanRows) (movement : Movement) (n : ℕ) → None ≡ slot_of I P movement n → slots I P movement (n + 1) ≡ slots I P movement n
slots-none I P movement n is =
    let none : filter_map (slot_of I P movement) (n ∷ []) ≡ [] = rw (← is) refl in
    rw add-one (slots-more I P movement n ∙ ap (λ ts. slots I P movement n ++ ts) none ∙ append-nil (slots I P movement n))

-- ---- sorted, and read

sorted-same : (I : Situation) (made ts read : List Slot) (s : Slot) → IsPermutation made ts → read ≡ ts → is_overfull I read s ≡ is_overfull I made s
sorted-same I made ts read s moved same =
    ap (λ (xs : List Slot). is_overfull I xs s) same ∙ overfull-permutation I made ts s moved

pub sorted-breaks : (I : Situation) (P : PlanRows) (movement : Movement) (made ts read : List Slot) → made ≡ slots I P movement (legs_of I) → IsPermutation made ts → read ≡ ts → (a : Airport) (h : ℕ) → is_overfull I read (slot_for movement a h) ≡ breaks I P (item_of movement a h)
sorted-breaks I P movement made ts read is moved same a h =
    sorted-same I made ts read (slot_for movement a h) moved same
    ∙ ap (λ (xs : List Slot). is_overfull I xs (slot_for movement a h)) is
    ∙ overfull-breaks I P movement a h

pub sorted-movement : (I : Situation) (P : PlanRows) (movement : Movement) (made ts read : List Slot) → made ≡ slots I P movement (legs_of I) → IsPermutation made ts → read ≡ ts → (s : Slot) → is_overfull I read s ≡ true → s.movement ≡ movement
sorted-movement I P movement made ts read is moved same s over =
    overfull-movement I P movement s (sym (sorted-same I made ts read s moved same ∙ ap (λ (xs : List Slot). is_overfull I xs s) is) ∙ over)
