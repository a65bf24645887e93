-- How often an hour of an airport stands in a list that is sorted: what stands before the next hour, less what stands before this one.
use Rattle.std.proofs.Common.{◌≡◌, ℕ, ◌+◌, ◌≤◌, Bool, true, false, ◌&&◌, ◌||◌, cond, eqb, ltb, leb, List, [], ◌∷◌, length, get_or, take, drop, refl, arith, is_lt, nat_cmp}
use Rattle.std.specs.Prelude.{count_by}
use Rattle.std.specs.List.Sorted.{IsSorted, IsPartitionedBy, IsPartitionPoint}
use Rattle.std.specs.Ordering.{ordering_then}
use Rattle.std.specs.Cmp.{IsTotalOrder, nat_cmp_total}
use Rattle.std.proofs.lemmas.Bool.Decides.{nat_tests}
use Rattle.std.proofs.lemmas.Cmp.{then_total, on_total}
use Rattle.std.specs.List.{All}
use Rattle.std.proofs.lemmas.List.{length-take}
use Rattle.std.proofs.lemmas.List.Elements.{All-head, All-tail}
use Rattle.std.proofs.lemmas.List.Sums.{sum_by-cons, sum_by-take-drop}
use Rattle.std.proofs.lemmas.List.Sorted.{ranks_by, sorted_far}
use Rattle.day_orders.specs.declared.slots.AirportHour.{AirportHour}
use Rattle.day_orders.specs.Slots.{slot_count, slot_cmp, is_before, is_up_to}
use Rattle.day_orders.proofs.ChangeLemmas.{All-front, All-rest}

slot_total : IsTotalOrder slot_cmp
slot_total = then_total (on_total (λ s. s.airport.0) nat_cmp_total) (on_total (λ s. s.hour) nat_cmp_total)

-- of two in order the first stands before what the second stands before
before-earlier : (x i y j a h : ℕ) → is_lt (ordering_then (nat_cmp y x) (nat_cmp j i)) ≡ false → (ltb y a || (eqb y a && ltb j h)) ≡ true → (ltb x a || (eqb x a && ltb i h)) ≡ true
before-earlier x i y j a h up before = grind (arith, nat_tests)

up_to-earlier : (x i y j a h : ℕ) → is_lt (ordering_then (nat_cmp y x) (nat_cmp j i)) ≡ false → (ltb y a || (eqb y a && leb j h)) ≡ true → (ltb x a || (eqb x a && leb i h)) ≡ true
up_to-earlier x i y j a h up before = grind (arith, nat_tests)

pub parted-before : (a h : ℕ) (slots : List AirportHour) → IsSorted slot_cmp slots → IsPartitionedBy (is_before a h) slots
parted-before a h slots up = λ i j d le within before.
    let s = get_or slots i d in
    let t = get_or slots j d in
    before-earlier s.airport.0 s.hour t.airport.0 t.hour a h (sorted_far (λ s t. is_lt (slot_cmp s t)) (ranks_by slot_total (λ s. s)) slots up i j d le within) before

pub parted-up_to : (a h : ℕ) (slots : List AirportHour) → IsSorted slot_cmp slots → IsPartitionedBy (is_up_to a h) slots
parted-up_to a h slots up = λ i j d le within before.
    let s = get_or slots i d in
    let t = get_or slots j d in
    up_to-earlier s.airport.0 s.hour t.airport.0 t.hour a h (sorted_far (λ s t. is_lt (slot_cmp s t)) (ranks_by slot_total (λ s. s)) slots up i j d le within) before

abbrev one_if : Bool → ℕ
one_if b = cond b 1 0

-- how many pass where all do, and where none does
count-all : {X : Type 0} (p : X → Bool) (xs : List X) → All (λ x. p x ≡ true) xs → count_by p xs ≡ length xs
count-all p [] all = refl
count-all {X} p (x ∷ xs) all =
    let one : one_if (p x) ≡ 1 = rw (All-head (λ (x : X). p x ≡ true) x xs all) refl in
    let sum : count_by p (x ∷ xs) ≡ one_if (p x) + count_by p xs = sum_by-cons (λ x. one_if (p x)) x xs in
    let rest = count-all p xs (All-tail (λ (x : X). p x ≡ true) x xs all) in
    omega (arith, one, sum, rest)

count-none : {X : Type 0} (p : X → Bool) (xs : List X) → All (λ x. p x ≡ false) xs → count_by p xs ≡ 0
count-none p [] none = refl
count-none {X} p (x ∷ xs) none =
    let zero : one_if (p x) ≡ 0 = rw (All-head (λ (x : X). p x ≡ false) x xs none) refl in
    let sum : count_by p (x ∷ xs) ≡ one_if (p x) + count_by p xs = sum_by-cons (λ x. one_if (p x)) x xs in
    let rest = count-none p xs (All-tail (λ (x : X). p x ≡ false) x xs none) in
    omega (arith, zero, sum, rest)

-- how many pass where those that do stand first
pub count-parted : {X : Type 0} (p : X → Bool) (xs : List X) (i : ℕ) → i ≤ length xs → IsPartitionPoint (λ x. p x ≡ true) (λ x. p x ≡ false) xs i → count_by p xs ≡ i
count-parted {X} p xs i within point =
    let front : count_by p (take i xs) ≡ length (take i xs) = count-all p (take i xs) (All-front (λ (x : X). p x ≡ true) xs i point.0) in
    let rest : count_by p (drop i xs) ≡ 0 = count-none p (drop i xs) (All-rest (λ (x : X). p x ≡ false) xs i point.1) in
    let both : count_by p (take i xs) + count_by p (drop i xs) ≡ count_by p xs = sum_by-take-drop (λ x. one_if (p x)) xs i in
    let long = length-take i xs in
    omega (arith, within, front, rest, both, long)

-- one stands before the next hour where it stands before the hour or in it, and never both
one-more : (x i a h : ℕ) → one_if (ltb x a || (eqb x a && leb i h)) ≡ one_if (ltb x a || (eqb x a && ltb i h)) + one_if (eqb x a && eqb i h)
one-more x i a h = grind (arith, nat_tests)

pub count-up_to : (a h : ℕ) (slots : List AirportHour) → count_by (is_up_to a h) slots ≡ count_by (is_before a h) slots + slot_count a h slots
count-up_to a h [] = refl
count-up_to a h (s ∷ slots) =
    let own : AirportHour → Bool = λ s. eqb s.airport.0 a && eqb s.hour h in
    let here : one_if (is_up_to a h s) ≡ one_if (is_before a h s) + one_if (own s) = one-more s.airport.0 s.hour a h in
    let up_to : count_by (is_up_to a h) (s ∷ slots) ≡ one_if (is_up_to a h s) + count_by (is_up_to a h) slots = sum_by-cons (λ s. one_if (is_up_to a h s)) s slots in
    let before : count_by (is_before a h) (s ∷ slots) ≡ one_if (is_before a h s) + count_by (is_before a h) slots = sum_by-cons (λ s. one_if (is_before a h s)) s slots in
    let at : slot_count a h (s ∷ slots) ≡ one_if (own s) + slot_count a h slots = sum_by-cons (λ s. one_if (own s)) s slots in
    let rest = count-up_to a h slots in
    omega (arith, here, up_to, before, at, rest)
