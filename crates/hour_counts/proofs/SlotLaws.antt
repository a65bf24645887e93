-- Slots are distinct, and their order is the derived one.
use Rattle.std.proofs.Common.{◌≡◌, ℕ, Bool, true, false, refl, ap, ◌∙◌, arith}
use Rattle.std.specs.Prelude.{◌&&◌, ◌==◌}
use Rattle.std.proofs.lemmas.Bool.{and_parts, eq-eqb}
use Rattle.std.proofs.lemmas.Bool.Decides.{nat_tests}
use Rattle.std.specs.Ordering.{nat_cmp, ordering_then}
use Rattle.std.specs.declared.cmp.Ordering.{Ordering}
use Rattle.hour_counts.specs.declared.slot.Slot.{Slot}
use Rattle.hour_counts.specs.declared.slot.Movement.{Movement}
use Rattle.hour_counts.specs.declared.slot.Movement.TheVariants.{Departure, Arrival}
use Rattle.hour_counts.specs.contracts.slot.MovementPartialEq.TheImpl as movements
use Rattle.hour_counts.specs.contracts.slot.SlotPartialEq.TheImpl as slots
use Rattle.hour_counts.specs.contracts.slot.MovementOrd.TheImpl as movement_order
use Rattle.hour_counts.specs.contracts.slot.SlotOrd.TheImpl as slot_order
use Rattle.hour_counts.specs.Slots.{rank, is_slot, slot_cmp}

movement_is : (m n : Movement) → movements.eq-value.it m n ≡ (rank m == rank n)
movement_is Departure Departure = refl
movement_is Departure Arrival = refl
movement_is Arrival Departure = refl
movement_is Arrival Arrival = refl

-- `==` says the same
pub derived_is : (s t : Slot) → slots.eq-value.it s t ≡ is_slot s t
derived_is s t = ap (λ (b : Bool). b && ((s.airport.0 == t.airport.0) && (s.hour == t.hour))) (movement_is s.movement t.movement)

movement_cmp_is : (m n : Movement) → (movement_order.ghosts).cmp m n ≡ nat_cmp (rank m) (rank n)
movement_cmp_is Departure Departure = refl
movement_cmp_is Departure Arrival = refl
movement_cmp_is Arrival Departure = refl
movement_cmp_is Arrival Arrival = refl

-- the derived order is by movement, then by airport, then by hour
pub derived_order : (s t : Slot) → (slot_order.ghosts).cmp s t ≡ slot_cmp s t
derived_order s t =
    ap (λ (o : Ordering). ordering_then o (ordering_then (nat_cmp s.airport.0 t.airport.0) (nat_cmp s.hour t.hour))) (movement_cmp_is s.movement t.movement)

pub same_movement : (m n : Movement) → rank m ≡ rank n → m ≡ n
same_movement Departure Departure e = refl
same_movement Departure Arrival e = absurd (omega arith)
same_movement Arrival Departure e = absurd (omega arith)
same_movement Arrival Arrival e = refl

pub same_number : (a b : ℕ) → (a == b) ≡ true → a ≡ b
same_number a b e = grind (arith, nat_tests)

slot_of : Movement → ℕ → ℕ → Slot
slot_of m a h = record { movement = m; airport = record { 0 = a }; hour = h }

-- slots that compare alike are one
pub same_slot : (s t : Slot) → is_slot s t ≡ true → s ≡ t
unfolding slot_of
same_slot s t e =
    let first = and_parts (rank s.movement == rank t.movement) ((s.airport.0 == t.airport.0) && (s.hour == t.hour)) e in
    let rest = and_parts (s.airport.0 == t.airport.0) (s.hour == t.hour) first.1 in
    let moves : s.movement ≡ t.movement = same_movement s.movement t.movement (same_number (rank s.movement) (rank t.movement) first.0) in
    ap (λ (m : Movement). slot_of m s.airport.0 s.hour) moves ∙ ap (λ (a : ℕ). slot_of t.movement a s.hour) (same_number s.airport.0 t.airport.0 rest.0)
    ∙ ap (λ (h : ℕ). slot_of t.movement t.airport.0 h) (same_number s.hour t.hour rest.1)

all_three : (a b c : Bool) → a ≡ true → b ≡ true → c ≡ true → (a && (b && c)) ≡ true
all_three a b c x y z = rw (x, y, z) refl

number_itself : (a : ℕ) → (a == a) ≡ true
number_itself a = grind (arith, nat_tests)

pub slot_itself : (s : Slot) → is_slot s s ≡ true
slot_itself s = all_three (rank s.movement == rank s.movement) (s.airport.0 == s.airport.0) (s.hour == s.hour) (number_itself (rank s.movement)) (number_itself s.airport.0) (number_itself s.hour)
