-- The items of the overfull slots are those that the plan breaks.
use Rattle.std.proofs.Common.{◌≡◌, ℕ, ◌<◌, inl, inr, true, List, refl, sym, ap, subst, ◌∙◌, arith}
use Rattle.std.specs.Prelude.{Option, Some, None, map, not}
use Rattle.std.specs.List.{Contains}
use Rattle.std.proofs.lemmas.Bool.Decides.{nat_tests}
use Rattle.std.proofs.lemmas.List.Sums.{length-filter}
use Rattle.std.proofs.lemmas.List.Elements.{Contains-append_left, Contains-append_right, Contains-append_cases}
use Rattle.desk_units.specs.declared.numbers.Airport.{Airport}
use Rattle.desk_data.specs.declared.broken.Broken.{Broken}
use Rattle.desk_data.specs.declared.broken.Broken.TheVariants.{C10, C11}
use Rattle.desk_data.specs.Situation.{Situation, airports_of, legs_of}
use Rattle.desk_data.specs.PlanRows.{PlanRows}
use Rattle.desk_rules.specs.Numbers.{numbers}
use Rattle.desk_rules.specs.Slots.{is_within, departs_in, arrives_in, keeps_c10, keeps_c11}
use Rattle.desk_data.specs.Hours.{dep_cap, arr_cap}
use Rattle.desk_rules.specs.Least.{breaks, each_hour, all_hours, airport, slot_items}
use Rattle.board_kit.specs.Items.{AreThose}
use Rattle.board_kit.proofs.MemberLaws.{in_numbers, of_numbers, in_lists, of_lists}
use Rattle.board_kit.specs.declared.slot.By.TheVariants.{Flyer}
use Rattle.hour_counts.specs.declared.slot.Slot.{Slot}
use Rattle.hour_counts.specs.Slots.{IsSlot, cap, item}
use Rattle.board_kit.specs.declared.slot.SlotLoad.{SlotLoad}
use Rattle.hour_counts.specs.declared.slot.Movement.{Movement}
use Rattle.hour_counts.specs.declared.slot.Movement.TheVariants.{Departure, Arrival}
use Rattle.board_kit.specs.Slots.{is_above, load_at, count_of, taken, AreOver, AreCounted}

slot_at : Movement → ℕ → ℕ → Slot
slot_at m a h = record { movement = m; airport = airport a; hour = h }

in_hours : (I : Situation) (f : Airport → ℕ → Broken) (a : Airport) (h : ℕ) → a.0 < airports_of I → h < all_hours → Contains (each_hour I f) (f a h)
in_hours I f a h within below = in_lists (λ b. map (f (airport b)) (numbers all_hours)) (airports_of I) a.0 (f a h) within (in_numbers (f a) all_hours h below)

of_hours : (I : Situation) (f : Airport → ℕ → Broken) (y : Broken) → Contains (each_hour I f) y → (a : ℕ) × (h : ℕ) × (a < airports_of I) × (h < all_hours) × (y ≡ f (airport a) h)
of_hours I f y is =
    let outer = of_lists (λ b. map (f (airport b)) (numbers all_hours)) (airports_of I) y is in
    let inner = of_numbers (f (airport outer.0)) all_hours y outer.2 in
    (outer.0, inner.0, outer.1, inner.1, inner.2)

in_for : (I : Situation) (m : Movement) (a : Airport) (h : ℕ) → a.0 < airports_of I → h < all_hours → Contains (slot_items I) (item (record { movement = m; airport = a; hour = h }))
unfolding slot_items
in_for I Departure a h within below = Contains-append_left (each_hour I C10) (each_hour I C11) (C10 a h) (in_hours I C10 a h within below)
in_for I Arrival a h within below = Contains-append_right (each_hour I C10) (each_hour I C11) (C11 a h) (in_hours I C11 a h within below)

pub in_items : (I : Situation) (s : Slot) → IsSlot I s → Contains (slot_items I) (item s)
in_items I s is = in_for I s.movement s.airport s.hour is.airport is.hour

pub of_items : (I : Situation) (y : Broken) → Contains (slot_items I) y → (s : Slot) × (y ≡ item s)
unfolding slot_items
of_items I y is = elim (Contains-append_cases (each_hour I C10) (each_hour I C11) y is) [
  | inl departs ↦ let at = of_hours I C10 y departs in (record { movement = Departure; airport = airport at.0; hour = at.1 }, at.4)
  | inr arrives ↦ let at = of_hours I C11 y arrives in (record { movement = Arrival; airport = airport at.0; hour = at.1 }, at.4)
]

above_not : (n : ℕ) (c : Option ℕ) → is_above n c ≡ not (is_within n c)
above_not n None = refl
above_not n (Some c) = grind (arith, nat_tests)

-- a slot's item is broken where the slot is overfull
breaks_for : (I : Situation) (P : PlanRows) (m : Movement) (a : Airport) (h : ℕ) → breaks I P (item (record { movement = m; airport = a; hour = h })) ≡ is_above (taken I P Flyer (record { movement = m; airport = a; hour = h })) (cap I (record { movement = m; airport = a; hour = h }))
unfolding breaks keeps_c10 keeps_c11
breaks_for I P Departure a h = ap (λ n. not (is_within n (dep_cap I a.0 h))) (length-filter (departs_in I P a.0 h) (numbers (legs_of I))) ∙ sym (above_not (taken I P Flyer (record { movement = Departure; airport = a; hour = h })) (dep_cap I a.0 h))
breaks_for I P Arrival a h = ap (λ n. not (is_within n (arr_cap I a.0 h))) (length-filter (arrives_in I P a.0 h) (numbers (legs_of I))) ∙ sym (above_not (taken I P Flyer (record { movement = Arrival; airport = a; hour = h })) (arr_cap I a.0 h))

pub breaks_slot : (I : Situation) (P : PlanRows) (s : Slot) → breaks I P (item s) ≡ is_above (taken I P Flyer s) (cap I s)
breaks_slot I P s = breaks_for I P s.movement s.airport s.hour

none_above : (c : Option ℕ) → is_above 0 c ≡ true → ⊥
none_above None above = absurd cc
none_above (Some c) above = grind (arith, nat_tests)

-- what is taken more often than a cap is taken, so it is known
known_over : (I : Situation) (P : PlanRows) (loads : List (Slot × SlotLoad)) (kept : List Broken) (s : Slot) (at : Option SlotLoad) → AreCounted I (taken I P) loads → AreOver loads kept → load_at loads s ≡ at → is_above (taken I P Flyer s) (cap I s) ≡ true → Contains kept (item s)
known_over I P loads kept s None are over is above = absurd (none_above (cap I s) (ap (λ (n : ℕ). is_above n (cap I s)) (sym (ap (count_of Flyer) is) ∙ are.counts Flyer s) ∙ above))
known_over I P loads kept s (Some load) are over is above =
    let count : load.by_flyer ≡ taken I P Flyer s = sym (ap (count_of Flyer) is) ∙ are.counts Flyer s in
    over.whole s load is (rw (count, are.caps s load is) above)

-- the items of the overfull slots are those that the plan breaks
pub overfull_are : (I : Situation) (P : PlanRows) (loads : List (Slot × SlotLoad)) (kept : List Broken) → AreCounted I (taken I P) loads → AreOver loads kept → AreThose (breaks I P) (slot_items I) kept
overfull_are I P loads kept are over y = (
  λ is.
      let at = over.sound y is in
      let count : at.1.by_flyer ≡ taken I P Flyer at.0 = sym (ap (count_of Flyer) at.2) ∙ are.counts Flyer at.0 in
      (subst (Contains (slot_items I)) (sym at.4) (in_items I at.0 (are.slots at.0 at.1 at.2)), ap (breaks I P) at.4 ∙ breaks_slot I P at.0 ∙ (rw (sym count, sym (are.caps at.0 at.1 at.2)) at.3)),
  λ both.
      let at = of_items I y both.0 in
      subst (Contains kept) (sym at.1) (known_over I P loads kept at.0 (load_at loads at.0) are over refl (sym (ap (breaks I P) at.1 ∙ breaks_slot I P at.0) ∙ both.1)),
)
