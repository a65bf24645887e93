-- The first broken item over the hours of the airports is that of the least overfull slot.
use Rattle.std.proofs.Common.{◌≡◌, ℕ, ◌<◌, true, List, sym, ap, subst, ◌∙◌, arith, is_lt, nat_cmp}
use Rattle.std.specs.Prelude.{find, map, Option, None, Some}
use Rattle.std.specs.Option.{option_map, option_or}
use Rattle.std.specs.Ordering.{ordering_then}
use Rattle.std.proofs.lemmas.Bool.Decides.{nat_tests}
use Rattle.std.proofs.lemmas.List.Folds.{find-append}
use Rattle.desk_units.specs.declared.numbers.Airport.{Airport}
use Rattle.desk_data.specs.declared.broken.Broken.TheVariants.{C10, C11}
use Rattle.desk_data.specs.PlanRows.{PlanRows}
use Rattle.desk_data.specs.Situation.{Situation, airports_of}
use Rattle.desk_rules.specs.Least.{breaks, each_hour, all_hours, airport, slot_items, least_slots}
use Rattle.desk_rules.specs.Numbers.{numbers}
use Rattle.desk_rules.proofs.FindLaws.{numbers_none, lists_none, first_of_numbers, first_of_lists}
use Rattle.hour_counts.specs.declared.slot.Slot.{Slot}
use Rattle.hour_counts.specs.declared.slot.Movement.{Movement}
use Rattle.hour_counts.specs.Slots.{rank, slot_cmp, item}
use Rattle.plan_checks.specs.TakenSlots.{slot_for, item_of, is_overfull, IsLeastOver, IsLeastOverfull}

airport_less : (r a b h k : ℕ) → a < b → is_lt (ordering_then (nat_cmp r r) (ordering_then (nat_cmp a b) (nat_cmp h k))) ≡ true
airport_less r a b h k less = grind (arith, nat_tests)

hour_less : (r a h k : ℕ) → h < k → is_lt (ordering_then (nat_cmp r r) (ordering_then (nat_cmp a a) (nat_cmp h k))) ≡ true
hour_less r a h k less = grind (arith, nat_tests)

lesser_airport : (m : Movement) (a b : Airport) (h k : ℕ) → a.0 < b.0 → is_lt (slot_cmp (slot_for m a h) (slot_for m b k)) ≡ true
lesser_airport m a b h k less = airport_less (rank m) a.0 b.0 h k less

lesser_hour : (m : Movement) (a : Airport) (h k : ℕ) → h < k → is_lt (slot_cmp (slot_for m a h) (slot_for m a k)) ≡ true
lesser_hour m a h k less = hour_less (rank m) a.0 h k less

first_item : (I : Situation) (P : PlanRows) (m : Movement) (taken : List Slot) (b : Airport) (k : ℕ) → ((a : Airport) (h : ℕ) → is_overfull I taken (slot_for m a h) ≡ breaks I P (item_of m a h)) → IsLeastOver I taken (slot_for m b k) → find (breaks I P) (each_hour I (item_of m)) ≡ Some (item_of m b k)
first_item I P m taken b k same at =
    first_of_lists (breaks I P) (λ a. map (item_of m (airport a)) (numbers all_hours)) (airports_of I) b.0 (item_of m b k) at.range.airport
    (first_of_numbers (breaks I P) (item_of m b) all_hours k at.range.hour (sym (same b k) ∙ at.over)
    (λ h less. sym (same b h) ∙ at.least (slot_for m b h) (lesser_hour m b h k less)))
    (λ a less. numbers_none (breaks I P) (item_of m (airport a)) all_hours (λ h below.
    sym (same (airport a) h) ∙ at.least (slot_for m (airport a) h) (lesser_airport m (airport a) b h k less)))

-- where the slots of a movement alone are overfull, and each just where its item is broken, the first broken item is that of the least overfull slot
pub least_item : (I : Situation) (P : PlanRows) (m : Movement) (taken : List Slot) (least : Option Slot) → ((a : Airport) (h : ℕ) → is_overfull I taken (slot_for m a h) ≡ breaks I P (item_of m a h)) → ((s : Slot) → is_overfull I taken s ≡ true → s.movement ≡ m) → IsLeastOverfull I taken least → find (breaks I P) (each_hour I (item_of m)) ≡ option_map item least
least_item I P m taken None same only none =
    lists_none (breaks I P) (λ a. map (item_of m (airport a)) (numbers all_hours)) (airports_of I) (λ a within.
    numbers_none (breaks I P) (item_of m (airport a)) all_hours (λ h below. sym (same (airport a) h) ∙ none (slot_for m (airport a) h)))
least_item I P m taken (Some s) same only at =
    let is : s.movement ≡ m = only s at.over in
    first_item I P m taken s.airport s.hour same (subst (λ (n : Movement). IsLeastOver I taken (slot_for n s.airport s.hour)) is at)
    ∙ ap (λ (n : Movement). Some (item (slot_for n s.airport s.hour))) (sym is)

-- the items of C10 stand before those of C11
pub least-by_rule : (I : Situation) (P : PlanRows) → least_slots I P ≡ option_or (find (breaks I P) (each_hour I C10)) (find (breaks I P) (each_hour I C11))
unfolding least_slots slot_items
least-by_rule I P = find-append (breaks I P) (each_hour I C10) (each_hour I C11)
