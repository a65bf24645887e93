-- What a place of sorted slots says of the slots that are overfull.
use Rattle.std.proofs.Common.{◌≡◌, ℕ, suc, ◌+◌, ◌-◌, ◌<◌, ◌≤◌, inl, inr, Bool, true, false, ◌&&◌, not, eqb, leb, List, length, refl, sym, ap, ◌∙◌, subst, arith, is_lt, nat_cmp}
use Rattle.std.proofs.Math.Path.{fun_ext}
use Rattle.std.specs.Prelude.{Option, Some, None}
use Rattle.std.specs.List.{All}
use Rattle.std.specs.List.Sorted.{IsSorted}
use Rattle.std.specs.Ordering.{ordering_then}
use Rattle.std.specs.declared.cmp.Ordering.{Ordering}
use Rattle.std.specs.Cmp.{IsTotalOrder, nat_cmp_total}
use Rattle.std.proofs.lemmas.Bool.{cases_Bool, cases_lt, true≢false, and_parts, leb-true, leb-false, not-true, lt-leb}
use Rattle.std.proofs.lemmas.Bool.Decides.{nat_tests}
use Rattle.std.proofs.lemmas.Cmp.{then_total, on_total}
use Rattle.std.proofs.lemmas.List.Sorted.{ranks_by, sorted_far}
use Rattle.desk_data.specs.Situation.{Situation}
use Rattle.desk_rules.specs.Slots.{is_within}
use Rattle.hour_counts.specs.declared.slot.Slot.{Slot}
use Rattle.hour_counts.specs.contracts.slot.SlotOrd.TheImpl as slot_order
use Rattle.hour_counts.specs.Slots.{IsSlot, rank, slot_cmp, cap}
use Rattle.hour_counts.proofs.SlotLaws.{derived_order, same_slot, slot_itself}
use Rattle.plan_checks.specs.TakenSlots.{is_at, is_overfull, IsLeastOver, no_slot, slot_at, stands_at, is_one_too_many}
use Rattle.plan_checks.proofs.PlaceLaws.{passed, run_passed, passed_apart}

-- slots that are sorted are in the order of slots
pub sorted_are : (ts : List Slot) → IsSorted (slot_order.ghosts).cmp ts → IsSorted slot_cmp ts
sorted_are ts up = subst (λ (cmp : Slot → Slot → Ordering). IsSorted cmp ts) (fun_ext (λ s. fun_ext (derived_order s))) up

slot_total : IsTotalOrder slot_cmp
slot_total = then_total (on_total (λ s. rank s.movement) nat_cmp_total) (then_total (on_total (λ s. s.airport.0) nat_cmp_total) (on_total (λ s. s.hour) nat_cmp_total))

-- a slot does not stand to the left of a lesser one
rising : (ts : List Slot) → IsSorted slot_cmp ts → (i j : ℕ) → i ≤ j → j < length ts → is_lt (slot_cmp (slot_at ts j) (slot_at ts i)) ≡ false
rising ts up i j le lt = sorted_far (λ s t. is_lt (slot_cmp s t)) (ranks_by slot_total (λ s. s)) ts up i j no_slot le lt

-- ---- slots as three numbers

abbrev three_cmp : ℕ → ℕ → ℕ → ℕ → ℕ → ℕ → Ordering
three_cmp r a h q b k = ordering_then (nat_cmp r q) (ordering_then (nat_cmp a b) (nat_cmp h k))

abbrev same_three : ℕ → ℕ → ℕ → ℕ → ℕ → ℕ → Bool
same_three r a h q b k = eqb r q && (eqb a b && eqb h k)

neither_less : (r a h q b k : ℕ) → is_lt (three_cmp r a h q b k) ≡ false → is_lt (three_cmp q b k r a h) ≡ false → same_three r a h q b k ≡ true
neither_less r a h q b k one other = grind (arith, nat_tests)

at_itself : (s : Slot) → is_at s s ≡ true
at_itself s = slot_itself s

at_is : (s t : Slot) → is_at s t ≡ true → t ≡ s
at_is s t same = same_slot t s same

-- between two places of a slot stands that slot
between : (ts : List Slot) (s : Slot) → IsSorted slot_cmp ts → (i j k : ℕ) → i ≤ j → j ≤ k → k < length ts → is_at s (slot_at ts i) ≡ true → is_at s (slot_at ts k) ≡ true → is_at s (slot_at ts j) ≡ true
between ts s up i j k low high lt first last =
    let t = slot_at ts j in
    let before : is_lt (slot_cmp t s) ≡ false = subst (λ (u : Slot). is_lt (slot_cmp t u) ≡ false) (at_is s (slot_at ts i) first) (rising ts up i j low (omega arith)) in
    let after : is_lt (slot_cmp s t) ≡ false = subst (λ (u : Slot). is_lt (slot_cmp u t) ≡ false) (at_is s (slot_at ts k) last) (rising ts up j k high lt) in
    neither_less (rank t.movement) t.airport.0 t.hour (rank s.movement) s.airport.0 s.hour before after

-- ---- one more than the cap

over_from : (count : ℕ) (cap : Option ℕ) (c : ℕ) → cap ≡ Some c → c < count → not (is_within count cap) ≡ true
over_from count cap c is more = rw (is, lt-leb count c more) refl

over_cap : (count : ℕ) (cap : Option ℕ) → not (is_within count cap) ≡ true → (c : ℕ) × (cap ≡ Some c) × (c < count)
over_cap count None h = absurd (true≢false (sym h))
over_cap count (Some c) h = (c, refl, leb-false count c (not-true (leb count c) h))

stands_cap : (ts : List Slot) (k : ℕ) (cap : Option ℕ) → stands_at ts k cap ≡ true → (c : ℕ) × (cap ≡ Some c) × (c ≤ k) × (is_at (slot_at ts k) (slot_at ts (k - c)) ≡ true)
stands_cap ts k None h = absurd (true≢false (sym h))
stands_cap ts k (Some c) h =
    let parts = and_parts (leb c k) (is_at (slot_at ts k) (slot_at ts (k - c))) h in
    (c, refl, leb-true c k parts.0, parts.1)

-- where the slot at place k is one more than its cap, it is overfull
pub one_more-overfull : (I : Situation) (ts : List Slot) (k : ℕ) → IsSorted slot_cmp ts → k < length ts → is_one_too_many I ts k ≡ true → is_overfull I ts (slot_at ts k) ≡ true
one_more-overfull I ts k up lt h =
    let s = slot_at ts k in
    let at = stands_cap ts k (cap I s) h in
    let c = at.0 in
    let run : suc c ≤ passed (is_at s) ts =
    run_passed (is_at s) no_slot ts (k - c) (suc c) (omega (arith, at.2)) (λ j low high.
    between ts s up (k - c) j k low (omega (arith, at.2)) lt at.3 (at_itself s)) in
    over_from (passed (is_at s) ts) (cap I s) c at.1 (omega (arith, run))

-- an overfull slot is one more than its cap at some place
pub record IsOneMore (I : Situation) (ts : List Slot) (s : Slot) : Type 0 where
  pub place : ℕ
  pub within : place < length ts
  pub is : slot_at ts place ≡ s
  pub more : is_one_too_many I ts place ≡ true

stands_from : (ts : List Slot) (k : ℕ) (cap : Option ℕ) (c : ℕ) → cap ≡ Some c → c ≤ k → is_at (slot_at ts k) (slot_at ts (k - c)) ≡ true → stands_at ts k cap ≡ true
stands_from ts k cap c is le same = rw is (grind (arith, nat_tests))

pub overfull-one_more : (I : Situation) (ts : List Slot) (s : Slot) → IsSorted slot_cmp ts → is_overfull I ts s ≡ true → IsOneMore I ts s
overfull-one_more I ts s up h =
    let over = over_cap (passed (is_at s) ts) (cap I s) h in
    let c = over.0 in
    let at = passed_apart (is_at s) no_slot ts c over.2 in
    let k = at.low + c in
    let t = slot_at ts k in
    let here : t ≡ s = at_is s t (between ts s up at.low k at.high (omega arith) at.far at.within at.first at.last) in
    let back : k - c ≡ at.low = omega arith in
    let left : is_at s (slot_at ts (k - c)) ≡ true = subst (λ (j : ℕ). is_at s (slot_at ts j) ≡ true) (sym back) at.first in
    record {
      place = k;
      within = omega (arith, at.far, at.within);
      is = here;
      more = stands_from ts k (cap I t) c (ap (cap I) here ∙ over.1) (omega arith)
          (subst (λ (u : Slot). is_at u (slot_at ts (k - c)) ≡ true) (sym here) left);
    }

-- ---- the first place

-- where no place is one more than its cap, no slot is overfull
pub none_overfull : (I : Situation) (ts : List Slot) (s : Slot) → IsSorted slot_cmp ts → ((k : ℕ) → k < length ts → is_one_too_many I ts k ≡ false) → is_overfull I ts s ≡ false
none_overfull I ts s up none =
    elim (cases_Bool (is_overfull I ts s)) [
      | inr none ↦ none
      | inl over ↦
          let at = overfull-one_more I ts s up over in
          absurd (true≢false (sym at.more ∙ none at.place at.within))
    ]

-- at the first place that is one more stands the least overfull slot
pub first_overfull : (I : Situation) (ts : List Slot) (k : ℕ) → All (IsSlot I) ts → IsSorted slot_cmp ts → k < length ts → ((j : ℕ) → j < k → is_one_too_many I ts j ≡ false) → is_one_too_many I ts k ≡ true → IsLeastOver I ts (slot_at ts k)
first_overfull I ts k ranges up lt before here = record {
  range = ranges k no_slot lt;
  over = one_more-overfull I ts k up lt here;
  least = λ s less.
      elim (cases_Bool (is_overfull I ts s)) [
        | inr none ↦ none
        | inl over ↦
            let at = overfull-one_more I ts s up over in
            let u = slot_at ts k in
            elim (cases_lt at.place k) [
              | inl left ↦ absurd (true≢false (sym at.more ∙ before at.place left))
              | inr right ↦ absurd (true≢false
                  (sym less ∙ subst (λ (t : Slot). is_lt (slot_cmp t u) ≡ false) at.is (rising ts up k at.place right at.within)))
            ]
      ];
}
