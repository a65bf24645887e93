-- Loads in which a slot is known besides.
use Rattle.std.proofs.Common.{◌≡◌, ℕ, inl, inr, true, List, refl, sym, ap, subst, ◌∙◌, arith}
use Rattle.std.specs.Prelude.{Option, Some, None, IsSome}
use Rattle.desk_data.specs.Situation.{Situation}
use Rattle.board_kit.specs.declared.slot.By.{By}
use Rattle.board_kit.specs.declared.slot.By.TheVariants.{Flyer, Schedule}
use Rattle.hour_counts.specs.declared.slot.Slot.{Slot}
use Rattle.board_kit.specs.declared.slot.SlotLoad.{SlotLoad}
use Rattle.board_kit.specs.declared.slot.SlotUse.{SlotUse}
use Rattle.hour_counts.specs.Slots.{is_slot, IsSlot, cap}
use Rattle.board_kit.specs.Slots.{load_at, load_count, count_of, AreCounted, IsWritten, AreKnown, KeepsKnown, Learns, AreOver, is_over}
use Rattle.board_kit.proofs.CountLaws.{written_here, written_there}
use Rattle.hour_counts.proofs.SlotLaws.{same_slot}
use Rattle.std.proofs.lemmas.Bool.{cases_Bool}
use Rattle.std.proofs.lemmas.Bool.Decides.{nat_tests}
use Rattle.desk_data.specs.declared.broken.Broken.{Broken}

-- the load of a slot that no leg takes
abbrev unused : Option ℕ → SlotLoad
unused c = record { by_flyer = 0; by_schedule = 0; cap = c }

unused_count : (by : By) (c : Option ℕ) → load_count by (unused c) ≡ 0
unused_count Flyer c = refl
unused_count Schedule c = refl

some_same : {X : Type 0} (x y : X) → Some x ≡ Some y → x ≡ y
some_same x y e = cc

none_known : {X : Type 0} (o : Option X) → o ≡ None → IsSome o → ⊥
none_known None e known = absurd cc
none_known (Some x) e known = absurd cc

pub written_learns : (old new : List (Slot × SlotLoad)) (s : Slot) (c : Option ℕ) → load_at old s ≡ None → IsWritten old new s (unused c) → Learns old new s c
written_learns old new s c none written q = elim (cases_Bool (is_slot s q)) [
  | inl here ↦ let same = same_slot s q here in inr (sym same, subst (λ t. load_at old t ≡ None) same none, written_here old new s q (unused c) written here)
  | inr there ↦ inl (written_there old new s q (unused c) written there)
]

pub learns_counted : (I : Situation) (n : By → Slot → ℕ) (old new : List (Slot × SlotLoad)) (s : Slot) → IsSlot I s → Learns old new s (cap I s) → AreCounted I n old → AreCounted I n new
learns_counted I n old new s is_slot learns are = record {
  counts = λ by q. elim (learns q) [
    | inl same ↦ ap (count_of by) same ∙ are.counts by q
    | inr now ↦ ap (count_of by) now.2 ∙ unused_count by (cap I s) ∙ sym (ap (count_of by) now.1) ∙ are.counts by q
  ];
  caps = λ q load is. elim (learns q) [
    | inl same ↦ are.caps q load (sym same ∙ is)
    | inr now ↦ ap (λ (l : SlotLoad). l.cap) (some_same load (unused (cap I s)) (sym is ∙ now.2)) ∙ ap (cap I) (sym now.0)
  ];
  slots = λ q load is. elim (learns q) [
    | inl same ↦ are.slots q load (sym same ∙ is)
    | inr now ↦ subst (IsSlot I) (sym now.0) is_slot
  ];
}

some_known : {X : Type 0} (o : Option X) (x : X) → o ≡ Some x → IsSome o
some_known None x e = absurd cc
some_known (Some y) x e = refl

pub learns_known : (old new : List (Slot × SlotLoad)) (s : Slot) (c : Option ℕ) → Learns old new s c → KeepsKnown old new
learns_known old new s c learns q known = elim (learns q) [
  | inl same ↦ subst IsSome (sym same) known
  | inr now ↦ some_known (load_at new q) (unused c) now.2
]

none_over : (c : Option ℕ) → is_over (unused c) ≡ true → ⊥
none_over None above = absurd cc
none_over (Some c) above = grind (arith, nat_tests)

pub learns_over : (old new : List (Slot × SlotLoad)) (s : Slot) (c : Option ℕ) (items : List Broken) → Learns old new s c → AreOver old items → AreOver new items
learns_over old new s c items learns over = record {
  sound = λ y is_in.
      let at = over.sound y is_in in
      elim (learns at.0) [
        | inl same ↦ (at.0, at.1, same ∙ at.2, at.3, at.4)
        | inr now ↦ absurd (none_known (load_at old at.0) now.1 (some_known (load_at old at.0) at.1 at.2))
      ];
  whole = λ q load is above. elim (learns q) [
    | inl same ↦ over.whole q load (sym same ∙ is) above
    | inr now ↦ absurd (none_over c (subst (λ l. is_over l ≡ true) (some_same load (unused c) (sym is ∙ now.2)) above))
  ];
}

-- what is known already is learnt
pub same_learns : (loads : List (Slot × SlotLoad)) (s : Slot) (c : Option ℕ) → Learns loads loads s c
same_learns loads s c q = inl refl

pub keeps_both : (old new : List (Slot × SlotLoad)) (t : Option SlotUse) → KeepsKnown old new → AreKnown old t → AreKnown new t
keeps_both old new None keeps known = tt
keeps_both old new (Some t) keeps known = (keeps t.from known.0, keeps t.to known.1)
