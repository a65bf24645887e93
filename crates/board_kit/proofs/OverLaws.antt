-- The overfull slots after another load.
use Rattle.std.proofs.Common.{◌≡◌, ◌≢◌, inl, inr, Bool, true, false, cond, List, refl, sym, ap, subst, ◌∙◌}
use Rattle.std.specs.Prelude.{Some}
use Rattle.std.specs.List.{Contains}
use Rattle.std.proofs.lemmas.Bool.{cases_Bool}
use Rattle.desk_data.specs.declared.broken.Broken.{Broken}
use Rattle.kept_set.specs.Kept.{AreSet}
use Rattle.board_kit.proofs.ItemLaws.{one_or_other}
use Rattle.hour_counts.specs.declared.slot.Slot.{Slot}
use Rattle.board_kit.specs.declared.slot.SlotLoad.{SlotLoad}
use Rattle.hour_counts.specs.Slots.{is_slot, item}
use Rattle.board_kit.specs.Slots.{is_over, load_at, AreOver, IsWritten}
use Rattle.hour_counts.proofs.SlotLaws.{same_slot, slot_itself}
use Rattle.board_kit.proofs.SlotLaws.{same_item}

cond_here : {X : Type 0} (b : Bool) (x y : X) → b ≡ true → cond b x y ≡ x
cond_here b x y e = rw e refl

cond_there : {X : Type 0} (b : Bool) (x y : X) → b ≡ false → cond b x y ≡ y
cond_there b x y e = rw e refl

some_same : {X : Type 0} (x y : X) → Some x ≡ Some y → x ≡ y
some_same x y e = cc

no_both : (b : Bool) → b ≡ false → b ≡ true → ⊥
no_both b f t = cc

pub here_written : (old new : List (Slot × SlotLoad)) (s : Slot) (load : SlotLoad) → IsWritten old new s load → load_at new s ≡ Some load
here_written old new s load written = written s ∙ cond_here (is_slot s s) (Some load) (load_at old s) (slot_itself s)

pub over_written : (old new : List (Slot × SlotLoad)) (s : Slot) (load : SlotLoad) (kept items : List Broken) → AreOver old kept → IsWritten old new s load → AreSet kept items (item s) (is_over load) → AreOver new items
over_written old new s load kept items over written set = record {
  sound = λ y is_in. elim (one_or_other y (item s)) [
    | inl same ↦ (s, load, here_written old new s load written, set.here.1 (subst (Contains items) same is_in), same)
    | inr other ↦
        let before = over.sound y ((set.others y other).0 is_in) in
        elim (cases_Bool (is_slot s before.0)) [
          | inl here ↦ absurd (other (before.4 ∙ ap item (sym (same_slot s before.0 here))))
          | inr there ↦ (before.0, before.1, written before.0 ∙ cond_there (is_slot s before.0) (Some load) (load_at old before.0) there ∙ before.2, before.3, before.4)
        ]
  ];
  whole = λ q other_load is above. elim (cases_Bool (is_slot s q)) [
    | inl here ↦
        let same : s ≡ q = same_slot s q here in
        let loads : load ≡ other_load = some_same load other_load (sym (cond_here (is_slot s q) (Some load) (load_at old q) here) ∙ sym (written q) ∙ is) in
        subst (λ t. Contains items (item t)) same (set.here.0 (ap is_over loads ∙ above))
    | inr there ↦
        let apart : item q ≢ item s = λ e. no_both (is_slot s q) there (subst (λ t. is_slot s t ≡ true) (sym (same_item q s e)) (slot_itself s)) in
        (set.others (item q) apart).1 (over.whole q other_load (sym (cond_there (is_slot s q) (Some load) (load_at old q) there) ∙ sym (written q) ∙ is) above)
  ];
}
