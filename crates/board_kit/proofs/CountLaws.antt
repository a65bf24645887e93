-- Loads as a leg comes or goes.
use Rattle.std.proofs.Common.{◌≡◌, ℕ, ◌+◌, ◌-◌, ◌≤◌, inl, inr, Bool, true, false, cond, List, refl, sym, ap, subst, ◌∙◌, arith}
use Rattle.std.specs.Prelude.{Option, Some, None, IsSome, ◌&&◌}
use Rattle.std.proofs.lemmas.Bool.{cases_Bool}
use Rattle.std.proofs.lemmas.Bool.Decides.{nat_tests}
use Rattle.desk_data.specs.Situation.{Situation}
use Rattle.hour_counts.specs.Counts.{one_if}
use Rattle.board_kit.specs.declared.slot.By.{By}
use Rattle.board_kit.specs.declared.slot.By.TheVariants.{Flyer, Schedule}
use Rattle.hour_counts.specs.declared.slot.Slot.{Slot}
use Rattle.board_kit.specs.declared.slot.SlotLoad.{SlotLoad}
use Rattle.board_kit.specs.declared.slot.SlotUse.{SlotUse}
use Rattle.hour_counts.specs.Slots.{is_slot, IsSlot, cap}
use Rattle.board_kit.specs.Slots.{load_at, load_count, count_of, counts_by, AreCounted, IsWritten, IsMoved, KeepsKnown, Enters, Leaves, moved, stepped, among}
use Rattle.hour_counts.proofs.SlotLaws.{same_slot, slot_itself}

cond_here : {X : Type 0} (b : Bool) (x y : X) → b ≡ true → cond b x y ≡ x
cond_here b x y e = rw e refl

cond_there : {X : Type 0} (b : Bool) (x y : X) → b ≡ false → cond b x y ≡ y
cond_there b x y e = rw e refl

some_same : {X : Type 0} (x y : X) → Some x ≡ Some y → x ≡ y
some_same x y e = cc

pub written_here : (old new : List (Slot × SlotLoad)) (s q : Slot) (load : SlotLoad) → IsWritten old new s load → is_slot s q ≡ true → load_at new q ≡ Some load
written_here old new s q load written here = written q ∙ cond_here (is_slot s q) (Some load) (load_at old q) here

pub written_there : (old new : List (Slot × SlotLoad)) (s q : Slot) (load : SlotLoad) → IsWritten old new s load → is_slot s q ≡ false → load_at new q ≡ load_at old q
written_there old new s q load written there = written q ∙ cond_there (is_slot s q) (Some load) (load_at old q) there

some_known : {X : Type 0} (o : Option X) (x : X) → o ≡ Some x → IsSome o
some_known None x e = absurd cc
some_known (Some y) x e = refl

load_of : {X : Type 0} (o : Option X) → IsSome o → (x : X) × (o ≡ Some x)
load_of None known = absurd cc
load_of (Some x) known = (x, refl)

-- a written slot keeps the others known
pub written_known : (old new : List (Slot × SlotLoad)) (s : Slot) (load : SlotLoad) → IsWritten old new s load → KeepsKnown old new
written_known old new s load written q known = elim (cases_Bool (is_slot s q)) [
  | inl here ↦ some_known (load_at new q) load (written_here old new s q load written here)
  | inr there ↦ subst IsSome (sym (written_there old new s q load written there)) known
]

counted_step : (I : Situation) (n m : By → Slot → ℕ) (old new : List (Slot × SlotLoad)) (s : Slot) (load next : SlotLoad) → AreCounted I n old → load_at old s ≡ Some load → IsWritten old new s next → next.cap ≡ load.cap → ((by : By) → load_count by next ≡ m by s) → ((by : By) (q : Slot) → is_slot s q ≡ false → m by q ≡ n by q) → AreCounted I m new
counted_step I n m old new s load next are at written caps count others = record {
  counts = λ by q. elim (cases_Bool (is_slot s q)) [
    | inl here ↦ ap (count_of by) (written_here old new s q next written here) ∙ count by ∙ ap (m by) (same_slot s q here)
    | inr there ↦ ap (count_of by) (written_there old new s q next written there) ∙ are.counts by q ∙ sym (others by q there)
  ];
  caps = λ q other is. elim (cases_Bool (is_slot s q)) [
    | inl here ↦ ap (λ (l : SlotLoad). l.cap) (some_same other next (sym is ∙ written_here old new s q next written here)) ∙ caps ∙ are.caps s load at ∙ ap (cap I) (same_slot s q here)
    | inr there ↦ are.caps q other (sym (written_there old new s q next written there) ∙ is)
  ];
  slots = λ q other is. elim (cases_Bool (is_slot s q)) [
    | inl here ↦ subst (IsSlot I) (same_slot s q here) (are.slots s load at)
    | inr there ↦ are.slots q other (sym (written_there old new s q next written there) ∙ is)
  ];
}

-- the counts of a load as a leg comes or goes
moved_count : (by : By) (more : Bool) (t : SlotUse) (load : SlotLoad) → load_count by (moved more t load) ≡ stepped more (counts_by by t) (load_count by load)
moved_count Flyer more t load = refl
moved_count Schedule more t load = refl

one_more : (counts : Bool) (n : ℕ) → n ≤ 4000000001 → stepped true counts n ≡ n + one_if counts
one_more true n few = grind (arith, nat_tests)
one_more false n few = omega arith

one_less : (counts : Bool) (n : ℕ) → stepped false counts n ≡ n - one_if counts
one_less true n = refl
one_less false n = omega arith

at_itself : (counts here : Bool) → here ≡ true → one_if (counts && here) ≡ one_if counts
at_itself true here is = ap one_if is
at_itself false here is = refl

nowhere_else : (counts here : Bool) → here ≡ false → one_if (counts && here) ≡ 0
nowhere_else true here is = ap one_if is
nowhere_else false here is = refl

more_step : (I : Situation) (n : By → Slot → ℕ) (old new : List (Slot × SlotLoad)) (s : Slot) (t : SlotUse) → AreCounted I n old → IsSome (load_at old s) → ((by : By) → n by s ≤ 4000000001) → IsMoved old new s t true → AreCounted I (λ by q. n by q + one_if (counts_by by t && is_slot s q)) new
more_step I n old new s t are known few comes =
    let at = load_of (load_at old s) known in
    let count : (by : By) → load_count by at.0 ≡ n by s = λ by. sym (ap (count_of by) at.1) ∙ are.counts by s in
    counted_step I n (λ by q. n by q + one_if (counts_by by t && is_slot s q)) old new s at.0 (moved true t at.0) are at.1 (comes at.0 at.1) refl
    (λ by. moved_count by true t at.0 ∙ one_more (counts_by by t) (load_count by at.0) (omega (arith, count by, few by))
    ∙ omega (arith, count by, at_itself (counts_by by t) (is_slot s s) (slot_itself s)))
    (λ by q there. omega (arith, nowhere_else (counts_by by t) (is_slot s q) there))

less_step : (I : Situation) (n : By → Slot → ℕ) (old new : List (Slot × SlotLoad)) (s : Slot) (t : SlotUse) → AreCounted I n old → IsSome (load_at old s) → IsMoved old new s t false → AreCounted I (λ by q. n by q - one_if (counts_by by t && is_slot s q)) new
less_step I n old new s t are known goes =
    let at = load_of (load_at old s) known in
    let count : (by : By) → load_count by at.0 ≡ n by s = λ by. sym (ap (count_of by) at.1) ∙ are.counts by s in
    counted_step I n (λ by q. n by q - one_if (counts_by by t && is_slot s q)) old new s at.0 (moved false t at.0) are at.1 (goes at.0 at.1) refl
    (λ by. moved_count by false t at.0 ∙ one_less (counts_by by t) (load_count by at.0)
    ∙ omega (arith, count by, at_itself (counts_by by t) (is_slot s s) (slot_itself s)))
    (λ by q there. omega (arith, nowhere_else (counts_by by t) (is_slot s q) there))

-- counts that agree
pub counted_same : (I : Situation) (n m : By → Slot → ℕ) (loads : List (Slot × SlotLoad)) → AreCounted I n loads → ((by : By) (s : Slot) → n by s ≡ m by s) → AreCounted I m loads
counted_same I n m loads are same = record { counts = λ by s. are.counts by s ∙ same by s; caps = are.caps; slots = are.slots }

one_at_most : (b : Bool) → one_if b ≤ 1
one_at_most true = omega arith
one_at_most false = omega arith

-- a leg takes both slots of its row
pub entered : (old mid new : List (Slot × SlotLoad)) (t : SlotUse) → IsMoved old mid t.from t true → KeepsKnown old mid → IsMoved mid new t.to t true → Enters old new (Some t)
entered old mid new t first keeps second I n are known few =
    let once = more_step I n old mid t.from t are known.0 (λ by. omega (arith, few by t.from)) first in
    let m : By → Slot → ℕ = λ by q. n by q + one_if (counts_by by t && is_slot t.from q) in
    let twice = more_step I m mid new t.to t once (keeps t.to known.1) (λ by. omega (arith, few by t.to, one_at_most (counts_by by t && is_slot t.from t.to))) second in
    counted_same I (λ by q. m by q + one_if (counts_by by t && is_slot t.to q)) (λ by q. n by q + among by (Some t) q) new twice (λ by s. omega arith)

-- a leg leaves both
pub left_from : (old mid new : List (Slot × SlotLoad)) (t : SlotUse) → IsMoved old mid t.from t false → KeepsKnown old mid → IsMoved mid new t.to t false → Leaves old new (Some t)
left_from old mid new t first keeps second I n are known enough =
    let once = less_step I n old mid t.from t are known.0 first in
    let m : By → Slot → ℕ = λ by q. n by q - one_if (counts_by by t && is_slot t.from q) in
    let twice = less_step I m mid new t.to t once (keeps t.to known.1) second in
    counted_same I (λ by q. m by q - one_if (counts_by by t && is_slot t.to q)) (λ by q. n by q - among by (Some t) q) new twice (λ by s. omega arith)

-- a row that is cancelled takes none
pub entered_none : (loads : List (Slot × SlotLoad)) → Enters loads loads None
entered_none loads I n are known few = counted_same I n (λ by s. n by s + 0) loads are (λ by s. omega arith)

pub left_none : (loads : List (Slot × SlotLoad)) → Leaves loads loads None
left_none loads I n are known enough = counted_same I n (λ by s. n by s - 0) loads are (λ by s. omega arith)
