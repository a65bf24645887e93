-- What a map of slots has is what the definitions say.
use Rattle.std.proofs.Common.{◌≡◌, Bool, cond, List, [], ◌∷◌, refl, sym, ap, ◌∙◌}
use Rattle.std.specs.Prelude.{Option, Some}
use Rattle.std.specs.Map.{lookup}
use Rattle.hour_counts.specs.declared.slot.Slot.{Slot}
use Rattle.hour_counts.specs.contracts.slot.SlotPartialEq.TheImpl as slots
use Rattle.hour_counts.specs.Slots.{is_slot}
use Rattle.hour_counts.proofs.SlotLaws.{derived_is}
use Rattle.board_kit.specs.declared.slot.SlotLoad.{SlotLoad}
use Rattle.board_kit.specs.Slots.{load_at, IsWritten}

lookup_same : {K X : Type 0} (p q : K → Bool) (es : List (K × X)) → ((k : K) → p k ≡ q k) → lookup p es ≡ lookup q es
lookup_same p q [] same = refl
lookup_same p q (e ∷ es) same = rw (same e.0, lookup_same p q es same) refl

pub load_is : (es : List (Slot × SlotLoad)) (s : Slot) → lookup (slots.eq-value.it s) es ≡ load_at es s
load_is es s = lookup_same (slots.eq-value.it s) (is_slot s) es (derived_is s)

-- what an insert says of a map
pub written_from : (old new : List (Slot × SlotLoad)) (s : Slot) (load : SlotLoad) → ((q : Slot) → lookup (slots.eq-value.it q) new ≡ cond (slots.eq-value.it s q) (Some load) (lookup (slots.eq-value.it q) old)) → IsWritten old new s load
written_from old new s load updates q =
    sym (load_is new q) ∙ updates q
    ∙ ap (λ (b : Bool). cond b (Some load) (lookup (slots.eq-value.it q) old)) (derived_is s q)
    ∙ ap (λ (o : Option SlotLoad). cond (is_slot s q) (Some load) o) (load_is old q)
