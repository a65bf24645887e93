use Rattle.std.proofs.Common.{◌≡◌, List, sym, ap, subst, ◌∙◌}
use Rattle.std.specs.List.{AllZip}
use Rattle.std.proofs.lemmas.Map.Entries.{entries_from_clone}
use Rattle.hour_counts.specs.declared.slot.Slot.{Slot}
use Rattle.board_kit.specs.declared.slot.SlotLoad.{SlotLoad}
use Rattle.board_kit.specs.Slots.{AreOver}
use Rattle.board_kit.proofs.loads.Loads.copy.Goals as goal

abbrev Entries : Type 0
Entries = List (Slot × SlotLoad)

-- clones of plain values are the values
cloned : (old new : Entries) → AllZip (λ p q. (q.0 ≡ p.0) × (q.1 ≡ p.1)) old new → new ≡ old
cloned old new are = entries_from_clone (λ (s t : Slot). t ≡ s) (λ (l m : SlotLoad). m ≡ l) (λ s t is. is) (λ l m is. is) old new are

pub invariant_of-result : goal.invariant_of-result
invariant_of-result c =
    let s = c.self.inside in
    let entries = cloned s.loads.entries c.in_ok-loads.loads.entries c.in_ok-loads.ensures.cases in
    subst (λ (rows : Entries). AreOver rows c.in_ok-over.over.items) (sym entries) (subst (AreOver s.loads.entries) (sym c.in_ok-over.ensures.items) c.self.invariant)

pub returns-clause-loads : goal.returns-clause-loads
returns-clause-loads c = cloned c.self.inside.loads.entries c.in_ok-loads.loads.entries c.in_ok-loads.ensures.cases ∙ ap (λ r. r.loads) c.self.view_is
