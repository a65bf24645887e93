use Rattle.std.proofs.Common.{◌≡◌, sym, subst, ap, ◌∙◌, Ok, Err}
use Rattle.std.specs.Prelude.{Result, Option, None, Some, IsSome, OnOk, OnErr}
use Rattle.board_kit.specs.Slots.{load_at, IsWritten}
use Rattle.board_kit.proofs.KeyLaws.{load_is, written_from}
use Rattle.board_kit.proofs.OverLaws.{over_written}
use Rattle.board_kit.proofs.loads.Loads.write.Goals as goal

ok_only : {X E : Type 0} (r : Result X E) (T N : Type 0) → OnOk r T → OnErr r N → (N → ⊥) → T
ok_only (Ok x) T N good bad never = good
ok_only (Err e) T N good bad never = absurd (never bad)

none_known : {X : Type 0} (o : Option X) → o ≡ None → IsSome o → ⊥
none_known None e known = absurd cc
none_known (Some x) e known = absurd cc

written : (c : goal.After-set) → IsWritten c.self.inside.loads.entries c.insert-before.new.self.entries c.args.slot c.args.load
written c =
    let old = c.self.inside.loads.entries in
    let known = subst (λ rows. IsSome (load_at rows c.args.slot)) (sym (ap (λ r. r.loads) c.self.view_is)) c.requires.known in
    let updates = ok_only c.insert-before.result _ _ c.insert-before.ensures.updates c.insert-before.ensures.absent
    (λ none. none_known (load_at old c.args.slot) (sym (load_is old c.args.slot) ∙ none) known) in
    written_from old c.insert-before.new.self.entries c.args.slot c.args.load updates.0

pub invariant_of-self : goal.invariant_of-self
invariant_of-self c =
    over_written c.self.inside.loads.entries c.insert-before.new.self.entries c.args.slot c.args.load c.self.inside.over.items c.set.new.self.items c.self.invariant (written c)
    (rw (sym c.item.ensures, sym c.is_over.ensures) c.set.ensures.set)

pub returns-clause-written : goal.returns-clause-written
returns-clause-written c = subst (λ rows. IsWritten rows c.insert-before.new.self.entries c.args.slot c.args.load) (ap (λ r. r.loads) c.self.view_is) (written c)
