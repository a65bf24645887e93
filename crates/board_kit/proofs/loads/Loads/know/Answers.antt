use Rattle.std.proofs.Common.{◌≡◌, sym, subst, ap, ◌∙◌, false, refl}
use Rattle.std.specs.Prelude.{Option, None, Some}
use Rattle.std.specs.Option.{is_some}
use Rattle.board_kit.specs.Slots.{load_at, Learns}
use Rattle.board_kit.proofs.KeyLaws.{written_from}
use Rattle.board_kit.proofs.KnowLaws.{written_learns, learns_over}
use Rattle.board_kit.proofs.loads.Loads.know.Goals as goal

is_none_so : {X : Type 0} (o : Option X) → is_some o ≡ false → o ≡ None
is_none_so None e = refl
is_none_so (Some x) e = absurd cc

learnt : (c : goal.In_ok-insert) → Learns c.self.inside.loads.entries c.insert.new.self.entries c.args.slot c.args.cap
learnt c =
    let was : load_at c.self.inside.loads.entries c.args.slot ≡ None = ap (λ r. load_at r.loads c.args.slot) c.self.view_is ∙ sym c.at.ensures ∙ is_none_so c.at.result c.if-is_none.ensures in
    written_learns c.self.inside.loads.entries c.insert.new.self.entries c.args.slot c.args.cap was
    (written_from c.self.inside.loads.entries c.insert.new.self.entries c.args.slot (record { by_flyer = 0; by_schedule = 0; cap = c.args.cap }) c.in_ok-insert.ensures.updates.0)

pub invariant_of-self : goal.invariant_of-self
invariant_of-self c = learns_over c.self.inside.loads.entries c.insert.new.self.entries c.args.slot c.args.cap c.self.inside.over.items (learnt c) c.self.invariant

pub returns-in_ok-insert-clause-learns : goal.returns-in_ok-insert-clause-learns
returns-in_ok-insert-clause-learns c = subst (λ rows. Learns rows c.insert.new.self.entries c.args.slot c.args.cap) (ap (λ r. r.loads) c.self.view_is) (learnt c)
