use Rattle.std.proofs.Common.{sym, subst, ap, true, false}
use Rattle.kept_set.specs.Kept.{AreSet}
use Rattle.board_kit.specs.declared.key.ItemKey.{ItemKey}
use Rattle.board_kit.specs.Items.{key_of}
use Rattle.board_kit.proofs.ItemLaws.{keys_exact, keys_set, items_set}
use Rattle.board_kit.proofs.items.BrokenItems.set.Goals as goal

put_in : (c : goal.After-put) → AreSet c.self.inside.keys.items c.put.new.self.items (key_of c.args.item) true
put_in c = subst (λ (k : ItemKey). AreSet c.self.inside.keys.items c.put.new.self.items k true) c.key_of.ensures (c.put.ensures.set keys_exact)

taken_out : (c : goal.After-take) → AreSet c.self.inside.keys.items c.take.new.self.items (key_of c.args.item) false
taken_out c = subst (λ (k : ItemKey). AreSet c.self.inside.keys.items c.take.new.self.items k false) c.key_of-else-is_in.ensures (c.take.ensures.set keys_exact)

pub invariant_of-self : goal.invariant_of-self
invariant_of-self c = keys_set c.self.inside.keys.items c.put.new.self.items c.args.item true c.self.invariant (put_in c)

pub invariant_of-self-else-is_in : goal.invariant_of-self-else-is_in
invariant_of-self-else-is_in c = keys_set c.self.inside.keys.items c.take.new.self.items c.args.item false c.self.invariant (taken_out c)

pub returns-then-is_in-clause-set : goal.returns-then-is_in-clause-set
returns-then-is_in-clause-set c =
    rw (sym (ap (λ k. k.items) c.self.view_is), c.if-is_in.true) (items_set c.self.inside.keys.items c.put.new.self.items c.args.item true c.self.invariant (put_in c))

pub returns-else-is_in-clause-set : goal.returns-else-is_in-clause-set
returns-else-is_in-clause-set c =
    rw (sym (ap (λ k. k.items) c.self.view_is), c.if-is_in.false) (items_set c.self.inside.keys.items c.take.new.self.items c.args.item false c.self.invariant (taken_out c))
