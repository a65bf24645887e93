use Rattle.std.proofs.Common.{◌≡◌, subst, ap, get_or}
use Rattle.kept_set.specs.Kept.{AreRising}
use Rattle.kept_set.proofs.SetLaws.{remove_set}
use Rattle.kept_set.proofs.set.KeptSet.take.Goals as goal

pub returns-in-Ok-clause-set : goal.returns-in-Ok-clause-set
returns-in-Ok-clause-set g c exact =
    let items : c.self.inside.items.items ≡ c.args.self.now.items = ap (λ k. k.items) c.self.view_is in
    rw (c.remove.ensures.items, items)
    (remove_set {cmp = g.K.Ord.cmp} g.met.K.Ord.total c.args.self.now.items c.in-Ok.at c.args.item (subst (AreRising g.K.Ord.cmp) items c.self.invariant) c.in-Ok.ensures.bound
    (exact (get_or c.args.self.now.items c.in-Ok.at c.args.item) c.args.item (c.in-Ok.ensures.found c.args.item)))
