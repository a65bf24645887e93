use Rattle.std.proofs.Common.{subst, ap}
use Rattle.kept_set.specs.Kept.{AreRising}
use Rattle.kept_set.proofs.NeighbourLaws.{found_after, found_not_above}
use Rattle.kept_set.proofs.set.KeptSet.count_not_above.Goals as goal

pub returns-in-Ok-clause-before : goal.returns-in-Ok-clause-before
returns-in-Ok-clause-before g c =
    found_not_above g.met.K.Ord.total c.args.self.now.items c.in-Ok.at c.args.item (subst (AreRising g.K.Ord.cmp) (ap (λ k. k.items) c.self.view_is) c.self.invariant)
    c.in-Ok.ensures.bound c.in-Ok.ensures.found

pub returns-in-Ok-clause-rest : goal.returns-in-Ok-clause-rest
returns-in-Ok-clause-rest g c =
    found_after g.met.K.Ord.total c.args.self.now.items c.in-Ok.at c.args.item (subst (AreRising g.K.Ord.cmp) (ap (λ k. k.items) c.self.view_is) c.self.invariant)
    c.in-Ok.ensures.found
