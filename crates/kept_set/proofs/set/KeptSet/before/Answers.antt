use Rattle.std.proofs.Common.{rules, List, ◌-◌, subst, ap, ◌∙◌, get_or}
use Rattle.kept_set.specs.Kept.{AreRising}
use Rattle.kept_set.proofs.NeighbourLaws.{last_before}
use Rattle.kept_set.proofs.set.KeptSet.before.Goals as goal

pub returns : goal.returns
returns g c =
    last_before g.K.Ord.cmp c.args.self.now.items c.count_below-at.result c.args.item c.index-as_slice-at.result (subst (AreRising g.K.Ord.cmp) (ap (λ k. k.items) c.self.view_is) c.self.invariant)
    (search rules) c.count_below-at.ensures.bound (c.index-as_slice-at.is ∙ ap (λ (xs : List g.row.K.Denot). get_or xs (c.count_below-at.result - 1) c.index-as_slice-at.result) (c.as_slice.ensures.value ∙ ap (λ k. k.items) c.self.view_is)) c.count_below-at.ensures.before c.count_below-at.ensures.rest
