use Rattle.std.proofs.Common.{rules, List, subst, ap, ◌∙◌, get_or}
use Rattle.kept_set.specs.Kept.{AreRising}
use Rattle.kept_set.proofs.NeighbourLaws.{first_after}
use Rattle.kept_set.proofs.set.KeptSet.after.Goals as goal

pub returns : goal.returns
returns g c =
    first_after g.K.Ord.cmp c.args.self.now.items c.count_not_above-at.result c.args.item c.index-as_slice-at.result (subst (AreRising g.K.Ord.cmp) (ap (λ k. k.items) c.self.view_is) c.self.invariant)
    (search rules) (c.index-as_slice-at.is ∙ ap (λ (xs : List g.row.K.Denot). get_or xs c.count_not_above-at.result c.index-as_slice-at.result) (c.as_slice.ensures.value ∙ ap (λ k. k.items) c.self.view_is)) c.count_not_above-at.ensures.before c.count_not_above-at.ensures.rest
