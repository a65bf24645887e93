use Rattle.std.proofs.Common.{◌≡◌, inl, inr, ap, subst, get_or, List, arith, Ok, Err, length, vec_capacity}
use Rattle.std.specs.Prelude.{Result, IsOk, is_ok, if◌then◌else◌}
use Rattle.std.specs.List.{insert}
use Rattle.kept_set.specs.Kept.{AreRising}
use Rattle.kept_set.proofs.SetLaws.{gap_lacks, insert_set, remove_set}
use Rattle.kept_set.proofs.set.KeptSet.toggle.Goals as goal

by_ok : {K T E : Type 0} (r : Result T E) (xs ys zs : List K) → zs ≡ (if is_ok r then xs else ys) → IsOk r → zs ≡ xs
by_ok (Ok x) xs ys zs is ok = is
by_ok (Err e) xs ys zs is ok = absurd cc

pub returns-in-Ok-clause-set : goal.returns-in-Ok-clause-set
returns-in-Ok-clause-set g c exact =
    let items : c.self.inside.items.items ≡ c.args.self.now.items = ap (λ k. k.items) c.self.view_is in
    let here = exact (get_or c.args.self.now.items c.in-Ok.place c.args.item) c.args.item (c.in-Ok.ensures.found c.args.item) in
    inl (
      (c.in-Ok.place, c.in-Ok.ensures.bound, here),
      rw (c.remove.ensures.items, items)
          (remove_set {cmp = g.K.Ord.cmp} g.met.K.Ord.total c.args.self.now.items c.in-Ok.place c.args.item (subst (AreRising g.K.Ord.cmp) items c.self.invariant) c.in-Ok.ensures.bound here),
    )

pub returns-in-Err-clause-set : goal.returns-in-Err-clause-set
returns-in-Err-clause-set g c exact =
    let items : c.self.inside.items.items ≡ c.args.self.now.items = ap (λ k. k.items) c.self.view_is in
    let room : vec_capacity c.self.inside.items ≡ c.args.self.now.room = ap (λ k. k.room) c.self.view_is in
    let is_ok : IsOk c.insert-inserted.result = c.insert-inserted.ensures.succeeds (omega (arith, c.self.inside.items.ok.0, ap length items, room, c.requires)) in
    let inserted = by_ok c.insert-inserted.result (insert c.self.inside.items.items c.in-Err.place c.args.item) c.self.inside.items.items c.insert-inserted.new.self.items c.insert-inserted.ensures.items is_ok in
    inr (
      λ is. gap_lacks {cmp = g.K.Ord.cmp} g.met.K.Ord.total c.args.self.now.items c.in-Err.place c.args.item c.in-Err.ensures.missing is,
      rw (inserted, items) (insert_set {cmp = g.K.Ord.cmp} c.args.self.now.items c.in-Err.place c.args.item c.in-Err.ensures.missing),
    )
