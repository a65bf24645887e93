use Rattle.std.proofs.Common.{◌≡◌, get_or, set, refl, sym, ap, subst, ◌∙◌, arith}
use Rattle.std.specs.List.{Contains}
use Rattle.std.proofs.lemmas.Bool.{true≢false}
use Rattle.std.proofs.lemmas.List.{length-set}
use Rattle.kept_set.proofs.SetLaws.{gap_lacks}
use Rattle.kept_set.specs.Kept.{AreRising}
use Rattle.kept_set.proofs.ReplaceLaws.{replaced_rising, replaced, before_place, after_place, same_after, put_here, between_keeps, keeps_between}
use Rattle.kept_set.proofs.set.KeptSet.replace.Goals as goal

pub invariant_of-self : goal.invariant_of-self
invariant_of-self g c =
    let same : c.self.inside.items.items ≡ c.args.self.now.items = ap (λ k. k.items) c.self.view_is in
    subst (λ xs. AreRising g.K.Ord.cmp (set xs c.in-Ok.at c.args.to)) (sym same)
    (replaced_rising {cmp = g.K.Ord.cmp} g.met.K.Ord.total c.args.self.now.items c.in-Ok.at c.args.to c.item_before-before.result c.item_at-after.result (subst (AreRising g.K.Ord.cmp) same c.self.invariant)
    c.in-Ok.ensures.bound c.item_before-before.ensures c.item_at-after.ensures (c.is_between-stays.ensures.0 c.if-stays.true))

pub returns-then-stays-clause-set : goal.returns-then-stays-clause-set
returns-then-stays-clause-set g c exact =
    let same : c.self.inside.items.items ≡ c.args.self.now.items = ap (λ k. k.items) c.self.view_is in
    let rising = subst (AreRising g.K.Ord.cmp) same c.self.invariant in
    let then = replaced_rising {cmp = g.K.Ord.cmp} g.met.K.Ord.total c.args.self.now.items c.in-Ok.at c.args.to c.item_before-before.result c.item_at-after.result rising
    c.in-Ok.ensures.bound c.item_before-before.ensures c.item_at-after.ensures (c.is_between-stays.ensures.0 c.if-stays.true) in
    rw same (replaced {cmp = g.K.Ord.cmp} g.met.K.Ord.total c.args.self.now.items c.in-Ok.at c.args.from c.args.to rising then c.in-Ok.ensures.bound
    (exact (get_or c.args.self.now.items c.in-Ok.at c.args.from) c.args.from (c.in-Ok.ensures.found c.args.from)))

pub returns-then-stays-clause-after : goal.returns-then-stays-clause-after
returns-then-stays-clause-after g c =
    let same : c.self.inside.items.items ≡ c.args.self.now.items = ap (λ k. k.items) c.self.view_is in
    let rising = subst (AreRising g.K.Ord.cmp) same c.self.invariant in
    let xs = c.args.self.now.items in
    let then = replaced_rising {cmp = g.K.Ord.cmp} g.met.K.Ord.total xs c.in-Ok.at c.args.to c.item_before-before.result c.item_at-after.result rising
    c.in-Ok.ensures.bound c.item_before-before.ensures c.item_at-after.ensures (c.is_between-stays.ensures.0 c.if-stays.true) in
    rw same (after_place {cmp = g.K.Ord.cmp} g.met.K.Ord.total (set xs c.in-Ok.at c.args.to) c.in-Ok.at c.args.to c.item_at-after.result then
    (omega (arith, c.in-Ok.ensures.bound, length-set xs c.in-Ok.at c.args.to)) (put_here {cmp = g.K.Ord.cmp} g.met.K.Ord.total xs c.in-Ok.at c.args.to c.in-Ok.ensures.bound)
    (same_after xs c.in-Ok.at c.args.to c.item_at-after.result c.item_at-after.ensures))

pub returns-then-stays-clause-was : goal.returns-then-stays-clause-was
returns-then-stays-clause-was g c =
    let same : c.self.inside.items.items ≡ c.args.self.now.items = ap (λ k. k.items) c.self.view_is in
    after_place {cmp = g.K.Ord.cmp} g.met.K.Ord.total c.args.self.now.items c.in-Ok.at c.args.from c.item_at-after.result (subst (AreRising g.K.Ord.cmp) same c.self.invariant)
    c.in-Ok.ensures.bound c.in-Ok.ensures.found c.item_at-after.ensures

pub returns-in_default-clause-when : goal.returns-in_default-clause-when
returns-in_default-clause-when g c exact =
    (λ none. absurd cc, λ is. absurd (gap_lacks {cmp = g.K.Ord.cmp} g.met.K.Ord.total c.args.self.now.items c.in_default.field-0 c.args.from c.in_default.ensures.missing is.0))

pub returns-then-stays-clause-when : goal.returns-then-stays-clause-when
returns-then-stays-clause-when g c exact =
    let same : c.self.inside.items.items ≡ c.args.self.now.items = ap (λ k. k.items) c.self.view_is in
    let rising = subst (AreRising g.K.Ord.cmp) same c.self.invariant in
    let xs = c.args.self.now.items in
    let last = before_place {cmp = g.K.Ord.cmp} g.met.K.Ord.total xs c.in-Ok.at c.args.from c.item_before-before.result rising c.in-Ok.ensures.bound c.in-Ok.ensures.found c.item_before-before.ensures in
    let next = after_place {cmp = g.K.Ord.cmp} g.met.K.Ord.total xs c.in-Ok.at c.args.from c.item_at-after.result rising c.in-Ok.ensures.bound c.in-Ok.ensures.found c.item_at-after.ensures in
    let held : Contains xs c.args.from = (c.in-Ok.at, c.in-Ok.ensures.bound, exact (get_or xs c.in-Ok.at c.args.from) c.args.from (c.in-Ok.ensures.found c.args.from)) in
    (λ _. (held, between_keeps {cmp = g.K.Ord.cmp} g.met.K.Ord.total xs c.args.from c.args.to c.item_before-before.result c.item_at-after.result last next (c.is_between-stays.ensures.0 c.if-stays.true)), λ _. refl)

pub returns-else-stays-clause-when : goal.returns-else-stays-clause-when
returns-else-stays-clause-when g c exact =
    let same : c.self.inside.items.items ≡ c.args.self.now.items = ap (λ k. k.items) c.self.view_is in
    let rising = subst (AreRising g.K.Ord.cmp) same c.self.invariant in
    let xs = c.args.self.now.items in
    let last = before_place {cmp = g.K.Ord.cmp} g.met.K.Ord.total xs c.in-Ok.at c.args.from c.item_before-before.result rising c.in-Ok.ensures.bound c.in-Ok.ensures.found c.item_before-before.ensures in
    let next = after_place {cmp = g.K.Ord.cmp} g.met.K.Ord.total xs c.in-Ok.at c.args.from c.item_at-after.result rising c.in-Ok.ensures.bound c.in-Ok.ensures.found c.item_at-after.ensures in
    (λ some. absurd cc, λ is. absurd (true≢false (sym (c.is_between-stays.ensures.1 (keeps_between g.K.Ord.cmp xs c.args.from c.args.to c.item_before-before.result c.item_at-after.result last next is.1)) ∙ c.if-stays.false)))
