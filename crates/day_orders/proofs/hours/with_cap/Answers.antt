use Rattle.std.proofs.Common.{◌≡◌, subst, sym, ap, ◌∙◌, List, arith}
use Rattle.std.proofs.lemmas.Grind.{common_steps}
use Rattle.day_orders.specs.declared.hours.CapChange.{CapChange}
use Rattle.day_orders.specs.KeptLists.{AreInOrder, kept_cap}
use Rattle.day_orders.proofs.ChangeLemmas.{IsCut, spanned, spanned_in_order, spanned_caps}
use Rattle.day_orders.proofs.hours.with_cap.Goals as goal

pub returns-clause-order : goal.returns-clause-order
returns-clause-order c =
    let xs = c.args.changes.now in
    let start = c.count_before-start.result in
    let stop = c.count_up_to-end.result in
    let cut : IsCut xs start stop c.args.first c.args.after_last
    = record { up = c.requires.up; before = c.count_before-start.ensures.front; from = c.count_before-start.ensures.rest; until = c.count_up_to-end.ensures.front; after = c.count_up_to-end.ensures.rest } in
    let made : c.extend_from_slice.new.self.items ≡ spanned xs start stop c.args.first c.args.after_last c.args.cap = grind (arith, common_steps) in
    subst AreInOrder (sym made) (spanned_in_order xs start stop c.args.first c.args.after_last c.args.cap cut c.requires.order)

pub returns-clause-caps : goal.returns-clause-caps
returns-clause-caps c =
    let xs = c.args.changes.now in
    let start = c.count_before-start.result in
    let stop = c.count_up_to-end.result in
    let cut : IsCut xs start stop c.args.first c.args.after_last
    = record { up = c.requires.up; before = c.count_before-start.ensures.front; from = c.count_before-start.ensures.rest; until = c.count_up_to-end.ensures.front; after = c.count_up_to-end.ensures.rest } in
    let made : c.extend_from_slice.new.self.items ≡ spanned xs start stop c.args.first c.args.after_last c.args.cap = grind (arith, common_steps) in
    λ h. ap (λ (l : List CapChange). kept_cap l h) made ∙ spanned_caps xs start stop c.args.first c.args.after_last c.args.cap cut h
