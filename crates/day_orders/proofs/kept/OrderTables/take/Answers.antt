use Rattle.std.proofs.Common.{[], ◌∷◌, subst, sym}
use Rattle.std.proofs.lemmas.Result.{IfOk-weaker}
use Rattle.day_orders.specs.declared.orders.Order.TheVariants.{Aircraft}
use Rattle.day_orders.specs.KeptLists.{KeptLists, Adds}
use Rattle.day_orders.proofs.KeptLemmas.{adds_flight, adds_aircraft}
use Rattle.day_orders.proofs.kept.OrderTables.take.Goals as goal

pub returns-in-Flight : goal.returns-in-Flight
returns-in-Flight c =
    let within = rw c.in-Flight.is at c.requires.place in
    rw (c.in-Flight.is, c.put_leg.ensures) (adds_flight c.args.self.now c.in-Flight.leg c.in-Flight.delay within c.requires.order)

pub returns-in-Aircraft : goal.returns-in-Aircraft
returns-in-Aircraft c =
    let old = c.args.self.now in
    let within = rw c.in-Aircraft.is at c.requires.place in
    let added = adds_aircraft old c.in-Aircraft.plane c.in-Aircraft.from c.in-Aircraft.to within c.requires.order in
    rw c.in-Aircraft.is
    (IfOk-weaker c.push_span.result _ _ (λ x made. subst (λ (kept : KeptLists). Adds (Aircraft c.in-Aircraft.plane c.in-Aircraft.from c.in-Aircraft.to ∷ []) old kept) (sym made) added) c.push_span.ensures)
