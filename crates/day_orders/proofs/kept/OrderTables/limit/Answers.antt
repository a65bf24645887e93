use Rattle.std.proofs.Common.{◌≡◌, ℕ, ◌&&◌, ltb, leb, List, Some, ap, ◌∙◌}
use Rattle.std.specs.Bool.{if◌then◌else◌}
use Rattle.day_orders.specs.declared.hours.CapChange.{CapChange}
use Rattle.day_orders.specs.KeptLists.{kept_cap, kept_hours}
use Rattle.day_orders.proofs.KeptLemmas.{adds_field, adds_nothing}
use Rattle.day_orders.proofs.kept.OrderTables.limit.Goals as goal

pub returns-in_ok-changes-in-Some : goal.returns-in_ok-changes-in-Some
returns-in_ok-changes-in-Some c =
    let old = c.args.self.now in
    let changes = c.in_ok-changes-in-Some.changes.items in
    let first = c.in-Some.first in
    let after_last = c.in-Some.after_last in
    let caps : (h : ℕ) → kept_cap changes h ≡ (if leb first h && ltb h after_last then Some c.args.cap else kept_cap (kept_hours old c.args.airport.0) h)
    = λ h. c.in_ok-changes-in-Some.ensures.caps h ∙ ap (λ (l : List CapChange). if leb first h && ltb h after_last then Some c.args.cap else kept_cap l h) c.hours.ensures in
    rw c.put_hours.ensures (adds_field old c.args.airport c.args.from c.args.to c.args.cap first after_last changes c.requires.place c.requires.order c.in-Some.ensures.some c.in_ok-changes-in-Some.ensures.order caps)

pub returns-in-None : goal.returns-in-None
returns-in-None c = adds_nothing c.args.self.now c.args.airport c.args.from c.args.to c.args.cap.deps c.args.cap.arrs c.requires.order c.in-None.ensures.none
