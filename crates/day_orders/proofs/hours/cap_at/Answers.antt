use Rattle.std.proofs.Common.{◌≡◌, ℕ, ◌+◌, ◌-◌, ◌<◌, ◌≤◌, take, drop, subst, sym, arith}
use Rattle.std.specs.List.{All}
use Rattle.day_orders.specs.declared.hours.CapChange.{CapChange}
use Rattle.day_orders.proofs.ChangeLemmas.{kept_cap_none, kept_cap_at}
use Rattle.day_orders.proofs.hours.cap_at.Goals as goal

pub returns-then-next-eq0 : goal.returns-then-next-eq0
returns-then-next-eq0 c =
    sym (kept_cap_none c.args.changes.now c.args.hour (subst (λ (n : ℕ). All (λ (x : CapChange). c.args.hour < x.hour) (drop n c.args.changes.now)) c.if-next-eq0.true c.count_up_to-next.ensures.rest))

pub returns-else-next-eq0 : goal.returns-else-next-eq0
returns-else-next-eq0 c =
    let xs = c.args.changes.now in
    let h = c.args.hour in
    let n = c.count_up_to-next.result in
    let one_less : n ≡ n - 1 + 1 = omega arith in
    sym (kept_cap_at xs h (n - 1) _ (omega arith) (subst (λ (m : ℕ). All (λ (x : CapChange). x.hour ≤ h) (take m xs)) one_less c.count_up_to-next.ensures.front) (subst (λ (m : ℕ). All (λ (x : CapChange). h < x.hour) (drop m xs)) one_less c.count_up_to-next.ensures.rest))
