-- The hours that a span touches.
use Rattle.std.proofs.Common.{◌≡◌, ℕ, ◌+◌, ◌-◌, ◌*◌, ◌/◌, ◌<◌, ◌≤◌, false, ◌&&◌, leb, ltb, arith, ⊎_elim}
use Rattle.std.proofs.lemmas.Bool.{cases_lt, lt-ltb, le-ltb, le-leb, lt-leb}
use Rattle.day_orders.specs.LastOrders.{touches}

-- the span begins before the hour's end where the hour of its first minute is not later
begins : (h from : ℕ) → ltb from (60 * h + 60) ≡ leb (from / 60) h
begins h from =
    ⊎_elim
    (λ (lt : from < 60 * h + 60). let le : from / 60 ≤ h = omega arith in rw (lt-ltb from (60 * h + 60) lt, le-leb (from / 60) h le))
    (λ (le : 60 * h + 60 ≤ from). let lt : h < from / 60 = omega arith in rw (le-ltb from (60 * h + 60) le, lt-leb (from / 60) h lt))
    (cases_lt from (60 * h + 60))

-- it ends after the hour's start where the hour of its last minute is not earlier
ends : (h to : ℕ) → 0 < to → ltb (60 * h) to ≡ ltb h ((to - 1) / 60 + 1)
ends h to some =
    ⊎_elim
    (λ (lt : 60 * h < to). let up : h < (to - 1) / 60 + 1 = omega arith in rw (lt-ltb (60 * h) to lt, lt-ltb h ((to - 1) / 60 + 1) up))
    (λ (le : to ≤ 60 * h). let up : (to - 1) / 60 + 1 ≤ h = omega arith in rw (le-ltb (60 * h) to le, le-ltb h ((to - 1) / 60 + 1) up))
    (cases_lt (60 * h) to)

pub touches_hours : (from to h : ℕ) → from < to → touches h from to ≡ (leb (from / 60) h && ltb h ((to - 1) / 60 + 1))
unfolding touches
touches_hours from to h lt = let some : 0 < to = omega arith in rw (lt-ltb from to lt, begins h from, ends h to some)

pub touches_none : (from to h : ℕ) → to ≤ from → touches h from to ≡ false
unfolding touches
touches_none from to h le = rw (le-ltb from to le)
