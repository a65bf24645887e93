-- The first moment that shows a minute of the day.
use Rattle.std.proofs.Common.{◌≡◌, ℕ, zero, suc, ◌+◌, ◌-◌, ◌%◌, ◌<◌, ◌≤◌, Bool, true, false, Some, refl, arith}
use Rattle.std.specs.Prelude.{◌==◌}
use Rattle.std.specs.List.{find, range_with_len}
use Rattle.std.proofs.lemmas.Bool.Decides.{nat_tests}
use Rattle.file_readers.specs.Flights.{first_after}

-- what passes, where all numbers before it fail, is found
find_in_range : (p : ℕ → Bool) (a n k r : ℕ) → k < n → a + k ≡ r → ((i : ℕ) → a ≤ i → i < r → p i ≡ false) → p r ≡ true → find p (range_with_len a n) ≡ Some r
find_in_range p a zero k r inside there before here = absurd (omega arith)
find_in_range p a (suc n) zero r inside there before here =
    let same : a ≡ r = omega arith in
    rw (same, here) refl
find_in_range p a (suc n) (suc k) r inside there before here =
    rw (before a (omega arith) (omega arith)) (find_in_range p (a + 1) n k r (omega arith) (omega arith) (λ i low high. before i (omega arith) high) here)

-- two moments of one minute of the day are a day apart
other_minute : (i r minute : ℕ) → i < r → r < i + 1440 → r % 1440 ≡ minute → (i % 1440 == minute) ≡ false
other_minute i r minute before soon shows = grind (arith, nat_tests)

shows_minute : (r minute : ℕ) → r % 1440 ≡ minute → (r % 1440 == minute) ≡ true
shows_minute r minute shows = grind (arith, nat_tests)

-- the moment of the next day at most that shows the minute is the first one
pub first_after_is : (moment minute r : ℕ) → moment < r → r ≤ moment + 1440 → r % 1440 ≡ minute → first_after moment minute ≡ Some r
unfolding first_after
first_after_is moment minute r later soon shows =
    find_in_range (λ at. at % 1440 == minute) (moment + 1) 1440 (r - (moment + 1)) r (omega arith) (omega arith) (λ i low high. other_minute i r minute high (omega arith) shows) (shows_minute r minute shows)
