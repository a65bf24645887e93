use Rattle.std.proofs.Common.{◌≡◌, false, take}
use Rattle.std.specs.List.{AllPairs}
use Rattle.tariff_prices.specs.Rows.{same_key}
use Rattle.tariff_prices.proofs.validity.are_distinct.Given as goal

-- no two rows so far are for the same
abbrev pub invariant-loop-i : goal.invariant-loop-i
invariant-loop-i l = AllPairs (λ a b. same_key a b ≡ false) (take l.i l.rows)
