-- Sums of money as they are read.
use Rattle.std.specs.Prelude.{ℕ, ◌+◌, ◌-◌, ◌/◌}

-- grains in ten-thousandths of a unit of money, the nearest: 600,000,000 grains are one unit
abbrev pub ten_thousandths : ℕ → ℕ
ten_thousandths grains = (grains + 30000) / 60000

-- a term that comes after terms of so much together: what it adds to the rounded sum, so that the rounded terms add up to it
abbrev pub shown_term : ℕ → ℕ → ℕ
shown_term before term = ten_thousandths (before + term) - ten_thousandths before
