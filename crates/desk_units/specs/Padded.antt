-- How names are kept.
use Rattle.std.specs.Prelude.{ℕ, ◌≤◌}

-- a name has 1 to 32 bytes
pub record IsNameLength (n : ℕ) : Type 0 where
  pub least : 1 ≤ n
  pub most : n ≤ 32
