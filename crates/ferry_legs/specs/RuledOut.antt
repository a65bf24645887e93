-- What rules a departure out, and until when.
use Rattle.std.specs.Prelude.{◌≡◌, ℕ, ◌<◌, ◌≤◌, Bool, true, false, Option, Some, None}

-- the test fails from the moment `at` up to but not including `next`, which is later
pub record IsRuledOutUntil (test : ℕ → Bool) (at next : ℕ) : Type 0 where
  pub later : at < next
  pub none : (s : ℕ) → at ≤ s → s < next → test s ≡ false

-- None: the test holds at the moment; Some next: it fails from the moment up to but not including `next`, which is later
abbrev pub HoldsOrIsRuledOut : (ℕ → Bool) → ℕ → Option ℕ → Type 0
HoldsOrIsRuledOut test at None = test at ≡ true
HoldsOrIsRuledOut test at (Some next) = IsRuledOutUntil test at next
