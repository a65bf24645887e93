use Rattle.std.proofs.Common.{◌≡◌, ℕ, ◌+◌, ◌-◌, length, get_or}
use Rattle.near_notes.proofs.rows.put_in.Given as goal

-- only zeros were added
abbrev pub invariant-loop-numbers : goal.invariant-loop-numbers
invariant-loop-numbers l = (c : ℕ) → get_or l.numbers.items c 0 ≡ get_or l.fn.numbers.items c 0

abbrev pub decreases-loop-numbers : goal.decreases-loop-numbers
decreases-loop-numbers l = l.column + 1 - length l.numbers.items
