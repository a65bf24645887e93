-- A book of numbers that adds up.
use Rattle.std.specs.Prelude.{◌≡◌, ℕ, ◌+◌, ◌≤◌, List, length, sum, Option, Some, None}

-- Where a number is added, the reply is the sum of all with it; where the book has as many as it has room for, there is none.
abbrev pub AddsUp : ℕ → List ℕ → ℕ → Option ℕ → Option ℕ → Type 0
AddsUp room before ask (Some total) (Some x) = (x ≡ ask) × (total ≡ sum before + ask)
AddsUp room before ask (Some total) None = ⊥
AddsUp room before ask None (Some x) = ⊥
AddsUp room before ask None None = room ≤ length before
