use Rattle.std.proofs.Common.{◌≡◌, ◌≢◌, ℕ, List, take, eqb, ◌&&◌, Bor}
use Rattle.std.specs.List.{AllPairs, list_any}
use Rattle.std.specs.Str.{bytes_eq}
use Rattle.std.specs.HashSet as bag
use Rattle.day_checks.proofs.NameLemmas.{same_key}
use Rattle.day_checks.proofs.parts.are_named_apart.Given as goal

-- the set has the names of the rows so far, and these are named apart
abbrev pub invariant-loop-row : goal.invariant-loop-row
invariant-loop-row g l = record {
  names : (q : Bor (List ℕ) × ℕ) → bag.contains (λ a b. bytes_eq a.0.now b.0.now && eqb a.1 b.1) l.seen q ≡ list_any (λ row. same_key (g.T.Named.key_of row) (q.0.now, q.1)) (take l.row-index l.rows);
  apart : AllPairs (λ a b. g.T.Named.key_of a ≢ g.T.Named.key_of b) (take l.row-index l.rows);
}
