use Rattle.std.proofs.Common.{◌≡◌, ◌+◌, ◌*◌, ◌≤◌, ℕ, List, drop, length, min}
use Rattle.std.specs.Prelude.{option_map, position}
use Rattle.build_tables.specs.Names.{is_between}
use Rattle.build_tables.specs.Pairs.{place_between}
use Rattle.build_tables.proofs.pairs.pairs_in.Given as goal

-- the places of the rows from here on
abbrev pub invariant-loop-place : goal.invariant-loop-place
invariant-loop-place l = record {
  long : length l.found.pairs.items ≡ 500 * min (length l.files.airports) 500;
  kept : (origin dest : List ℕ) → place_between l.files.airports l.found origin dest ≡ option_map (λ n. l.place + n) (position (is_between origin dest) (drop l.place l.rows));
  within : l.place ≤ length l.rows;
}

abbrev pub decreases-loop-place : goal.decreases-loop-place
decreases-loop-place l = l.place
