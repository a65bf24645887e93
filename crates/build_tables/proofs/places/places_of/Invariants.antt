use Rattle.std.proofs.Common.{◌≡◌, ◌+◌, ◌≤◌, true, drop, length}
use Rattle.std.specs.Prelude.{option_map}
use Rattle.build_tables.specs.Keys.{Key, key_place, AreApart}
use Rattle.build_tables.specs.Found.{place_in}
use Rattle.build_tables.proofs.places.places_of.Given as goal

-- the places of the rows from here on, and whether these are apart
abbrev pub invariant-loop-place : goal.invariant-loop-place
invariant-loop-place g l = record {
  kept : (key : Key) → place_in l.found key ≡ option_map (λ n. l.place + n) (key_place g.T.Keyed.key_of (drop l.place l.rows) key);
  apart : l.found.apart ≡ true → AreApart g.T.Keyed.key_of (drop l.place l.rows);
  within : l.place ≤ length l.rows;
}

abbrev pub decreases-loop-place : goal.decreases-loop-place
decreases-loop-place g l = l.place
