use Rattle.std.proofs.Common.{◌≡◌, ℕ, ◌≤◌, [], List, take, drop, length, Bor}
use Rattle.std.specs.Prelude.{All}
use Rattle.std.specs.Str.{bytes_eq}
use Rattle.std.specs.HashSet as bag
use Rattle.crew_rules.specs.Valid.{IsCrew}
use Rattle.file_joins.specs.CrewJoin.{has_name, crews_after}
use Rattle.file_joins.proofs.CrewLemmas.{prepended}
use Rattle.file_joins.proofs.join.crews_of.Given as goal

-- the crews so far, one for each row, and those of the rows that are left, are all of them, and the names are those of the rows so far
abbrev pub invariant-loop-row : goal.invariant-loop-row
invariant-loop-row l = record {
  joined : prepended l.crews.items (crews_after l.names (take l.row-index l.rows) (drop l.row-index l.rows)) ≡ crews_after l.names [] l.rows;
  count : length l.crews.items ≡ l.row-index;
  few : length l.crews.items ≤ 5000;
  each : All (IsCrew l.names.parts) l.crews.items;
  names : (q : Bor (List ℕ)) → bag.contains (λ a b. bytes_eq a.now b.now) l.seen q ≡ has_name q.now (take l.row-index l.rows);
}
