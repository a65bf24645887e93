use Rattle.std.proofs.Common.{◌≡◌, map, take}
use Rattle.file_joins.proofs.places.places_of.Given as goal

-- the keys of the rows so far
abbrev pub invariant-loop-row : goal.invariant-loop-row
invariant-loop-row g l = l.places ≡ map g.T.Keyed.key_of (take l.row-index l.rows)
