use Rattle.std.proofs.Common.{◌≡◌, drop}
use Rattle.file_joins.specs.Stated.{path_of}
use Rattle.file_joins.proofs.PathLemmas.{prepended}
use Rattle.file_joins.proofs.stated.path_of.Given as goal

-- the legs so far, and those that are left after them, are all of them
abbrev pub invariant-loop-seat : goal.invariant-loop-seat
invariant-loop-seat l = prepended l.path.items (path_of l.names (drop l.seat-index l.seats)) ≡ path_of l.names l.seats
