use Rattle.std.proofs.Common.{◌≡◌, ◌∷◌, ◌++◌, length, take}
use Rattle.std.specs.List.{flat_map}
use Rattle.desk_journal.specs.Spelling.{pair_bytes}
use Rattle.desk_journal.proofs.writing.put_path.Given as goal

abbrev pub invariant-loop-pair : goal.invariant-loop-pair
invariant-loop-pair l = l.out.items ≡ l.fn.out.items ++ (length l.pairs ∷ flat_map pair_bytes (take l.pair-index l.pairs))
