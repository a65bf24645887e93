use Rattle.std.proofs.Common.{◌≡◌, take, map, []}
use Rattle.std.specs.Prelude.{fold}
use Rattle.desk_data.specs.Progress.{with_list}
use Rattle.desk_data.proofs.tally.lists_were.Given as goal

abbrev pub invariant-loop-entry : goal.invariant-loop-entry
invariant-loop-entry l = map (λ one. one.now) l.lists.items ≡ fold with_list [] (map (λ entry. entry.0) (take l.entry-index l.tally))
