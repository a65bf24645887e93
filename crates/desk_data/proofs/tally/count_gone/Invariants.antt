use Rattle.std.proofs.Common.{◌≡◌, drop}
use Rattle.desk_data.specs.Situation.{count_gone}
use Rattle.desk_data.proofs.tally.count_gone.Given as goal

-- no entry so far is of these legs
abbrev pub invariant-loop-entry : goal.invariant-loop-entry
invariant-loop-entry l = count_gone (drop l.entry-index l.entries) l.legs ≡ count_gone l.entries l.legs
