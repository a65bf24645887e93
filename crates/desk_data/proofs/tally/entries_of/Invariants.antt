use Rattle.std.proofs.Common.{◌≡◌, take, map}
use Rattle.std.specs.List.{filter_map}
use Rattle.desk_data.specs.Progress.{count_then, entry_of}
use Rattle.desk_data.proofs.tally.entries_of.Given as goal

abbrev pub invariant-loop-legs : goal.invariant-loop-legs
invariant-loop-legs l = l.entries.items ≡ filter_map (λ legs. entry_of (count_then l.inst l.plan l.frozen l.res.0 legs) legs) (take l.legs-index (map (λ one. one.now) l.lists))
