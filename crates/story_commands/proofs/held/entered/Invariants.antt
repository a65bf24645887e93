use Rattle.std.proofs.Common.{drop, map}
use Rattle.desk_disk.specs.Stored.{lists_of}
use Rattle.story_commands.proofs.Entered.{Enters}
use Rattle.story_commands.proofs.held.entered.Given as goal

abbrev pub invariant-loop-record : goal.invariant-loop-record
invariant-loop-record l = Enters (map (λ p. p.now) l.held.items) (lists_of (drop l.record-index l.records)) (lists_of l.records)
