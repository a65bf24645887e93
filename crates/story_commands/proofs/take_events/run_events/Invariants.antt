use Rattle.std.proofs.Common.{drop}
use Rattle.desk_model.specs.States.{opening}
use Rattle.desk_model.specs.Histories.{run}
use Rattle.story_commands.proofs.RunLaws.{Continues}
use Rattle.story_commands.proofs.take_events.run_events.Given as goal

abbrev pub invariant-loop-asked : goal.invariant-loop-asked
invariant-loop-asked l = Continues l.fn.inst l.book (drop l.asked-index l.events) (run (opening l.fn.inst) l.events)
