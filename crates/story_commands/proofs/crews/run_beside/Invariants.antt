use Rattle.std.proofs.Common.{drop}
use Rattle.desk_model.specs.States.{opening}
use Rattle.desk_model.specs.Histories.{run}
use Rattle.crew_duty.specs.Board.{IsCrewBoard}
use Rattle.story_commands.proofs.RunLaws.{Continues}
use Rattle.story_commands.specs.Crews.{AreLines}
use Rattle.story_commands.proofs.crews.run_beside.Given as goal

abbrev pub invariant-loop-asked : goal.invariant-loop-asked
invariant-loop-asked l = record {
  run : Continues l.fn.inst l.book (drop l.asked-index l.events) (run (opening l.fn.inst) l.events);
  board : IsCrewBoard l.fn.inst.parts l.crews l.board;
  lines : AreLines l.crews l.book l.lines.items;
}
