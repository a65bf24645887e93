use Rattle.std.proofs.Common.{◌≡◌, take}
use Rattle.crew_duty.specs.Board.{IsCrewBoard}
use Rattle.story_commands.proofs.crews.follow.Given as goal

-- the board is right, and the rows so far are those of the plan
abbrev pub invariant-loop-number : goal.invariant-loop-number
invariant-loop-number l = record {
  board : IsCrewBoard l.inst.parts l.crews l.board;
  rows : take l.number l.board.rows ≡ take l.number l.plan.rows;
}
