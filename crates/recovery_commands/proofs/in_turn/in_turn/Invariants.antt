use Rattle.std.proofs.Common.{◌≡◌, ◌⊎◌, length, take}
use Rattle.std.specs.Prelude.{vec_len}
use Rattle.turn_book.specs.Passes.{first_book, known, seen, IsPassOf}
use Rattle.desk_model.specs.States.{opening}
use Rattle.desk_teams.specs.Teams.{HasStopped}
use Rattle.desk_core.specs.Turned.{opening_of}
use Rattle.desk_pool.specs.Workers.{day_of, AreAllShards, CanAllSearch}
use Rattle.desk_pool.specs.Laps.{IsReturned}
use Rattle.recovery_commands.specs.Running.{RunSoFar, IsVoted}
use Rattle.recovery_commands.proofs.in_turn.in_turn.Given as goal

abbrev pub invariant-loop-batch : goal.invariant-loop-batch
invariant-loop-batch g l = record {
  len : vec_len l.workers ≡ vec_len l.initial.workers;
  shards : AreAllShards l.workers.items;
  of : IsPassOf opening_of l.turn l.pass;
  ready : CanAllSearch (day_of l.turn) l.workers.items (seen l.pass);
  can : g.T.Telling.can l.telling (first_book l.turn) (seen l.pass);
  returned : IsReturned (known l.initial.pass) (known l.pass);
  run : RunSoFar l.budget (day_of l.turn) (known l.pass) l.workers.items (take l.batch-index l.batches);
  stopped : (length (seen l.pass) ≡ 0) ⊎ HasStopped l.budget (opening (day_of l.turn)) (seen l.pass);
  voted : IsVoted l.budget (day_of l.turn) (vec_len l.initial.workers) (seen l.pass) l.batch-index l.voted;
}
