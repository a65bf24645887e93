use Rattle.std.proofs.Common.{length}
use Rattle.turn_book.specs.Passes.{first_book, known, seen, IsPassOf}
use Rattle.desk_core.specs.Turned.{opening_of}
use Rattle.desk_pool.specs.Workers.{AreAllShards, CanAllSearch}
use Rattle.desk_pool.specs.Laps.{HasGained, IsReturned}
use Rattle.desk_pool.proofs.laps.rounds.Given as goal

abbrev pub invariant-loop : goal.invariant-loop
invariant-loop g l = record {
  of : IsPassOf opening_of l.turn l.pass;
  shards : AreAllShards l.workers;
  ready : CanAllSearch (first_book l.turn).opening l.workers (seen l.pass);
  gained : HasGained l.budget (length (seen l.initial.pass)) (known l.initial.pass) (known l.pass) l.initial.workers l.workers;
  returned : IsReturned (known l.initial.pass) (known l.pass);
}
