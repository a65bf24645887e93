use Rattle.std.proofs.Common.{◌<◌}
use Rattle.turn_book.specs.Passes.{first_book, known, seen, IsPassOf}
use Rattle.desk_model.specs.States.{opening}
use Rattle.desk_model.specs.Histories.{IsLegal}
use Rattle.desk_core.specs.Turned.{opening_of}
use Rattle.desk_pool.proofs.Lapping.{LapSoFar}
use Rattle.desk_pool.proofs.laps.lap.Given as goal

abbrev pub invariant-loop-i : goal.invariant-loop-i
invariant-loop-i g l = record {
  of : IsPassOf opening_of l.turn l.pass;
  legal : 0 < l.i → IsLegal (opening (first_book l.turn).opening) (seen l.pass);
  far : LapSoFar (known l.fn.pass) l.i l.initial.workers l.workers (known l.pass);
}
