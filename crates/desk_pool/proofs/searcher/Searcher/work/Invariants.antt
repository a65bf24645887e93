use Rattle.std.proofs.Common.{◌≡◌, length}
use mathlib.Core.List.{IsPrefix}
use Rattle.turn_book.specs.Passes.{first_book, known, seen, tags, IsPassOf}
use Rattle.desk_core.specs.Turned.{opening_of}
use Rattle.desk_pool.specs.Rounds.{IsReady, IsSameShard, HasNoted}
use Rattle.desk_pool.proofs.searcher.Searcher.work.Given as goal

abbrev pub invariant-loop : goal.invariant-loop
invariant-loop g l = record {
  of : IsPassOf opening_of l.turn l.pass;
  ready : IsReady (first_book l.turn).opening l.self (seen l.pass);
  same : IsSameShard l.initial.self l.self;
  tags : tags l.pass ≡ tags l.initial.pass;
  began : IsPrefix (seen l.initial.pass) (seen l.pass);
  noted : HasNoted l.budget (length (seen l.initial.pass)) (known l.initial.pass) (known l.pass) l.initial.self.trail.items l.self.trail.items;
}
