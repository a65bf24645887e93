use Rattle.std.proofs.Common.{◌≡◌}
use Rattle.std.specs.Prelude.{vec_len}
use Rattle.desk_pool.proofs.Opening.{AreOpened}
use Rattle.desk_pool.proofs.all_workers.open_workers.Given as goal

abbrev pub invariant-loop-index : goal.invariant-loop-index
invariant-loop-index l = (vec_len l.workers ≡ l.index) × AreOpened l.count l.book.opening l.book.journal l.workers.items
