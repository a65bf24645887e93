use Rattle.std.proofs.Common.{◌≡◌, ◌<◌, ℕ, get_or, slice_get}
use Rattle.std.specs.Prelude.{vec_len}
use Rattle.desk_pool.proofs.laps.reports_of.Given as goal

-- the reports of the first workers so far
abbrev pub invariant-loop-worker : goal.invariant-loop-worker
invariant-loop-worker l = (vec_len l.reports ≡ l.worker-index) × ((i : ℕ) (d : _) → i < l.worker-index → (get_or l.workers i d).report ≡ slice_get l.reports.items i)
