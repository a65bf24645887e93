use Rattle.std.proofs.Common.{◌≡◌, ℕ, ◌<◌, length, get_or}
use Rattle.turn_book.specs.Passes.{known, IsPassOf}
use Rattle.turn_book.specs.SplitPasses.{AreSplit}
use Rattle.desk_core.specs.Turned.{opening_of}
use Rattle.desk_pool.specs.Workers.{HasPass, IsSameWorker}
use Rattle.desk_pool.proofs.laps.split_passes.Given as goal

-- so many passes were split, and each worker so far has its own
abbrev pub invariant-loop-i : goal.invariant-loop-i
invariant-loop-i l = record {
  of : IsPassOf opening_of l.turn l.pass;
  len : length l.workers ≡ length l.initial.workers;
  fresh : AreSplit l.i (known l.initial.pass) (known l.pass);
  same : (k : ℕ) (d : _) → k < length l.workers → IsSameWorker (get_or l.initial.workers k d) (get_or l.workers k d);
  each : (k : ℕ) (d : _) → k < l.i → HasPass l.turn (known l.initial.pass) k (get_or l.workers k d);
}
