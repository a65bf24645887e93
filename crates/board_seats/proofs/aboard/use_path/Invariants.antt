use Rattle.std.proofs.Common.{◌≡◌, ℕ, ◌&&◌, ◌||◌, ◌==◌, take}
use Rattle.std.specs.List.{list_any}
use Rattle.board_seats.specs.Summaries.{LedTo}
use Rattle.board_seats.specs.Kept.{seen, summary_in}
use Rattle.board_seats.proofs.aboard.use_path.Given as goal

abbrev pub invariant-loop-pair : goal.invariant-loop-pair
invariant-loop-pair l = record {
  led : LedTo (seen l.fn.log) (seen l.log);
  taken : l.log.taken ≡ l.fn.log.taken;
  faults : l.log.faults ≡ l.fn.log.faults;
  broken : l.log.broken ≡ l.fn.log.broken;
  users : (x r : ℕ) → (summary_in l.log).users x r ≡ ((summary_in l.fn.log).users x r || ((r == l.res.0) && list_any (λ pair. pair.0.0 == x) (take l.pair-index l.path)));
}
