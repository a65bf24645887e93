use Rattle.std.proofs.Common.{◌≡◌, ℕ, ◌&&◌, ◌||◌, ◌==◌, take}
use Rattle.std.specs.List.{list_any}
use Rattle.board_kit.specs.Users.{has_leg}
use Rattle.board_seats.specs.Summaries.{LedTo}
use Rattle.board_seats.specs.Kept.{seen, summary_in}
use Rattle.board_seats.proofs.aboard.use_legs.Given as goal

abbrev pub invariant-loop-group : goal.invariant-loop-group
invariant-loop-group l = record {
  led : LedTo (seen l.fn.log) (seen l.log);
  taken : l.log.taken ≡ l.fn.log.taken;
  faults : l.log.faults ≡ l.fn.log.faults;
  broken : l.log.broken ≡ l.fn.log.broken;
  users : (x r : ℕ) → (summary_in l.log).users x r ≡ ((summary_in l.fn.log).users x r || ((r == l.res.0) && list_any (has_leg x) (take l.group-index l.groups)));
}
