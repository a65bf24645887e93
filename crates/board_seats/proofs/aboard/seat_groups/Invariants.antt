use Rattle.std.proofs.Common.{◌≡◌, ℕ, ◌+◌, ◌<◌, length, take}
use Rattle.desk_units.specs.declared.numbers.Cabin.{Cabin}
use Rattle.desk_rules.specs.Passengers.{aboard_of, seats_in}
use Rattle.board_seats.specs.Summaries.{LedTo}
use Rattle.board_seats.specs.Kept.{seen, summary_in}
use Rattle.board_seats.proofs.aboard.seat_groups.Given as goal

abbrev pub invariant-loop-group : goal.invariant-loop-group
invariant-loop-group l = record {
  led : LedTo (seen l.fn.log) (seen l.log);
  legs : length l.log.taken ≡ length l.fn.log.taken;
  faults : l.log.faults ≡ l.fn.log.faults;
  broken : l.log.broken ≡ l.fn.log.broken;
  taken : (x : ℕ) (c : Cabin) → seats_in ((summary_in l.fn.log).taken x) c + aboard_of x c (take l.group-index l.groups) < 4294967296 → seats_in ((summary_in l.log).taken x) c ≡ seats_in ((summary_in l.fn.log).taken x) c + aboard_of x c (take l.group-index l.groups);
  users : l.log.users ≡ l.fn.log.users;
}
