use Rattle.std.proofs.Common.{◌≡◌, ℕ, length}
use Rattle.desk_data.specs.Situation.{legs_of}
use Rattle.board_kit.specs.Users.{has_user}
use Rattle.board_kit.proofs.UserLaws.{booked_below}
use Rattle.board_kit.proofs.users.LegUsers.booked.Given as goal

abbrev pub invariant-loop-r : goal.invariant-loop-r
invariant-loop-r l = record {
  legs : length l.users ≡ legs_of l.inst;
  users : (x r : ℕ) → has_user l.users x r ≡ booked_below l.inst l.r x r;
}
