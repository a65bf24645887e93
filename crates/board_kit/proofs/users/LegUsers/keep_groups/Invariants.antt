use Rattle.std.proofs.Common.{◌≡◌, ℕ, ◌&&◌, ◌||◌, ◌==◌, length, take}
use Rattle.std.specs.List.{list_any}
use Rattle.board_kit.specs.Users.{has_leg, has_user}
use Rattle.board_kit.proofs.users.LegUsers.keep_groups.Given as goal

abbrev pub invariant-loop-group : goal.invariant-loop-group
invariant-loop-group l = record {
  legs : length l.self ≡ length l.fn.self;
  users : (x r : ℕ) → has_user l.self x r ≡ (has_user l.fn.self x r || ((r == l.res.0) && list_any (has_leg x) (take l.group-index l.groups)));
}
