use Rattle.std.proofs.Common.{◌≡◌, ℕ, ◌&&◌, ◌||◌, ◌==◌, length, take}
use Rattle.std.specs.List.{list_any}
use Rattle.board_kit.specs.Users.{has_user}
use Rattle.board_kit.proofs.users.LegUsers.keep_path.Given as goal

abbrev pub invariant-loop-pair : goal.invariant-loop-pair
invariant-loop-pair l = record {
  legs : length l.self ≡ length l.fn.self;
  users : (x r : ℕ) → has_user l.self x r ≡ (has_user l.fn.self x r || ((r == l.res.0) && list_any (λ pair. pair.0.0 == x) (take l.pair-index l.path)));
}
