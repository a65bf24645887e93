use Rattle.std.proofs.Common.{◌≡◌, ℕ, length}
use Rattle.desk_data.specs.Situation.{legs_of}
use Rattle.board_kit.specs.Users.{has_user}
use Rattle.board_kit.proofs.UserLaws.{used_below}
use Rattle.board_kit.proofs.users.LegUsers.open.Given as goal

abbrev pub invariant-loop-r : goal.invariant-loop-r
invariant-loop-r g l = record {
  legs : length l.users ≡ legs_of l.inst;
  users : (x r : ℕ) → has_user l.users x r ≡ used_below (g.P.ReadPlan.plan_of l.plan) l.r x r;
}
