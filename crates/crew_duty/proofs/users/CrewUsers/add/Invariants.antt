use Rattle.std.proofs.Common.{◌≡◌, ℕ, ◌&&◌, ◌||◌, ◌==◌, length, take}
use Rattle.std.specs.List.{list_any}
use Rattle.crew_duty.specs.Users.{has_user}
use Rattle.crew_duty.proofs.users.CrewUsers.add.Given as goal

abbrev pub invariant-loop-leg : goal.invariant-loop-leg
invariant-loop-leg l = record {
  legs : length l.self ≡ length l.fn.self;
  users : (x k : ℕ) → has_user l.self x k ≡ (has_user l.fn.self x k || ((k == l.crew) && list_any (λ leg. leg.0 == x) (take l.leg-index l.legs)));
}
