use Rattle.std.proofs.Common.{◌≡◌, ℕ, ◌&&◌, length}
use Rattle.std.specs.Prelude.{nat_lt}
use Rattle.desk_data.specs.Situation.{legs_of}
use Rattle.crew_duty.specs.Users.{has_leg, has_user}
use Rattle.crew_duty.proofs.users.CrewUsers.open.Given as goal

abbrev pub invariant-loop-k : goal.invariant-loop-k
invariant-loop-k l = record {
  legs : length l.users ≡ legs_of l.inst;
  users : (x k : ℕ) → has_user l.users x k ≡ (nat_lt k l.k && has_leg l.crews x k);
}
