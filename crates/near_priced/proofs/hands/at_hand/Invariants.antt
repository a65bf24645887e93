use Rattle.std.proofs.Common.{◌≡◌, ◌≤◌, length}
use Rattle.std.specs.Prelude.{filter}
use Rattle.desk_rules.specs.Numbers.{numbers}
use Rattle.near_priced.specs.Tables.{is_hand}
use Rattle.near_priced.proofs.hands.at_hand.Given as goal

-- those among the aircraft so far
abbrev pub invariant-loop-p : goal.invariant-loop-p
invariant-loop-p l = (l.count ≡ length (filter (is_hand l.inst l.plan l.position) (numbers l.p))) × (l.count ≤ l.p)
