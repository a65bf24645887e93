use Rattle.std.proofs.Common.{◌≡◌, ◌≤◌, ◌+◌, ℕ, ◌&&◌, length, take}
use Rattle.std.specs.Prelude.{map}
use Rattle.crew_rules.specs.Broken.{crew_of}
use Rattle.crew_duty.specs.declared.faults.CrewFaults.{CrewFaults}
use Rattle.crew_duty.specs.Faults.{AreJudged, among, by_faults, is_of}
use Rattle.crew_duty.proofs.broken.judge_rule.Given as goal

abbrev pub invariant-loop-i : goal.invariant-loop-i
invariant-loop-i l = record {
  judged : (f : ℕ → CrewFaults) → l.found ≡ map f l.numbers → AreJudged (by_faults f) (λ item. is_of l.rule item && among (take l.i l.numbers) (crew_of item)) l.fn.broken.items l.broken.items;
  count : length l.broken.items ≤ length l.fn.broken.items + l.i;
  room : l.fn.broken.room ≤ l.broken.room;
}
