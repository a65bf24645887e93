use Rattle.std.proofs.Common.{◌≡◌, ℕ, ◌<◌, true, length}
use Rattle.desk_data.specs.Situation.{planes_of, plane_at}
use Rattle.desk_rules.specs.Cost.{is_wanted}
use Rattle.near_untouched.specs.Marks.{AreKept, is_marked}
use Rattle.near_untouched.proofs.positions.mark_wanted.Given as goal

-- those that it wants of the aircraft so far are marked
abbrev pub invariant-loop-p : goal.invariant-loop-p
invariant-loop-p l = record {
  touched : length l.touched.items ≡ planes_of l.inst;
  kept : AreKept l.fn.touched.items l.touched.items;
  marked : (k : ℕ) → k < l.p → is_wanted l.position (plane_at l.inst k) ≡ true → is_marked l.touched.items k ≡ true;
}
