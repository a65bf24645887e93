use Rattle.std.proofs.Common.{◌≡◌, length, take}
use Rattle.std.specs.List.{All}
use Rattle.desk_data.specs.Situation.{planes_of}
use Rattle.near_untouched.specs.Marks.{AreKept}
use Rattle.near_untouched.specs.Positions.{IsPositionTold}
use Rattle.near_untouched.proofs.positions.touch_positions.Given as goal

-- of the positions so far it is told
abbrev pub invariant-loop-position : goal.invariant-loop-position
invariant-loop-position l = record {
  touched : length l.touched.items ≡ planes_of l.plans.inst.now;
  kept : AreKept l.fn.touched.items l.touched.items;
  told : All (IsPositionTold l.plans.inst.now l.plans.earlier.now l.plans.later.now l.touched.items) (take l.position-index l.plans.inst.now.parts.positions);
}
