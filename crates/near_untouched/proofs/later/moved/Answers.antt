use Rattle.std.proofs.Common.{refl, arith}
use Rattle.near_untouched.proofs.LaterLaws.{moved-notes}
use Rattle.near_untouched.proofs.later.moved.Goals as goal

pub returns : goal.returns
returns c = record {
  notes = moved-notes c.args.inst.now c.args.notes _ c.args.known.now c.parts-rows.ensures.valid c.requires.notes c.requires.plan c.requires.feasible c.requires.known
      c.touch_all.ensures.moved c.touch_all-2.ensures.moved c.touch_all.ensures.touched c.touch_all-2.ensures.touched (omega arith) refl;
  plan = refl;
}
