use Rattle.std.proofs.Common.{sym, subst}
use Rattle.near_untouched.specs.Marks.{AreChanged}
use Rattle.near_untouched.specs.Legs.{AreLegsTold}
use Rattle.near_untouched.proofs.untouched.Untouched.between.Goals as goal

pub touched_legs-requires-clause-changed : goal.touched_legs-requires-clause-changed
touched_legs-requires-clause-changed g c =
    subst (AreChanged c.args.inst.now c.args.earlier.now c.args.later.now) (sym c.as_slice-rows.ensures.value) c.in_ok-changed.ensures

pub touched_planes-requires-clause-legs : goal.touched_planes-requires-clause-legs
touched_planes-requires-clause-legs g c =
    subst (AreLegsTold c.args.inst.now c.args.earlier.now c.args.later.now) (sym c.as_slice.ensures.value) c.in_ok-legs.ensures

pub touched_planes-requires-clause-changed : goal.touched_planes-requires-clause-changed
touched_planes-requires-clause-changed g c =
    subst (AreChanged c.args.inst.now c.args.earlier.now c.args.later.now) (sym c.as_slice-rows.ensures.value) c.in_ok-changed.ensures

pub touched_again-requires-clause-legs : goal.touched_again-requires-clause-legs
touched_again-requires-clause-legs g c =
    subst (AreLegsTold c.args.inst.now c.args.earlier.now c.args.later.now) (sym c.as_slice-2.ensures.value) c.in_ok-legs.ensures

pub touched_again-requires-clause-changed : goal.touched_again-requires-clause-changed
touched_again-requires-clause-changed g c =
    subst (AreChanged c.args.inst.now c.args.earlier.now c.args.later.now) (sym c.as_slice-rows.ensures.value) c.in_ok-changed.ensures
