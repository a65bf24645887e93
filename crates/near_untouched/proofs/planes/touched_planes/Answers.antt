use Rattle.desk_data.specs.Situation.{planes_of}
use Rattle.hour_counts.specs.declared.slot.Movement.TheVariants.{Departure, Arrival}
use Rattle.near_untouched.specs.Marks.{AreKept}
use Rattle.near_untouched.specs.Hours.{HasFew}
use Rattle.near_untouched.proofs.MarkLaws.{holds-kept}
use Rattle.near_untouched.proofs.PlaneLaws.{fliers-kept, untouched-from}
use Rattle.near_untouched.proofs.planes.touched_planes.Goals as goal

pub returns : goal.returns
returns c =
    let I = c.args.plans.now.inst.now in
    let P = c.args.plans.now.earlier.now in
    let Q = c.args.plans.now.later.now in
    let legs = c.args.legs.now in
    let n = planes_of I in
    let one = c.touch_fliers.new.planes.items in
    let two = c.touch_fliers-2.new.planes.items in
    let three = c.touch_many.new.touched.items in
    let four = c.touch_many-2.new.touched.items in
    let five = c.touch_wanted.new.touched.items in
    let fourth : AreKept four five = c.touch_wanted.ensures.kept in
    let third : AreKept three five = λ k on. fourth k (c.touch_many-2.ensures.kept k on) in
    let second : AreKept two five = λ k on. third k (c.touch_many.ensures.kept k on) in
    let first : AreKept one five = λ k on. second k (c.touch_fliers-2.ensures.kept k on) in
    record {
      all = c.touch_wanted.ensures.touched;
      untouched = untouched-from I P Q legs five c.requires.earlier c.requires.later c.requires.legs
          (fliers-kept I P legs one five first c.touch_fliers.ensures.told)
          (fliers-kept I Q legs two five second c.touch_fliers-2.ensures.told)
          (holds-kept n three five (HasFew Departure I P) third c.in_ok-touch_many.ensures.few)
          (holds-kept n four five (HasFew Arrival I P) fourth c.in_ok-touch_many-2.ensures.few)
          c.in_ok-touch_wanted.ensures.hands;
    }
