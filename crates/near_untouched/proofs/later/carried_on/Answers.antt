use Rattle.std.proofs.Common.{◌≡◌, refl, ◌∙◌, arith}
use Rattle.desk_data.specs.Situation.{legs_of, planes_of}
use Rattle.near_untouched.specs.Later.{AreTouchedAt}
use Rattle.near_untouched.proofs.LaterLaws.{carried-notes}
use Rattle.near_untouched.proofs.later.carried_on.Goals as goal

pub returns : goal.returns
returns c =
    let I = c.args.inst.now in
    let old = c.args.notes in
    let known = c.args.known.now in
    let planes : c.as_slice-planes.result.now ≡ known.planes.items = c.as_slice-planes.ensures.value in
    let again : c.as_slice-again.result.now ≡ known.again.items = c.as_slice-again.ensures.value in
    let by_planes : AreTouchedAt (planes_of I) known.planes.items old.search old.out.planes.items c.touch.new.touched.items = rw (c.planes.ensures.count, planes) at c.touch.ensures.each in
    let by_flown : AreTouchedAt (planes_of I) c.args.carried.now old.search old.out.flown.items c.touch-2.new.touched.items = rw (c.planes-2.ensures.count) at c.touch-2.ensures.each in
    let by_again : AreTouchedAt (legs_of I) known.again.items old.search old.out.again.items c.touch-3.new.touched.items = rw (c.legs.ensures.count, again) at c.touch-3.ensures.each in
    let rows_again : AreTouchedAt (legs_of I) known.again.items old.search old.by_rows.again.items c.touch-4.new.touched.items = rw (c.legs-2.ensures.count, again) at c.touch-4.ensures.each in
    record {
      notes = carried-notes I old _ known c.args.carried.now c.parts-rows.ensures.valid c.requires.notes c.requires.plan c.requires.feasible c.requires.same c.requires.known c.requires.carried
          (record { planes = c.touch.ensures.touched ∙ c.planes.ensures.count; flown = c.touch-2.ensures.touched ∙ c.planes-2.ensures.count; again = c.touch-3.ensures.touched ∙ c.legs.ensures.count; found = refl })
          by_planes by_flown by_again
          (record { planes = c.requires.notes.by_rows.planes; flown = c.requires.notes.by_rows.flown; again = c.touch-4.ensures.touched ∙ c.legs-2.ensures.count; found = refl })
          refl refl rows_again (omega arith) refl;
      plan = refl;
    }
