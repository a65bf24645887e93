use Rattle.std.proofs.Common.{refl}
use Rattle.near_legs.proofs.AfterLaws.{inverse_more, inverse_same}
use Rattle.near_legs.proofs.after.inverse.Goals as goal
use Rattle.near_legs.proofs.after.inverse.Goals.{in-Some, in_default}

pub loop-y-preserved : goal.loop-y-preserved
loop-y-preserved c =
    let before = c.args.before.now in
    let y = c.loop-y.y in
    elim c.match-before-y.branch [
      | in-Some w ↦
          let leg = w.in-Some.leg in
          rw w.after-is (inverse_more before c.loop-y.after.items y leg (record { 0 = y }) c.loop-y-test.true refl w.in-Some.is (c.requires.within y leg w.in-Some.is) c.loop-y.invariant)
      | in_default w ↦ rw w.after-is (inverse_same before c.loop-y.after.items y w.in_default.not-Some c.loop-y.invariant)
    ]
