use Rattle.std.proofs.Common.{◌≡◌, arith}
use Rattle.desk_data.specs.Situation.{reservations_of}
use Rattle.plan_checks.proofs.PassengerItemLaws.{found-more_c13, found-more_c14, found-more_c15}
use Rattle.plan_checks.proofs.carried.first_c13_to_c15.Goals as goal

pub loop-r-preserved : goal.loop-r-preserved
loop-r-preserved c =
    let I = c.args.inst.now in
    let P = c.args.plan.now in
    let r = c.loop-r.r in
    record {
      c13 = rw (found-more_c13 I P r, ← c.loop-r.invariant.c13, ← c.keeps_c13-connects.ensures, ← c.unless.ensures) c.or-c13.ensures;
      c14 = rw (found-more_c14 I P r, ← c.loop-r.invariant.c14, ← c.keeps_c14-in_time.ensures, ← c.unless-in-loop-r.ensures) c.or-c14.ensures;
      c15 = rw (found-more_c15 I P r, ← c.loop-r.invariant.c15, ← c.keeps_c15-as_begun.ensures, ← c.unless-in-loop-r-2.ensures) c.or-c15.ensures;
    }

pub returns : goal.returns
returns c =
    let I = c.args.inst.now in
    let all : c.loop-r.r ≡ reservations_of I = omega arith in
    rw (← all, ← c.loop-r.invariant.c13, ← c.loop-r.invariant.c14, ← c.loop-r.invariant.c15, ← c.or.ensures) c.or-2.ensures
