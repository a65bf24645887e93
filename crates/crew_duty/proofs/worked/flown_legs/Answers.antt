use Rattle.std.proofs.Common.{◌<◌, length, get_or, sym, arith}
use Rattle.std.proofs.lemmas.List.{get_or_default}
use Rattle.crew_duty.proofs.SortLaws.{flown_step}
use Rattle.crew_duty.proofs.worked.flown_legs.Goals as goal

pub loop-leg-preserved : goal.loop-leg-preserved
loop-leg-preserved c =
    let k = c.loop-leg.leg-index in
    let lt : k < length c.args.legs.now = omega arith in
    let x = get_or c.args.legs.now k (record { 0 = 0 }) in
    record {
      exact = flown_step c.args.inst.now.parts c.args.rows.now c.args.legs.now k x c.row_of-row.result c.worked_leg-worked.result c.loop-leg.flown.items c.push_worked.new.flown.items lt
          (sym (get_or_default c.args.legs.now k x (record { 0 = 0 }) lt)) c.row_of-row.ensures.row c.worked_leg-worked.ensures.exact c.loop-leg.invariant.exact c.in_ok-push_worked.ensures.exact;
      time = c.in_ok-push_worked.ensures.time;
    }
