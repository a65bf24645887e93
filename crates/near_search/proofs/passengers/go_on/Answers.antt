use Rattle.near_search.proofs.PassedLaws.{past-more}
use Rattle.near_search.proofs.passengers.go_on.Goals as goal

pub loop-res-preserved : goal.loop-res-preserved
loop-res-preserved c =
    let of = rw (c.instance.ensures, c.plan.ensures.rows) at c.in-Some.ensures.of in
    let unit = rw (c.instance.ensures, c.plan.ensures.rows) at c.in-Some.ensures.unit in
    record {
      of = of;
      notes = c.is_known.ensures.notes;
      past = past-more c.args.eval.now.inst c.args.eval.now.rows _ _ _ c.in-Some.res.0 c.in-Some.place c.loop-res.invariant.past unit (c.is_known.ensures.vain c.if-not-is_known.false);
    }
