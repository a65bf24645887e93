use Rattle.std.proofs.Common.{arith, length-append}
use Rattle.desk_data.specs.Situation.{fresh_day}
use Rattle.desk_data.proofs.BookedLemmas.{bookings_more}
use Rattle.desk_data.proofs.booked.bookings_of.Goals as goal

pub loop-r-preserved : goal.loop-r-preserved
loop-r-preserved c =
    rw c.in_ok-push.ensures.items
    (record {
      all = rw length-append (omega arith);
      each = bookings_more (fresh_day c.args.parts.now) c.loop-r.bookings.items c.booked_of.result c.loop-r.r c.loop-r.invariant.all c.loop-r.invariant.each c.booked_of.ensures;
    })
