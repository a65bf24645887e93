use Rattle.std.proofs.Common.{get_or, arith}
use Rattle.desk_units.specs.declared.numbers.Leg.{Leg}
use Rattle.near_untouched.specs.Again.{IsFree, leads_back}
use Rattle.near_untouched.proofs.CountLaws.{one_if-few}
use Rattle.near_untouched.proofs.AgainLaws.{free-more}
use Rattle.near_untouched.proofs.again.backs_of.Goals as goal

pub loop-back-preserved : goal.loop-back-preserved
loop-back-preserved c =
    let I = c.args.inst.now in
    let marks = c.args.marks.now in
    let x = c.args.leg.0 in
    let legs = c.args.legs.now in
    let i = c.loop-back.back-index in
    let none : Leg = record { 0 = 0 } in
    let one = c.in_ok-count.field-0 in
    let own : IsFree I marks x (get_or legs i none).0 one = c.in_ok-count.ensures in
    let counted = own.counted in
    let few = c.loop-back.invariant.few in
    let little = one_if-few (leads_back I x (get_or legs i none).0) in
    record {
      free = free-more I marks x c.loop-back.count one i legs none c.loop-back-test.true c.loop-back.invariant.free own;
      few = omega (arith, counted, few, little);
    }
