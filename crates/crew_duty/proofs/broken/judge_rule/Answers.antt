use Rattle.std.proofs.Common.{◌<◌, length, get_or, arith}
use Rattle.crew_duty.specs.Faults.{by_faults, has_fault, item_of}
use Rattle.crew_duty.proofs.JudgedLaws.{none_judged, one_judged, all_judged, set_so, no_faults}
use Rattle.crew_duty.proofs.broken.judge_rule.Goals as goal

pub loop-i-init : goal.loop-i-init
loop-i-init c = record {
  judged = λ f is. none_judged (by_faults f) c.args.rule c.args.numbers.now c.args.broken.now.items;
  count = omega arith;
  room = omega arith;
}

pub loop-i-preserved : goal.loop-i-preserved
loop-i-preserved c =
    let i = c.loop-i.i in
    let lt : i < length c.args.numbers.now = omega arith in
    let n = get_or c.args.numbers.now i 0 in
    let own = get_or c.args.found.now i no_faults in
    record {
      judged = λ f is.
          one_judged f c.args.rule c.args.numbers.now c.args.found.now no_faults c.args.broken.now.items c.loop-i.broken.items c.set_item.new.broken.items i lt is
          (set_so c.loop-i.broken.items c.set_item.new.broken.items c.item-item.result (item_of c.args.rule n) c.has-is_in.result (has_fault c.args.rule own) c.item-item.ensures c.has-is_in.ensures c.set_item.ensures.set)
          (c.loop-i.invariant.judged f is);
      count = omega arith;
      room = omega arith;
    }

pub returns-clause-judged : goal.returns-clause-judged
returns-clause-judged c f is =
    all_judged (by_faults f) c.args.rule c.args.numbers.now c.args.broken.now.items c.loop-i.broken.items c.loop-i.i (omega arith) (c.loop-i.invariant.judged f is)
