use Rattle.std.proofs.Common.{◌≡◌, max, true, arith, rules}
use Rattle.std.proofs.lemmas.List.Sums.{sum_by-append}
use Rattle.desk_model.specs.Push.{rotation}
use Rattle.near_priced.specs.Priced.{paid_on}
use Rattle.near_dear.proofs.ExchangeTableLaws.{legs-count}
use Rattle.near_dear.proofs.dear_exchange.is_dear_exchange.Goals as goal

pub tail_costs-flying-requires-clause-few : goal.tail_costs-flying-requires-clause-few
tail_costs-flying-requires-clause-few c =
    let count = c.requires.times.count in
    let few = c.requires.times.few in
    omega (arith, count, few, legs-count c.args.inst.now c.args.plan.now c.args.planes.0.0 c.args.legs.now c.requires.legs)

pub tail_costs-flying-requires-clause-few_others : goal.tail_costs-flying-requires-clause-few_others
tail_costs-flying-requires-clause-few_others c =
    let count = c.requires.other_times.count in
    let few = c.requires.other_times.few in
    omega (arith, count, few, legs-count c.args.inst.now c.args.plan.now c.args.planes.1.0 c.args.others.now c.requires.others)

pub returns : goal.returns
returns c = λ known.
    (let I = c.args.inst.now in
    let P = c.args.plan.now in
    let p = c.args.planes.0.0 in
    let q = c.args.planes.1.0 in
    let two : c.are_two.result ≡ true = search rules in
    let over : c.are_done.result ≡ true = search rules in
    let own = c.tail_costs-flying.ensures.own in
    let exchanged = c.tail_costs-flying.ensures.exchanged in
    let now = c.position_costs-positions.ensures.now in
    let then = c.position_costs-positions.ensures.then in
    let saves = c.saves_at_most.ensures known in
    let paid = c.requires.times.paid in
    let others_paid = c.requires.other_times.paid in
    record {
      other = c.are_two.ensures.other two;
      air = c.are_two.ensures.air two;
      other_air = c.are_two.ensures.other_air two;
      from = max c.args.times.0.by c.args.times.1.by;
      done = c.are_done.ensures over;
      dear = omega (arith, saves, own, exchanged, now, then, paid, others_paid, sum_by-append (paid_on I P) (rotation I P p) (rotation I P q));
    })
