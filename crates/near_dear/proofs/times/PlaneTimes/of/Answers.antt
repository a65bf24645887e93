use Rattle.std.proofs.Common.{◌≤◌, ℕ, length, refl, sym, ◌∙◌, rules}
use Rattle.desk_data.specs.Situation.{leg_at}
use Rattle.near_moves.proofs.ListLaws.{for_some}
use Rattle.near_dear.specs.Times.{ArePlaneTimes}
use Rattle.near_dear.proofs.MonoLaws.{free-later}
use Rattle.near_dear.proofs.ExchangeTableLaws.{calm-all, departs-all, legs-sum, legs-count, paid-all}
use Rattle.near_dear.proofs.times.PlaneTimes.of.Goals as goal

pub returns : goal.returns
returns c =
    let I = c.args.inst.now in
    let P = c.args.plan.now in
    let p = c.args.plane.0 in
    let legs = c.args.legs.now in
    let are = c.requires.legs in
    let by = c.all_by-by.result in
    let few : length legs ≤ 16 = search rules in
    for_some (ArePlaneTimes I P p) (record { by = by; count = length legs; minutes = c.minutes_of-minutes.result; paid = c.in_ok-paid.paid }) (record {
      free = free-later I p c.free_from.result by c.all_by-by.ensures.from c.free_from.ensures;
      departs = departs-all I P p legs are c.args.moments.now by c.all_by-by.ensures.legs;
      calm = calm-all I P p legs are c.args.moments.now by c.requires.moments c.all_by-by.ensures.legs;
      minutes = c.minutes_of-minutes.ensures ∙ sym (legs-sum I P p legs are (λ (x : ℕ). (leg_at I x).block));
      count = legs-count I P p legs are;
      few = few;
      paid = paid-all I P p legs are c.args.paid.now c.in_ok-paid.paid c.requires.paid (c.in_ok-paid.ensures c.in_ok-paid.paid refl);
    })
