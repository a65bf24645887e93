use Rattle.desk_data.specs.Situation.{legs_of}
use Rattle.near_pax.specs.Sought.{is_sought}
use Rattle.near_pax.proofs.SoughtLaws.{window-sound, legs-sorted, legs-within}
use Rattle.near_pax.proofs.flights.FlightNet.legs.Goals as goal

pub picked-requires-clause-within : goal.picked-requires-clause-within
picked-requires-clause-within c = window-sound c.args.inst.now c.args.plan.now c.args.sought.now c.args.self.now c.window.result.now c.requires.net c.window.ensures

pub returns-clause-legs : goal.returns-clause-legs
returns-clause-legs c =
    legs-sorted c.args.inst.now c.args.plan.now c.args.sought.now c.args.self.now c.window.result.now c.in_ok-legs.legs.items c.sort.new.self.items
    c.requires.net c.window.ensures c.in_ok-legs.ensures c.in_ok-sort.ensures.permutation c.in_ok-sort.ensures.sorted

pub returns-clause-within : goal.returns-clause-within
returns-clause-within c =
    legs-within (legs_of c.args.inst.now) (is_sought c.args.inst.now c.args.plan.now c.args.sought.now) c.sort.new.self.items
    (legs-sorted c.args.inst.now c.args.plan.now c.args.sought.now c.args.self.now c.window.result.now c.in_ok-legs.legs.items c.sort.new.self.items
    c.requires.net c.window.ensures c.in_ok-legs.ensures c.in_ok-sort.ensures.permutation c.in_ok-sort.ensures.sorted)
