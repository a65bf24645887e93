use Rattle.std.proofs.Common.{◌+◌, ◌<◌, map, refl, sym, subst}
use Rattle.std.proofs.lemmas.Result.{on_ok_weaker}
use Rattle.near_legs.specs.LegTables.{AreListed, count_of}
use Rattle.near_legs.proofs.ListsLaws.{lists_more, lists_same}
use Rattle.near_legs.proofs.lists.take_leg.Goals as goal

pub returns-in-Some : goal.returns-in-Some
returns-in-Some c =
    let I = c.args.inst.now in
    let P = c.args.plan.now in
    let leg = c.args.leg in
    let number = c.in-Some.number in
    let within : number < count_of I c.args.by = c.in-Some.ensures.limit number refl in
    on_ok_weaker c.push_leg.result (λ d.
    subst (AreListed (leg.0 + 1) I P c.args.by) (sym d)
    (lists_more I P c.args.by (map (λ l. l.items) c.args.lists.now.items) number leg within (sym c.in-Some.ensures.place) c.requires.so_far)) c.push_leg.ensures

pub returns-in-None : goal.returns-in-None
returns-in-None c =
    lists_same c.args.inst.now c.args.plan.now c.args.by c.args.leg.0 (map (λ l. l.items) c.args.lists.now.items) (sym c.in-None.ensures.place) c.requires.so_far
