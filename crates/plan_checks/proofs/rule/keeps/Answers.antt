use Rattle.std.proofs.Common.{◌<◌, ◌∙◌, get_or, sym}
use Rattle.desk_data.specs.Situation.{planes_of, plane_at}
use Rattle.plan_checks.specs.Upkeep.{no_upkeep}
use Rattle.plan_checks.proofs.UpkeepLaws.{last-within, keeps_c8-made, keeps_c9-counted}
use Rattle.plan_checks.proofs.rule.keeps.Goals as goal

pub c8_maintenance-requires-clause-last : goal.c8_maintenance-requires-clause-last
c8_maintenance-requires-clause-last c =
    let I = c.args.inst.now in
    let n = c.args.n in
    let lt : n < planes_of I = rw c.in-C8Maintenance.is at c.requires.number in
    last-within I c.args.plan.now n (get_or c.args.upkeeps.now n no_upkeep) (plane_at I n).maint (c.requires.upkeeps.each n lt)

pub returns-in-C8Maintenance : goal.returns-in-C8Maintenance
returns-in-C8Maintenance c =
    let I = c.args.inst.now in
    let n = c.args.n in
    let lt : n < planes_of I = rw c.in-C8Maintenance.is at c.requires.number in
    rw c.in-C8Maintenance.is
    (c.c8_maintenance.ensures ∙ sym (keeps_c8-made I c.args.plan.now n (get_or c.args.upkeeps.now n no_upkeep) (c.requires.upkeeps.each n lt)))

pub returns-in-C9Minutes : goal.returns-in-C9Minutes
returns-in-C9Minutes c =
    let I = c.args.inst.now in
    let n = c.args.n in
    let lt : n < planes_of I = rw c.in-C9Minutes.is at c.requires.number in
    rw c.in-C9Minutes.is
    (c.c9_minutes.ensures ∙ sym (keeps_c9-counted I c.args.plan.now n (get_or c.args.upkeeps.now n no_upkeep) (c.requires.upkeeps.each n lt)))
