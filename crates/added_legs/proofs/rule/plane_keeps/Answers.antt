use Rattle.std.proofs.Common.{◌≡◌, length, get_or, sym, ◌∙◌}
use Rattle.std.specs.Prelude.{None}
use Rattle.desk_data.specs.Situation.{legs_of, plane_at}
use Rattle.plan_reads.proofs.LastLaws.{last_in}
use Rattle.plan_checks.specs.Upkeep.{no_upkeep, start_of}
use Rattle.added_legs.proofs.MaintLaws.{c8_is, c9_is, few_minutes}
use Rattle.added_legs.proofs.rule.plane_keeps.Goals as goal

pub c8_maintenance-requires-clause-upkeep : goal.c8_maintenance-requires-clause-upkeep
c8_maintenance-requires-clause-upkeep c =
    let I = c.args.inst.now in
    let P = c.args.plan.now in
    let A = c.args.known.added.now in
    let flights = c.args.known.flights.now in
    let p = c.args.plane.0 in
    let all : length P.rows ≡ legs_of I = c.requires.plan.legs in
    let g = c.requires.known.flights in
    let u = get_or c.args.known.upkeeps.now p no_upkeep in
    let l = get_or c.args.known.lasts.now p None in
    few_minutes I P p u (plane_at I p).maint c.parts-rows.ensures.valid (c.requires.known.upkeeps.each p c.requires.plane)

pub c8_maintenance-requires-clause-last : goal.c8_maintenance-requires-clause-last
c8_maintenance-requires-clause-last c =
    let I = c.args.inst.now in
    let P = c.args.plan.now in
    let A = c.args.known.added.now in
    let flights = c.args.known.flights.now in
    let p = c.args.plane.0 in
    let all : length P.rows ≡ legs_of I = c.requires.plan.legs in
    let g = c.requires.known.flights in
    let u = get_or c.args.known.upkeeps.now p no_upkeep in
    let l = get_or c.args.known.lasts.now p None in
    last_in I P p (start_of (plane_at I p).maint) l (c.requires.known.lasts.each p c.requires.plane)

pub c9_minutes-requires-clause-upkeep : goal.c9_minutes-requires-clause-upkeep
c9_minutes-requires-clause-upkeep c =
    let I = c.args.inst.now in
    let P = c.args.plan.now in
    let A = c.args.known.added.now in
    let flights = c.args.known.flights.now in
    let p = c.args.plane.0 in
    let all : length P.rows ≡ legs_of I = c.requires.plan.legs in
    let g = c.requires.known.flights in
    let u = get_or c.args.known.upkeeps.now p no_upkeep in
    let l = get_or c.args.known.lasts.now p None in
    few_minutes I P p u (plane_at I p).maint c.parts-rows.ensures.valid (c.requires.known.upkeeps.each p c.requires.plane)

pub returns-in-C8Maintenance : goal.returns-in-C8Maintenance
returns-in-C8Maintenance c =
    let I = c.args.inst.now in
    let P = c.args.plan.now in
    let A = c.args.known.added.now in
    let flights = c.args.known.flights.now in
    let p = c.args.plane.0 in
    let all : length P.rows ≡ legs_of I = c.requires.plan.legs in
    let g = c.requires.known.flights in
    let u = get_or c.args.known.upkeeps.now p no_upkeep in
    let l = get_or c.args.known.lasts.now p None in
    rw c.in-C8Maintenance.is (c.c8_maintenance.ensures ∙ sym (c8_is I P A all p u l (get_or flights p None) c.requires.plane (g.each p c.requires.plane) (c.requires.known.upkeeps.each p c.requires.plane) (c.requires.known.lasts.each p c.requires.plane)))

pub returns-in-C9Minutes : goal.returns-in-C9Minutes
returns-in-C9Minutes c =
    let I = c.args.inst.now in
    let P = c.args.plan.now in
    let A = c.args.known.added.now in
    let flights = c.args.known.flights.now in
    let p = c.args.plane.0 in
    let all : length P.rows ≡ legs_of I = c.requires.plan.legs in
    let g = c.requires.known.flights in
    let u = get_or c.args.known.upkeeps.now p no_upkeep in
    let l = get_or c.args.known.lasts.now p None in
    rw c.in-C9Minutes.is (c.c9_minutes.ensures ∙ sym (c9_is I P A all p u (get_or flights p None) c.requires.plane (g.each p c.requires.plane) (c.requires.known.upkeeps.each p c.requires.plane)))
