use Rattle.std.proofs.Common.{map, sym, ap, ◌∙◌, arith}
use Rattle.desk_data.specs.declared.info.PlaneInfo.{PlaneInfo}
use Rattle.ferry_legs.proofs.StepLaws.{surface_plane, one_plane, few_first}
use Rattle.ferry_legs.proofs.opening.count_plane.Goals as goal

pub returns-then-info : goal.returns-then-info
returns-then-info c =
    surface_plane c.args.inst.now c.args.plan.now c.args.plane.0 (map (λ rows. rows.items) c.args.airports.now.items)
    (sym (ap (λ (info : PlaneInfo). info.surface) c.plane-info.ensures.row) ∙ c.if-info.true) c.requires.so_far

pub come-requires-clause-few : goal.come-requires-clause-few
come-requires-clause-few c =
    few_first c.args.inst.now c.args.plan.now c.args.plane.0 (map (λ rows. rows.items) c.args.airports.now.items) c.end_of.result.0 c.end_of.ensures.limit
    (omega (arith, c.requires.plane, c.planes-few.ensures.count, c.planes-few.ensures.limit)) c.requires.so_far

pub returns : goal.returns
returns c =
    one_plane c.args.inst.now c.args.plan.now c.args.plane.0 c.args.last c.plane-info.result.now c.end_of.result (map (λ rows. rows.items) c.args.airports.now.items) (map (λ rows. rows.items) c.come.new.airports.items)
    c.plane-info.ensures.row c.end_of.ensures.stand c.end_of.ensures.limit
    (sym (ap (λ (info : PlaneInfo). info.surface) c.plane-info.ensures.row) ∙ c.if-info.false)
    c.requires.last c.come.ensures c.requires.so_far
