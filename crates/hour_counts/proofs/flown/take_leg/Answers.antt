use Rattle.std.proofs.Common.{◌≡◌, ◌+◌, ◌<◌, true, map, refl, sym, ap, subst, ◌∙◌}
use Rattle.std.proofs.lemmas.Bool.{eq-eqb}
use Rattle.std.proofs.lemmas.Result.{on_ok_weaker}
use Rattle.desk_data.specs.Situation.{planes_of}
use Rattle.desk_data.specs.Valid.{IsRowOf}
use Rattle.desk_rules.specs.Maintenance.{is_flown_by, flies}
use Rattle.hour_counts.specs.Flown.{AreFlownOfFirst}
use Rattle.desk_model.proofs.ValidLaws.{row_of_plan}
use Rattle.hour_counts.proofs.FlownLaws.{flown_more, cancelled_more}
use Rattle.hour_counts.proofs.flown.take_leg.Goals as goal

pub returns-in-Flown : goal.returns-in-Flown
returns-in-Flown g c =
    let I = c.args.inst.now in
    let Q = g.P.ReadPlan.plan_of c.args.plan.now in
    let leg = c.args.leg in
    let plane = c.in-Flown.plane in
    let row = c.in-Flown.ensures.row in
    let valid : IsRowOf (planes_of I) c.read_row.result = subst (IsRowOf (planes_of I)) (sym c.read_row.ensures.row) (row_of_plan I Q leg.0 c.requires.leg c.requires.plan) in
    let within : plane.0 < planes_of I = (rw c.in-Flown.is at valid).0 in
    let on : flies Q plane.0 leg.0 ≡ true = ap (is_flown_by plane.0) (sym row) ∙ eq-eqb plane.0 plane.0 refl in
    on_ok_weaker c.push_leg.result (λ d.
    subst (AreFlownOfFirst (leg.0 + 1) I Q) (sym d)
    (flown_more I Q (map (λ l. l.items) c.args.legs.now.items) plane.0 leg within on c.requires.so_far)) c.push_leg.ensures

pub returns-in-Cancelled : goal.returns-in-Cancelled
returns-in-Cancelled g c =
    cancelled_more c.args.inst.now (g.P.ReadPlan.plan_of c.args.plan.now) c.args.leg.0 (map (λ l. l.items) c.args.legs.now.items) (sym c.in-Cancelled.ensures.row) c.requires.so_far
