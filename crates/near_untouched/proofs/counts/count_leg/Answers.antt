use Rattle.std.proofs.Common.{refl, sym, ap, subst, ◌∙◌}
use Rattle.std.proofs.lemmas.Bool.{eq-eqb}
use Rattle.desk_data.specs.Situation.{planes_of}
use Rattle.desk_data.specs.Valid.{IsRowOf}
use Rattle.desk_rules.specs.Maintenance.{is_flown_by}
use Rattle.desk_model.proofs.ValidLaws.{row_of_plan}
use Rattle.near_untouched.proofs.CountLaws.{counted-off}
use Rattle.near_untouched.proofs.counts.count_leg.Goals as goal

pub count_at-requires-clause-plane : goal.count_at-requires-clause-plane
count_at-requires-clause-plane c =
    let I = c.args.inst.now in
    let valid : IsRowOf (planes_of I) c.read_row.result = subst (IsRowOf (planes_of I)) (sym c.read_row.ensures.row) (row_of_plan I c.args.plan.now c.args.leg.0 c.requires.leg c.requires.plan) in
    (rw c.in-Flown.is at valid).0

pub count_at-requires-clause-flown : goal.count_at-requires-clause-flown
count_at-requires-clause-flown c =
    let plane = c.in-Flown.plane in
    ap (is_flown_by plane.0) (sym c.in-Flown.ensures.row) ∙ eq-eqb plane.0 plane.0 refl

pub returns-in-Cancelled : goal.returns-in-Cancelled
returns-in-Cancelled c = record {
  kept = λ k on. on;
  counted = counted-off c.args.movement c.args.inst.now c.args.plan.now c.args.leg.0 c.args.counts.now.items c.args.touched.now.items c.requires.counted (sym c.in-Cancelled.ensures.row);
}
