use Rattle.std.proofs.Common.{◌≡◌, ◌∙◌, [], ap, sym, subst, arith}
use Rattle.desk_data.specs.Booked.{booked_path}
use Rattle.desk_data.specs.Situation.{legs_of, res_at}
use Rattle.desk_data.specs.Valid.{IsReservation}
use Rattle.desk_model.specs.Rebook.{count_on, groups_after_rebook}
use Rattle.plan_reads.proofs.RefillCalls.{going-few, refill-nobody, refill-made, refill-whole}
use Rattle.plan_reads.proofs.refill.groups_after_refill.Goals as goal

pub returns-then-going-eq0-clause-made : goal.returns-then-going-eq0-clause-made
returns-then-going-eq0-clause-made g c =
    refill-nobody c.args.inst.now (g.P.ReadPlan.plan_of c.args.plan.now) c.args.leg.0 c.args.res.0 c.requires.plan (sym c.going_back-going.ensures ∙ c.if-going-eq0.true)

pub rebooked-requires-clause-moving : goal.rebooked-requires-clause-moving
rebooked-requires-clause-moving g c =
    omega (arith, c.going_back-going.ensures, going-few c.args.inst.now (g.P.ReadPlan.plan_of c.args.plan.now) c.args.leg.0 c.args.res.0, ap (count_on []) c.groups_of-groups.ensures.groups)

pub returns-clause-made : goal.returns-clause-made
returns-clause-made g c =
    let I = c.args.inst.now in
    let P = g.P.ReadPlan.plan_of c.args.plan.now in
    let r = c.args.res.0 in
    let n = c.going_back-going.result in
    let booked : c.as_slice-scheduled.result.now ≡ booked_path I r = c.as_slice-scheduled.ensures ∙ ap (λ info. info.path) c.res.ensures.row in
    refill-made I P c.args.leg.0 r n c.in_ok-made.made.items c.going_back-going.ensures c.if-going-eq0.false
    (c.in_ok-made.ensures ∙ ap (λ path. groups_after_rebook [] path n c.groups_of-groups.result.now) booked ∙ ap (groups_after_rebook [] (booked_path I r) n) c.groups_of-groups.ensures.groups)

pub returns-clause-whole : goal.returns-clause-whole
returns-clause-whole g c = λ v is.
    let I = c.args.inst.now in
    let P = g.P.ReadPlan.plan_of c.args.plan.now in
    let r = c.args.res.0 in
    let n = c.going_back-going.result in
    let booked : c.as_slice-scheduled.result.now ≡ booked_path I r = c.as_slice-scheduled.ensures ∙ ap (λ info. info.path) c.res.ensures.row in
    let same : v ≡ c.in_ok-made.made = cc in
    let ranges : IsReservation (legs_of I) (res_at I r) = subst (IsReservation (legs_of I)) c.res.ensures.row c.res.ensures.ranges in
    refill-whole I P c.args.leg.0 r n v.items c.requires.plan c.requires.res ranges c.going_back-going.ensures
    (ap (λ made. made.items) same ∙ c.in_ok-made.ensures ∙ ap (λ path. groups_after_rebook [] path n c.groups_of-groups.result.now) booked ∙ ap (groups_after_rebook [] (booked_path I r) n) c.groups_of-groups.ensures.groups)
