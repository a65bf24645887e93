use Rattle.std.proofs.Common.{◌≡◌, ◌-◌, ◌∙◌, min, [], ap, sym}
use Rattle.desk_data.specs.Booked.{booked_path}
use Rattle.desk_data.specs.PlanRows.{groups_at}
use Rattle.desk_data.specs.Situation.{carried_gone, gone, tallied}
use Rattle.desk_model.specs.Choices.{greatest_within}
use Rattle.desk_model.specs.Rebook.{count_on}
use Rattle.desk_model.specs.Refill.{has_leg, has_seats_for}
use Rattle.desk_model.specs.Tidy.{is_fit_path}
use Rattle.plan_reads.proofs.RefillCalls.{going-nobody_waits, going-no_leg, going-not_fit, going-fit}
use Rattle.plan_reads.proofs.refill.going_back.Goals as goal
use Rattle.plan_reads.proofs.refill.going_back.Goals.{then-waiting-eq0-via-then-waiting-eq0, then-waiting-eq0-via-else-waiting-eq0+then-not-has_leg, then-waiting-eq0-via-else-waiting-eq0+else-not-has_leg+then-not-is_fit_path}

pub returns-then-waiting-eq0 : goal.returns-then-waiting-eq0
returns-then-waiting-eq0 g c =
    let I = c.args.inst.now in
    let P = g.P.ReadPlan.plan_of c.args.plan.now in
    let x = c.args.leg.0 in
    let r = c.args.res.0 in
    let booked : c.res.result.now.path ≡ booked_path I r = ap (λ info. info.path) c.res.ensures.row in
    let waiting : c.count_on-waiting.result ≡ count_on [] (groups_at P r) = c.count_on-waiting.ensures ∙ ap (count_on []) c.requires.groups in
    elim c.then-waiting-eq0.branch [
      | then-waiting-eq0-via-then-waiting-eq0 w ↦ going-nobody_waits I P x r (sym waiting ∙ w.if-waiting-eq0.true)
      | then-waiting-eq0-via-else-waiting-eq0+then-not-has_leg w ↦
          going-no_leg I P x r (ap (has_leg x) (sym (w.as_slice.ensures ∙ booked)) ∙ sym w.has_leg.ensures ∙ w.if-not-has_leg.true)
      | then-waiting-eq0-via-else-waiting-eq0+else-not-has_leg+then-not-is_fit_path w ↦
          going-not_fit I P x r (ap (is_fit_path I P r) (sym booked) ∙ sym w.is_fit_path.ensures ∙ w.if-not-is_fit_path.true)
    ]

pub returns : goal.returns
returns g c =
    let I = c.args.inst.now in
    let P = g.P.ReadPlan.plan_of c.args.plan.now in
    let x = c.args.leg.0 in
    let r = c.args.res.0 in
    let booked : c.res.result.now.path ≡ booked_path I r = ap (λ info. info.path) c.res.ensures.row in
    let waiting : c.count_on-waiting.result ≡ count_on [] (groups_at P r) = c.count_on-waiting.ensures ∙ ap (count_on []) c.requires.groups in
    let most : c.min-most.result ≡ min c.count_on-waiting.result (tallied I r (gone I (booked_path I r)) - carried_gone I.progress.frozen (groups_at P r) (gone I (booked_path I r))) =
    c.min-most.ensures
    ∙ ap (min c.count_on-waiting.result) (c.room.ensures.room
    ∙ ap (λ path. tallied I r (gone I path) - carried_gone I.progress.frozen c.args.groups.now (gone I path)) booked
    ∙ ap (λ groups. tallied I r (gone I (booked_path I r)) - carried_gone I.progress.frozen groups (gone I (booked_path I r))) c.requires.groups) in
    c.fitting.ensures
    ∙ ap (λ path. greatest_within c.min-most.result (has_seats_for I P path)) (c.as_slice-2.ensures ∙ booked)
    ∙ going-fit I P x r c.count_on-waiting.result c.min-most.result waiting most
    (ap (has_leg x) (sym (c.as_slice.ensures ∙ booked)) ∙ sym c.has_leg.ensures ∙ c.if-not-has_leg.false)
    (ap (is_fit_path I P r) (sym booked) ∙ sym c.is_fit_path.ensures ∙ c.if-not-is_fit_path.false)
