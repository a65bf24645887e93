use Rattle.std.proofs.Common.{◌≡◌, ◌∙◌, ℕ, Bool, ap, sym, subst}
use Rattle.desk_data.specs.declared.broken.Broken.{Broken}
use Rattle.plan_reads.specs.declared.rotation_leg.RotationLeg.{RotationLeg}
use Rattle.board_rot.specs.declared.edit.Edit.TheVariants.{OfLeg}
use Rattle.board_rot.specs.Summaries.{Edited, LedTo}
use Rattle.board_rot.specs.Kept.{seen}
use Rattle.board_rot.specs.Meaning.{flown_in, IsRightOf, IsSummaryFor, AreJudged}
use Rattle.board_rot.specs.Changes.{depends_on_leg_before_of}
use Rattle.board_rot.proofs.OutcomeLaws.{on_ok}
use Rattle.board_rot.proofs.EditLaws.{led_one, led_same, led_both, led_planes}
use Rattle.board_rot.proofs.JudgeLaws.{summary_same}
use Rattle.board_rot.proofs.ChangeLaws.{summary_turned, right_leg, right_flown, rotation_legs_toggled, toggle_judged}
use Rattle.board_rot.proofs.change.toggle_leg.Goals as goal

pub judge_right-requires-clause-summary : goal.judge_right-requires-clause-summary
judge_right-requires-clause-summary c =
    subst (IsSummaryFor c.args.inst.now) (sym c.in_ok-toggle.ensures.ok) (summary_turned c.args.inst.now (seen c.args.log.now) c.args.plane c.args.rotation_leg c.requires.summary c.requires.leg c.requires.dep)

pub judge_right-requires-clause-right : goal.judge_right-requires-clause-right
judge_right-requires-clause-right c =
    let for = subst (IsSummaryFor c.args.inst.now) (sym c.in_ok-toggle.ensures.ok) (summary_turned c.args.inst.now (seen c.args.log.now) c.args.plane c.args.rotation_leg c.requires.summary c.requires.leg c.requires.dep) in
    right_leg c.args.inst.now (seen c.toggle.new.self).summary c.args.plane.0 c.args.rotation_leg c.right_of-right.result for.range c.right_of-right.ensures

pub judge_plane-requires-clause-summary : goal.judge_plane-requires-clause-summary
judge_plane-requires-clause-summary c =
    let for = subst (IsSummaryFor c.args.inst.now) (sym c.in_ok-toggle.ensures.ok) (summary_turned c.args.inst.now (seen c.args.log.now) c.args.plane c.args.rotation_leg c.requires.summary c.requires.leg c.requires.dep) in
    summary_same c.args.inst.now (seen c.toggle.new.self) (seen c.judge_right.new.log) for (led_planes (seen c.toggle.new.self) (seen c.judge_right.new.log) c.judge_right.ensures.led) c.judge_right.ensures.rotation_legs

pub returns-in_err-toggle-clause-led : goal.returns-in_err-toggle-clause-led
returns-in_err-toggle-clause-led c = subst (LedTo (seen c.args.log.now)) (sym c.in_err-toggle.ensures.err) (led_same (seen c.args.log.now))

pub returns-in_err-judge_right-clause-led : goal.returns-in_err-judge_right-clause-led
returns-in_err-judge_right-clause-led c =
    led_both (seen c.args.log.now) (seen c.toggle.new.self) (seen c.judge_right.new.log)
    (subst (LedTo (seen c.args.log.now)) (sym c.in_ok-toggle.ensures.ok) (led_one (OfLeg c.args.plane c.args.rotation_leg) (seen c.args.log.now))) c.judge_right.ensures.led

pub returns-clause-led : goal.returns-clause-led
returns-clause-led c =
    led_both (seen c.args.log.now) (seen c.judge_right.new.log) (seen c.judge_plane.new.log)
    (led_both (seen c.args.log.now) (seen c.toggle.new.self) (seen c.judge_right.new.log)
    (subst (LedTo (seen c.args.log.now)) (sym c.in_ok-toggle.ensures.ok) (led_one (OfLeg c.args.plane c.args.rotation_leg) (seen c.args.log.now))) c.judge_right.ensures.led) c.judge_plane.ensures.led

pub returns-clause-summary : goal.returns-clause-summary
returns-clause-summary c = on_ok c.judge_plane.result c.judge_plane.ensures.broken (λ judged.
    let for = subst (IsSummaryFor c.args.inst.now) (sym c.in_ok-toggle.ensures.ok) (summary_turned c.args.inst.now (seen c.args.log.now) c.args.plane c.args.rotation_leg c.requires.summary c.requires.leg c.requires.dep) in
    let then = summary_same c.args.inst.now (seen c.toggle.new.self) (seen c.judge_right.new.log) for (led_planes (seen c.toggle.new.self) (seen c.judge_right.new.log) c.judge_right.ensures.led) c.judge_right.ensures.rotation_legs in
    summary_same c.args.inst.now (seen c.judge_right.new.log) (seen c.judge_plane.new.log) then (led_planes (seen c.judge_right.new.log) (seen c.judge_plane.new.log) c.judge_plane.ensures.led) c.judge_plane.ensures.rotation_legs)

pub returns-clause-done : goal.returns-clause-done
returns-clause-done c = on_ok c.judge_plane.result c.judge_plane.ensures.broken (λ judged P Q was valid toggle rotation_legs.
    let moved : (seen c.toggle.new.self).summary.rotation_legs ≡ flown_in Q =
    ap (λ (e : Edited). e.summary.rotation_legs) c.in_ok-toggle.ensures.ok ∙ rotation_legs_toggled P Q c.args.rotation_leg.leg.0 c.args.plane c.args.rotation_leg.dep (seen c.args.log.now).summary.rotation_legs toggle rotation_legs in
    let right = c.right_of-right.result in
    let is : IsRightOf (flown_in Q c.args.plane.0) c.args.rotation_leg right = subst (λ (f : ℕ → RotationLeg → Bool). IsRightOf (f c.args.plane.0) c.args.rotation_leg right) moved c.right_of-right.ensures in
    let kept : (seen c.toggle.new.self).summary.broken ≡ (seen c.args.log.now).summary.broken = ap (λ (e : Edited). e.summary.broken) c.in_ok-toggle.ensures.ok in
    let first : AreJudged c.args.inst.now Q (depends_on_leg_before_of right) (seen c.toggle.new.self).summary (seen c.judge_right.new.log).summary =
    c.in_ok-judge_right.ensures.broken Q valid moved (right_flown Q c.args.plane.0 c.args.rotation_leg right is) in
    let second = judged Q valid (c.judge_right.ensures.rotation_legs ∙ moved) in
    record {
      rotation_legs = c.judge_plane.ensures.rotation_legs ∙ c.judge_right.ensures.rotation_legs ∙ moved;
      broken = λ item leg before. toggle_judged c.args.inst.now P Q c.args.rotation_leg.leg.0 c.args.plane c.args.rotation_leg.dep right (seen c.toggle.new.self).summary (seen c.judge_right.new.log).summary (seen c.judge_plane.new.log).summary
          was valid toggle is first second item leg (ap (λ (f : Broken → Bool). f item) kept ∙ before);
    })
