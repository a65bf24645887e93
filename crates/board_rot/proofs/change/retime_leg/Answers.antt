use Rattle.std.proofs.Common.{◌≡◌, ◌∙◌, ℕ, Bool, ap, subst}
use Rattle.desk_data.specs.declared.broken.Broken.{Broken}
use Rattle.plan_reads.specs.declared.rotation_leg.RotationLeg.{RotationLeg}
use Rattle.board_rot.specs.Summaries.{Edited}
use Rattle.board_rot.specs.Kept.{seen}
use Rattle.board_rot.specs.Meaning.{flown_in, IsRightOf, AreJudged}
use Rattle.board_rot.specs.Changes.{depends_on_leg_before_of}
use Rattle.board_rot.proofs.EditLaws.{led_both, led_planes}
use Rattle.board_rot.proofs.MoveLaws.{moved_led, moved_summary, some_is}
use Rattle.board_rot.proofs.JudgeLaws.{summary_same}
use Rattle.board_rot.proofs.ChangeLaws.{right_leg, right_flown, rotation_legs_moved, moved_judged}
use Rattle.board_rot.proofs.change.retime_leg.Goals as goal

pub judge_right-requires-clause-summary : goal.judge_right-requires-clause-summary
judge_right-requires-clause-summary c =
    let from : RotationLeg = record { dep = c.args.from; leg = c.args.leg } in
    let to : RotationLeg = record { dep = c.args.to; leg = c.args.leg } in
    let m = some_is _ _ c.in-Some.next c.in-Some.is c.in_ok-next.ensures.some in
    let summary = moved_summary c.args.inst.now (seen c.args.log.now) (seen c.retime.new.self) c.args.plane from to c.in-Some.next.item m c.requires.summary (c.requires.leg, c.requires.from) (c.requires.leg, c.requires.to) in
    summary

pub judge_right-requires-clause-right : goal.judge_right-requires-clause-right
judge_right-requires-clause-right c =
    let from : RotationLeg = record { dep = c.args.from; leg = c.args.leg } in
    let to : RotationLeg = record { dep = c.args.to; leg = c.args.leg } in
    let m = some_is _ _ c.in-Some.next c.in-Some.is c.in_ok-next.ensures.some in
    let summary = moved_summary c.args.inst.now (seen c.args.log.now) (seen c.retime.new.self) c.args.plane from to c.in-Some.next.item m c.requires.summary (c.requires.leg, c.requires.from) (c.requires.leg, c.requires.to) in
    right_leg c.args.inst.now (seen c.retime.new.self).summary c.args.plane.0 to c.in-Some.next.item summary.range m.right

pub judge_plane-requires-clause-summary : goal.judge_plane-requires-clause-summary
judge_plane-requires-clause-summary c =
    let from : RotationLeg = record { dep = c.args.from; leg = c.args.leg } in
    let to : RotationLeg = record { dep = c.args.to; leg = c.args.leg } in
    let m = some_is _ _ c.in-Some.next c.in-Some.is c.in_ok-next.ensures.some in
    let summary = moved_summary c.args.inst.now (seen c.args.log.now) (seen c.retime.new.self) c.args.plane from to c.in-Some.next.item m c.requires.summary (c.requires.leg, c.requires.from) (c.requires.leg, c.requires.to) in
    summary_same c.args.inst.now (seen c.retime.new.self) (seen c.judge_right.new.log) summary (led_planes (seen c.retime.new.self) (seen c.judge_right.new.log) c.judge_right.ensures.led) c.judge_right.ensures.rotation_legs

pub returns-in_err-judge_right-in-Some-clause-led : goal.returns-in_err-judge_right-in-Some-clause-led
returns-in_err-judge_right-in-Some-clause-led c =
    let from : RotationLeg = record { dep = c.args.from; leg = c.args.leg } in
    let to : RotationLeg = record { dep = c.args.to; leg = c.args.leg } in
    let m = some_is _ _ c.in-Some.next c.in-Some.is c.in_ok-next.ensures.some in
    let first = moved_led (seen c.args.log.now) (seen c.retime.new.self) c.args.plane from to c.in-Some.next.item m in
    led_both (seen c.args.log.now) (seen c.retime.new.self) (seen c.judge_right.new.log) first c.judge_right.ensures.led

pub returns-in_err-judge_plane-in-Some-clause-led : goal.returns-in_err-judge_plane-in-Some-clause-led
returns-in_err-judge_plane-in-Some-clause-led c =
    let from : RotationLeg = record { dep = c.args.from; leg = c.args.leg } in
    let to : RotationLeg = record { dep = c.args.to; leg = c.args.leg } in
    let m = some_is _ _ c.in-Some.next c.in-Some.is c.in_ok-next.ensures.some in
    let first = moved_led (seen c.args.log.now) (seen c.retime.new.self) c.args.plane from to c.in-Some.next.item m in
    led_both (seen c.args.log.now) (seen c.judge_right.new.log) (seen c.judge_plane.new.log)
    (led_both (seen c.args.log.now) (seen c.retime.new.self) (seen c.judge_right.new.log) first c.judge_right.ensures.led) c.judge_plane.ensures.led

pub returns-in_ok-judge_plane-in-Some-clause-led : goal.returns-in_ok-judge_plane-in-Some-clause-led
returns-in_ok-judge_plane-in-Some-clause-led c =
    let from : RotationLeg = record { dep = c.args.from; leg = c.args.leg } in
    let to : RotationLeg = record { dep = c.args.to; leg = c.args.leg } in
    let m = some_is _ _ c.in-Some.next c.in-Some.is c.in_ok-next.ensures.some in
    let first = moved_led (seen c.args.log.now) (seen c.retime.new.self) c.args.plane from to c.in-Some.next.item m in
    led_both (seen c.args.log.now) (seen c.judge_right.new.log) (seen c.judge_plane.new.log)
    (led_both (seen c.args.log.now) (seen c.retime.new.self) (seen c.judge_right.new.log) first c.judge_right.ensures.led) c.judge_plane.ensures.led

pub returns-in_ok-judge_plane-in-Some-clause-summary : goal.returns-in_ok-judge_plane-in-Some-clause-summary
returns-in_ok-judge_plane-in-Some-clause-summary c =
    let from : RotationLeg = record { dep = c.args.from; leg = c.args.leg } in
    let to : RotationLeg = record { dep = c.args.to; leg = c.args.leg } in
    let m = some_is _ _ c.in-Some.next c.in-Some.is c.in_ok-next.ensures.some in
    let summary = moved_summary c.args.inst.now (seen c.args.log.now) (seen c.retime.new.self) c.args.plane from to c.in-Some.next.item m c.requires.summary (c.requires.leg, c.requires.from) (c.requires.leg, c.requires.to) in
    let then = summary_same c.args.inst.now (seen c.retime.new.self) (seen c.judge_right.new.log) summary (led_planes (seen c.retime.new.self) (seen c.judge_right.new.log) c.judge_right.ensures.led) c.judge_right.ensures.rotation_legs in
    summary_same c.args.inst.now (seen c.judge_right.new.log) (seen c.judge_plane.new.log) then (led_planes (seen c.judge_right.new.log) (seen c.judge_plane.new.log) c.judge_plane.ensures.led) c.judge_plane.ensures.rotation_legs

pub returns-in_ok-judge_plane-in-Some-clause-done : goal.returns-in_ok-judge_plane-in-Some-clause-done
returns-in_ok-judge_plane-in-Some-clause-done c so P Q R was valid off on rotation_legs =
    let I = c.args.inst.now in
    let x = c.args.leg.0 in
    let from : RotationLeg = record { dep = c.args.from; leg = c.args.leg } in
    let to : RotationLeg = record { dep = c.args.to; leg = c.args.leg } in
    let m = some_is _ _ c.in-Some.next c.in-Some.is c.in_ok-next.ensures.some in
    let right = c.in-Some.next.item in
    let moved : (seen c.retime.new.self).summary.rotation_legs ≡ flown_in R = ap (λ (e : Edited). e.summary.rotation_legs) m.edits ∙ rotation_legs_moved P Q R x c.args.plane c.args.from c.args.to (seen c.args.log.now).summary.rotation_legs off on rotation_legs in
    let kept : (seen c.retime.new.self).summary.broken ≡ (seen c.args.log.now).summary.broken = ap (λ (e : Edited). e.summary.broken) m.edits in
    let here : IsRightOf (flown_in P c.args.plane.0) from right = subst (λ (f : ℕ → RotationLeg → Bool). IsRightOf (f c.args.plane.0) from right) rotation_legs m.was in
    let there : IsRightOf (flown_in R c.args.plane.0) to right = subst (λ (f : ℕ → RotationLeg → Bool). IsRightOf (f c.args.plane.0) to right) moved m.right in
    let first : AreJudged I R (depends_on_leg_before_of right) (seen c.retime.new.self).summary (seen c.judge_right.new.log).summary
    = c.in_ok-judge_right-in-Some.ensures.broken R valid moved (right_flown R c.args.plane.0 to right there) in
    let second = c.in_ok-judge_plane-in-Some.ensures.broken R valid (c.judge_right.ensures.rotation_legs ∙ moved) in
    record {
      rotation_legs = c.judge_plane.ensures.rotation_legs ∙ c.judge_right.ensures.rotation_legs ∙ moved;
      broken = λ item leg before. moved_judged I P Q R x c.args.plane c.args.from c.args.to right (seen c.retime.new.self).summary (seen c.judge_right.new.log).summary (seen c.judge_plane.new.log).summary
          was valid off on here there first second item leg (ap (λ (f : Broken → Bool). f item) kept ∙ before);
    }
