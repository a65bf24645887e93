use Rattle.std.proofs.Common.{◌≡◌, ◌+◌, ◌<◌, get_or, refl, sym, ap, subst, ◌∙◌, arith}
use Rattle.std.proofs.lemmas.List.{take_all}
use Rattle.desk_data.specs.Situation.{Situation, legs_of, reservations_of}
use Rattle.desk_data.specs.PlanRows.{PlanRows}
use Rattle.board_kit.specs.Users.{is_booked_on}
use Rattle.desk_model.specs.Refill.{after_refilling}
use Rattle.desk_eval.proofs.BackLaws.{after-itself, after-more, after-then}
use Rattle.desk_eval.proofs.WalkLaws.{no_res, length-some, some-within, refilled_all, refilled_all-more, refilled_all-is}
use Rattle.desk_eval.proofs.refill_step.refill_step.Goals as goal

pub returns-in_err-booked-clause-after : goal.returns-in_err-booked-clause-after
returns-in_err-booked-clause-after c = after-itself 100000 c.args.eval.now

pub loop-res-init : goal.loop-res-init
loop-res-init c = record { rows = refl; after = after-itself 0 c.args.eval.now }

pub refill_reservation-requires : goal.refill_reservation-requires
refill_reservation-requires c =
    let E = c.args.eval.now in
    let items = c.deref-res-items.result.now in
    let i = c.loop-res.res-index in
    let kept = c.loop-res.invariant.after in
    let few = kept.few in
    let are = rw (← c.deref-res-items.ensures.value) at c.in_ok-booked.ensures in
    let most = length-some (reservations_of E.inst) (is_booked_on E.inst c.args.leg.0) items are in
    record {
      leg = subst (λ (I : Situation). c.args.leg.0 < legs_of I) (sym kept.inst) c.requires.leg;
      res = subst (λ (I : Situation). (get_or items i no_res).0 < reservations_of I) (sym kept.inst) (some-within (reservations_of E.inst) (is_booked_on E.inst c.args.leg.0) items are i c.loop-res-test.true);
      depth = omega (arith, few, most);
    }

pub returns-in_err-refill_reservation-clause-after : goal.returns-in_err-refill_reservation-clause-after
returns-in_err-refill_reservation-clause-after c =
    let E = c.args.eval.now in
    let items = c.deref-res-items.result.now in
    let are = rw (← c.deref-res-items.ensures.value) at c.in_ok-booked.ensures in
    let most = length-some (reservations_of E.inst) (is_booked_on E.inst c.args.leg.0) items are in
    after-then c.loop-res.res-index 1 100000 E c.loop-res.eval c.refill_reservation.new.eval (omega (arith, most)) c.loop-res.invariant.after c.refill_reservation.ensures.after

pub loop-res-preserved : goal.loop-res-preserved
loop-res-preserved c =
    let E = c.args.eval.now in
    let items = c.deref-res-items.result.now in
    let i = c.loop-res.res-index in
    let F = c.loop-res.eval in
    let x = c.args.leg.0 in
    let r = (get_or items i no_res).0 in
    let kept = c.loop-res.invariant.after in
    record {
      rows = c.in_ok-refill_reservation.ensures.rows
          ∙ ap (λ (I : Situation). after_refilling I x F.rows r) kept.inst
          ∙ ap (λ (Q : PlanRows). after_refilling E.inst x Q r) c.loop-res.invariant.rows
          ∙ refilled_all-more E.inst x E.rows items i c.loop-res-test.true;
      after = after-then i 1 (i + 1) E F c.refill_reservation.new.eval (omega arith) kept c.refill_reservation.ensures.after;
    }

pub returns-clause-rows : goal.returns-clause-rows
returns-clause-rows c =
    let E = c.args.eval.now in
    let items = c.deref-res-items.result.now in
    let are = rw (← c.deref-res-items.ensures.value) at c.in_ok-booked.ensures in
    c.loop-res.invariant.rows
    ∙ ap (refilled_all E.inst c.args.leg.0 E.rows) (take_all c.loop-res.res-index items c.loop-res-test.false)
    ∙ refilled_all-is E.inst c.args.leg.0 E.rows items are

pub returns-clause-after : goal.returns-clause-after
returns-clause-after c =
    let E = c.args.eval.now in
    let items = c.deref-res-items.result.now in
    let are = rw (← c.deref-res-items.ensures.value) at c.in_ok-booked.ensures in
    let most = length-some (reservations_of E.inst) (is_booked_on E.inst c.args.leg.0) items are in
    after-more c.loop-res.res-index 100000 E c.loop-res.eval (omega (arith, most)) c.loop-res.invariant.after
