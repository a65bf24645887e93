use Rattle.std.proofs.Common.{◌≡◌, ◌+◌, ◌<◌, not, get_or, refl, sym, ap, subst, ◌∙◌, arith}
use Rattle.std.proofs.lemmas.List.{take_all}
use Rattle.desk_data.specs.Situation.{Situation, reservations_of}
use Rattle.desk_data.specs.PlanRows.{PlanRows}
use Rattle.desk_data.specs.Valid.{IsPlanFor}
use Rattle.desk_eval.specs.Asked.{keeps_paths}
use Rattle.desk_eval.proofs.BackLaws.{after-itself, after-more, after-then}
use Rattle.desk_eval.proofs.WalkLaws.{no_res, length-some, some-within, tidying, tidied_all, tidied_all-more, tidied_all-is}
use Rattle.desk_eval.proofs.tidy_step.tidy_step.Goals as goal

pub returns-in_err-broken-clause-after : goal.returns-in_err-broken-clause-after
returns-in_err-broken-clause-after c = after-itself 100000 c.args.eval.now

pub loop-res-init : goal.loop-res-init
loop-res-init c = record { rows = refl; after = after-itself 0 c.args.eval.now }

pub tidy_reservation-requires : goal.tidy_reservation-requires
tidy_reservation-requires c =
    let E = c.args.eval.now in
    let items = c.deref-res-items.result.now in
    let i = c.loop-res.res-index in
    let kept = c.loop-res.invariant.after in
    let few = kept.few in
    let are = rw (← c.deref-res-items.ensures.value) at c.in_ok-broken.ensures in
    let most = length-some (reservations_of E.inst) (λ r. not (keeps_paths E.inst E.rows r)) items are in
    record {
      res = subst (λ (I : Situation). (get_or items i no_res).0 < reservations_of I) (sym kept.inst) (some-within (reservations_of E.inst) (λ r. not (keeps_paths E.inst E.rows r)) items are i c.loop-res-test.true);
      depth = omega (arith, few, most);
    }

pub returns-in_err-tidy_reservation-clause-after : goal.returns-in_err-tidy_reservation-clause-after
returns-in_err-tidy_reservation-clause-after c =
    let E = c.args.eval.now in
    let items = c.deref-res-items.result.now in
    let are = rw (← c.deref-res-items.ensures.value) at c.in_ok-broken.ensures in
    let most = length-some (reservations_of E.inst) (λ r. not (keeps_paths E.inst E.rows r)) items are in
    after-then c.loop-res.res-index 1 100000 E c.loop-res.eval c.tidy_reservation.new.eval (omega (arith, most)) c.loop-res.invariant.after c.tidy_reservation.ensures.after

pub loop-res-preserved : goal.loop-res-preserved
loop-res-preserved c =
    let E = c.args.eval.now in
    let items = c.deref-res-items.result.now in
    let i = c.loop-res.res-index in
    let F = c.loop-res.eval in
    let r = (get_or items i no_res).0 in
    let kept = c.loop-res.invariant.after in
    record {
      rows = c.in_ok-tidy_reservation.ensures.rows
          ∙ ap (λ (I : Situation). tidying I F.rows r) kept.inst
          ∙ ap (λ (Q : PlanRows). tidying E.inst Q r) c.loop-res.invariant.rows
          ∙ tidied_all-more E.inst E.rows items i c.loop-res-test.true;
      after = after-then i 1 (i + 1) E F c.tidy_reservation.new.eval (omega arith) kept c.tidy_reservation.ensures.after;
    }

pub returns-clause-rows : goal.returns-clause-rows
returns-clause-rows c =
    let E = c.args.eval.now in
    let items = c.deref-res-items.result.now in
    let are = rw (← c.deref-res-items.ensures.value) at c.in_ok-broken.ensures in
    c.loop-res.invariant.rows
    ∙ ap (tidied_all E.inst E.rows) (take_all c.loop-res.res-index items c.loop-res-test.false)
    ∙ tidied_all-is E.inst E.rows items (rw (c.plan.ensures.rows) at c.plan.ensures.valid) are

pub returns-clause-after : goal.returns-clause-after
returns-clause-after c =
    let E = c.args.eval.now in
    let items = c.deref-res-items.result.now in
    let are = rw (← c.deref-res-items.ensures.value) at c.in_ok-broken.ensures in
    let most = length-some (reservations_of E.inst) (λ r. not (keeps_paths E.inst E.rows r)) items are in
    after-more c.loop-res.res-index 100000 E c.loop-res.eval (omega (arith, most)) c.loop-res.invariant.after
