use Rattle.std.proofs.Common.{◌≡◌, ℕ, ◌<◌, ◌⊎◌, inl, inr, true, List, length, get_or, sym, ap, subst, ◌∙◌, arith}
use Rattle.std.specs.Prelude.{filter}
use Rattle.std.specs.List.{All, Contains}
use Rattle.desk_data.specs.Situation.{Situation, legs_of}
use Rattle.desk_data.specs.PlanRows.{PlanRows}
use Rattle.desk_rules.specs.Maintenance.{flies}
use Rattle.desk_model.specs.Push.{rotation}
use Rattle.near_draft.specs.declared.change.Change.{Change}
use Rattle.near_draft.specs.Drafts.{plan_of}
use Rattle.near_draft.specs.Legs.{numbers_of}
use Rattle.near_draft.proofs.ChangeLaws.{no_change}
use Rattle.near_draft.proofs.LegLaws.{found-legs, numbers-within, still-flown}
use Rattle.near_draft.proofs.legs.find_legs.Goals as goal

pub add_leg-requires-clause-within : goal.add_leg-requires-clause-within
add_leg-requires-clause-within c = numbers-within c.args.draft.now.inst (plan_of c.args.draft.now) c.args.plane.0 c.loop-change.legs.items c.loop-change.invariant.flown

pub loop-change-init : goal.loop-change-init
loop-change-init c =
    let D = c.args.draft.now in
    let p = c.args.plane.0 in
    let whole = ap numbers_of c.as_slice.ensures.value ∙ c.in_ok-own.ensures.order ∙ ap (λ (I : Situation). rotation I c.base.result.now.rows p) c.base.ensures.inst ∙ ap (λ (P : PlanRows). rotation D.inst P p) c.base.ensures.rows in
    let are : numbers_of c.in_ok-legs.legs.items ≡ filter (flies (plan_of D) p) (rotation D.inst D.rows p) = c.in_ok-legs.ensures ∙ ap (filter (flies (plan_of D) p)) whole in
    record {
      flown = subst (All (λ z. (z < legs_of D.inst) × (flies (plan_of D) p z ≡ true))) (sym are) (still-flown D.inst D.rows (plan_of D) p);
      kept = λ z has. subst (λ (xs : List ℕ). Contains xs z) (sym are) has;
      come = λ j lt holds. absurd (omega (arith, lt));
    }

pub loop-change-preserved : goal.loop-change-preserved
loop-change-preserved c =
    let D = c.args.draft.now in
    let p = c.args.plane.0 in
    let i = c.loop-change.change-index in
    let added = c.in_ok-add_leg.ensures in
    let new = numbers_of c.add_leg.new.legs.items in
    let same : get_or c.changes-changes.result.now i no_change ≡ get_or D.changes i no_change = ap (λ (changes : List Change). get_or changes i no_change) c.changes-changes.ensures.all in
    record {
      flown = added.flown c.loop-change.invariant.flown;
      kept = λ z has. added.kept z (c.loop-change.invariant.kept z has);
      come = λ j lt holds.
          let cases : (j < i) ⊎ (i ≡ j) = grind (arith, lt) in
          elim cases [
            | inl less ↦ added.kept (get_or D.changes j no_change).leg.0 (c.loop-change.invariant.come j less holds)
            | inr here ↦
                let is : (get_or c.changes-changes.result.now i no_change).leg.0 ≡ (get_or D.changes j no_change).leg.0 = ap (λ (change : Change). change.leg.0) same ∙ ap (λ (k : ℕ). (get_or D.changes k no_change).leg.0) here in
                subst (Contains new) is (added.there (subst (λ (x : ℕ). flies (plan_of D) p x ≡ true) (sym is) holds))
          ];
    }

pub returns-clause-legs : goal.returns-clause-legs
returns-clause-legs c =
    let D = c.args.draft.now in
    let inv = c.loop-change.invariant in
    found-legs D.inst D.rows D.changes c.args.plane.0 (numbers_of c.loop-change.legs.items) (record {
      flown = inv.flown;
      kept = inv.kept;
      come = λ j lt holds. inv.come j (let done = c.loop-change-test.false in let all = ap (λ (changes : List Change). length changes) c.changes-changes.ensures.all in omega (arith, lt, done, all)) holds;
    })

pub returns-clause-within : goal.returns-clause-within
returns-clause-within c = numbers-within c.args.draft.now.inst (plan_of c.args.draft.now) c.args.plane.0 c.loop-change.legs.items c.loop-change.invariant.flown
