use Rattle.std.proofs.Common.{◌≡◌, ℕ, ◌<◌, ◌⊎◌, inl, inr, List, length, get_or, ap, subst, ◌∙◌, arith}
use Rattle.std.specs.List.{Contains}
use Rattle.desk_data.specs.PlanRows.{row_at}
use Rattle.near_draft.specs.declared.change.Change.{Change}
use Rattle.near_draft.specs.Drafts.{plan_of}
use Rattle.near_draft.specs.Legs.{numbers_of}
use Rattle.near_draft.proofs.ChangeLaws.{no_change}
use Rattle.near_draft.proofs.LegLaws.{all-changed}
use Rattle.near_draft.proofs.changed.changed_legs.Goals as goal

pub loop-change-preserved : goal.loop-change-preserved
loop-change-preserved c =
    let D = c.args.draft.now in
    let P = D.rows in
    let Q = plan_of D in
    let i = c.loop-change.change-index in
    let new = numbers_of c.note_leg.new.legs.items in
    let same : get_or c.changes-changes.result.now i no_change ≡ get_or D.changes i no_change = ap (λ (changes : List Change). get_or changes i no_change) c.changes-changes.ensures.all in
    record {
      noted = λ j lt.
          let cases : (j < i) ⊎ (i ≡ j) = grind (arith, lt) in
          elim cases [
            | inl less ↦ elim (c.loop-change.invariant.noted j less) [
              | inl own ↦ inl own
              | inr has ↦ inr (c.in_ok-note_leg.ensures.kept (get_or D.changes j no_change).leg.0 has)
            ]
            | inr here ↦
                let is : (get_or c.changes-changes.result.now i no_change).leg.0 ≡ (get_or D.changes j no_change).leg.0 = ap (λ (change : Change). change.leg.0) same ∙ ap (λ (k : ℕ). (get_or D.changes k no_change).leg.0) here in
                subst (λ (x : ℕ). (row_at P x ≡ row_at Q x) ⊎ Contains new x) is c.in_ok-note_leg.ensures.noted
          ];
      within = c.in_ok-note_leg.ensures.within;
    }

pub returns-clause-all : goal.returns-clause-all
returns-clause-all c =
    let D = c.args.draft.now in
    all-changed D.rows D.changes (numbers_of c.loop-change.legs.items) (λ j lt.
    c.loop-change.invariant.noted j (let done = c.loop-change-test.false in let all = ap (λ (changes : List Change). length changes) c.changes-changes.ensures.all in omega (arith, lt, done, all)))
