use Rattle.std.proofs.Common.{◌≡◌, List, ◌∷◌, get_or, map, sym, ap, subst, ◌∙◌, arith}
use Rattle.std.specs.Prelude.{filter}
use Rattle.std.specs.List.{All}
use Rattle.std.proofs.lemmas.Bool.{true≢false}
use Rattle.std.proofs.lemmas.List.{take_all}
use Rattle.desk_units.specs.declared.numbers.Leg.{Leg}
use Rattle.desk_units.specs.declared.numbers.Cabin.{Cabin}
use Rattle.desk_data.specs.Situation.{PassengersGone}
use Rattle.near_moves.specs.Routes.{begun_path, is_other_stem, stems}
use Rattle.near_pax.specs.Start.{IsStemPath}
use Rattle.near_pax.proofs.StartLaws.{tallied-stem}
use Rattle.near_notes.specs.Onward.{IsClear}
use Rattle.near_notes.proofs.ClearLaws.{stems-more}
use Rattle.near_notes.proofs.untouched.has_clear_stems.Goals as goal
use Rattle.near_notes.proofs.untouched.has_clear_stems.Goals.{else-is_other_stem-via-then-is_other_stem+else-not-is_clear-2, else-is_other_stem-via-else-is_other_stem}

pub is_clear-requires-then-is_other_stem-clause-stem : goal.is_clear-requires-then-is_other_stem-clause-stem
is_clear-requires-then-is_other_stem-clause-stem c =
    let I = c.args.plans.now.inst.now in
    let items = c.tally-entry-items.result.now in
    let entry = c.entry-item.result in
    subst (IsStemPath I) (sym (c.as_slice-stem.ensures ∙ ap (λ (e : PassengersGone). e.0) c.entry-item.is))
    (tallied-stem I items c.loop-entry.entry-index entry c.parts-rows.ensures.valid c.tally-entry-items.ensures.ranges c.loop-entry-test.true)

pub loop-entry-preserved : goal.loop-entry-preserved
loop-entry-preserved c =
    let I = c.args.plans.now.inst.now in
    let Q = c.args.plans.now.plan.now in
    let changes = c.args.plans.now.changes.now in
    let r = c.args.res.0 in
    let first = begun_path I r in
    let items = c.tally-entry-items.result.now in
    let i = c.loop-entry.entry-index in
    let entry = c.entry-item.result in
    let stem = (get_or items i entry).0 in
    let is : c.as_slice-stem.result.now ≡ stem = c.as_slice-stem.ensures ∙ ap (λ (e : PassengersGone). e.0) c.entry-item.is in
    let tested : c.is_other_stem.result ≡ is_other_stem first stem =
    c.is_other_stem.ensures
    ∙ ap (λ (p : List (Leg × Cabin)). is_other_stem p c.as_slice-stem.result.now) c.begun_path-begun.ensures.path
    ∙ ap (is_other_stem first) is in
    stems-more (IsClear I Q changes r) (is_other_stem first) (λ (e : PassengersGone). e.0) first items i entry c.loop-entry-test.true
    (λ on. elim c.else-is_other_stem.branch [
      | else-is_other_stem-via-then-is_other_stem+else-not-is_clear-2 w ↦ subst (IsClear I Q changes r) is (w.is_clear-then-is_other_stem.ensures w.if-not-is_clear-2.false)
      | else-is_other_stem-via-else-is_other_stem w ↦ absurd (true≢false (sym on ∙ sym tested ∙ w.if-is_other_stem.false))
    ])
    c.loop-entry.invariant

pub returns : goal.returns
unfolding stems
returns c = λ is.
    (let I = c.args.plans.now.inst.now in
    let first = begun_path I c.args.res.0 in
    let items = c.tally-entry-items.result.now in
    subst (λ (entries : List PassengersGone). All (IsClear I c.args.plans.now.plan.now c.args.plans.now.changes.now c.args.res.0) (first ∷ filter (is_other_stem first) (map (λ (entry : PassengersGone). entry.0) entries)))
    (take_all c.loop-entry.entry-index items (omega arith) ∙ c.tally-entry-items.ensures.entries) c.loop-entry.invariant)
