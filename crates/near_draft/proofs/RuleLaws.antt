-- What C5 and C6 ask of a leg, told by its place among the legs of its aircraft.
use Rattle.std.proofs.Common.{◌≡◌, ℕ, suc, ◌-◌, ◌<◌, ◌⊎◌, inl, inr, Bool, true, false, ◌&&◌, ◌||◌, List, length, get_or, refl, sym, ap, subst, ◌∙◌, arith}
use Rattle.std.specs.Prelude.{Option, Some, None, not}
use Rattle.std.proofs.lemmas.Bool.{cases_Bool, lt-ltb}
use Rattle.std.proofs.lemmas.List.{get_or_default}
use Rattle.desk_units.specs.declared.numbers.Leg.{Leg}
use Rattle.desk_data.specs.declared.broken.Broken.TheVariants.{C2, C4, C5, C6, C7}
use Rattle.desk_data.specs.declared.row.Row.{Row}
use Rattle.desk_data.specs.Situation.{Situation, legs_of, fixed}
use Rattle.desk_data.specs.PlanRows.{PlanRows, row_at}
use Rattle.desk_rules.specs.Rotations.{dep, precedes}
use Rattle.desk_rules.specs.Maintenance.{flies}
use Rattle.desk_rules.specs.Least.{breaks}
use Rattle.desk_rules.specs.Rules.{keeps_c2, keeps_c4, keeps_c5, keeps_c6, keeps_c7, departs_in_time, c4_range, c7_service}
use Rattle.desk_rules.specs.Words.{Flies, Precedes}
use Rattle.desk_rules.proofs.RotationLaws.{precedes-holds, precedes-from}
use Rattle.desk_rules.proofs.MaintenanceLaws.{flies-holds, flies-from}
use Rattle.plan_reads.specs.declared.rotation_leg.RotationLeg.{RotationLeg}
use Rattle.plan_reads.specs.AfterLeg.{IsRotationLegBefore, with_departure, c5_location_after, c6_ground_time_after}
use Rattle.plan_reads.proofs.AfterLegLaws.{keeps_c5-after, keeps_c6-after}
use Rattle.plan_reads.specs.Before.{IsNearest, IsLegBefore}
use Rattle.desk_model.specs.Push.{rotation}
use Rattle.desk_model.proofs.RotationOrder.{flown_once, precedes-trans, precedes-itself, rotation-ordered, rotation-flown, rotation-each}
use Rattle.near_moves.specs.RowRules.{BreaksRows}
use Rattle.near_draft.specs.LegRules.{BreaksOf, IsLeft, keeps_leg_rules, leg_rules_after}

-- leg z stands before place k
record IsPlacedBefore (legs : List ℕ) (k z : ℕ) : Type 0 where
  place : ℕ
  less : place < k
  is : get_or legs place 0 ≡ z

module _ (I : Situation) (P : PlanRows) (p : ℕ) where
  abbrev legs : List ℕ
  legs = rotation I P p

  abbrev at : ℕ → ℕ
  at k = get_or legs k 0

  -- a leg that comes before the one at place k stands before that place
  placed_before : (k z : ℕ) → k < length legs → z < legs_of I → Precedes P z (at k) → IsPlacedBefore legs k z
  placed_before k z lt within before =
      let own : flies P p (at k) ≡ true = (rotation-flown I P p k 0 lt).1 in
      let plane : before.plane ≡ p = flown_once P (at k) before.plane p before.later _ before.second (flies-holds P p (at k) own) in
      let first : Flies P z p before.dep = subst (λ (q : ℕ). Flies P z q before.dep) plane before.first in
      let there = rotation-each I P p z within (flies-from P p z before.dep first) in
      let j = there.0 in
      let in_j : j < length legs = there.1 in
      let here : at j ≡ z = get_or_default legs j 0 z in_j ∙ there.2 in
      let cases : (j < k) ⊎ ((j ≡ k) ⊎ (k < j)) = grind arith in
      elim cases [
        | inl left ↦ record { place = j; less = left; is = here }
        | inr rest ↦ elim rest [
          | inl same ↦ absurd (precedes-itself P z (subst (Precedes P z) (sym (ap at same) ∙ here) before))
          | inr right ↦
              let back : Precedes P (at k) z = subst (Precedes P (at k)) here (rotation-ordered I P p k j 0 right in_j) in
              absurd (precedes-itself P z (precedes-trans P z (at k) z before back))
        ]
      ]

  -- none stands before the first
  pub first-leg : 0 < length legs → IsLegBefore P.rows (legs_of I) (at 0) None
  first-leg lt = λ z within. elim (cases_Bool (precedes P z (at 0))) [
    | inl before ↦ let left = placed_before 0 z lt within (precedes-holds P z (at 0) before) in absurd (let less = left.less in omega (arith, less))
    | inr other ↦ other
  ]

  -- the one to the left is the last before a leg
  pub next-leg : (k : ℕ) (leg : Leg) → suc k < length legs → at k ≡ leg.0 → IsLegBefore P.rows (legs_of I) (at (suc k)) (Some leg)
  next-leg k leg lt is =
      let in_k : k < length legs = omega (arith, lt) in
      let less : k < suc k = omega arith in
      subst (λ (w : ℕ). IsNearest P.rows (legs_of I) (at (suc k)) w) is (record {
        within = (rotation-flown I P p k 0 in_k).0;
        before = precedes-from P (at k) (at (suc k)) (rotation-ordered I P p k (suc k) 0 less lt);
        nearest = λ z within before. elim (cases_Bool (precedes P (at k) z)) [
          | inr other ↦ other
          | inl past ↦
              let left = placed_before (suc k) z lt within (precedes-holds P z (at (suc k)) before) in
              let j = left.place in
              let later : Precedes P (at k) z = precedes-holds P (at k) z past in
              let cases : (j < k) ⊎ (j ≡ k) = (let l = left.less in grind (arith, l)) in
              elim cases [
                | inl front ↦
                    let back : Precedes P z (at k) = subst (λ (u : ℕ). Precedes P u (at k)) left.is (rotation-ordered I P p j k 0 front in_k) in
                    absurd (precedes-itself P z (precedes-trans P z (at k) z back later))
                | inr same ↦ absurd (precedes-itself P (at k) (subst (Precedes P (at k)) (sym left.is ∙ ap at same) later))
              ]
        ];
      })

-- so the leg to the left is the leg before a leg
pub left-before : (I : Situation) (P : PlanRows) (p k : ℕ) (order : List ℕ) (before : Option Leg) → order ≡ rotation I P p → k < length order → IsLeft order k before → IsLegBefore P.rows (legs_of I) (get_or order k 0) before
left-before I P p k order None is lt none =
    subst (λ (i : ℕ). IsLegBefore P.rows (legs_of I) (get_or order i 0) None) (sym none)
    (subst (λ (xs : List ℕ). 0 < length xs → IsLegBefore P.rows (legs_of I) (get_or xs 0 0) None) (sym is) (first-leg I P p) (omega (arith, lt)))
left-before I P p k order (Some leg) is lt left =
    let some = left.0 in
    let one : suc (k - 1) ≡ k = omega (arith, some) in
    subst (λ (i : ℕ). IsLegBefore P.rows (legs_of I) (get_or order i 0) (Some leg)) one
    (subst (λ (xs : List ℕ). suc (k - 1) < length xs → get_or xs (k - 1) 0 ≡ leg.0 → IsLegBefore P.rows (legs_of I) (get_or xs (suc (k - 1)) 0) (Some leg)) (sym is) (next-leg I P p (k - 1) leg) (omega (arith, lt, one)) left.1)

-- with its departure
pub before-is : (I : Situation) (P : PlanRows) (y : ℕ) (leg : Option Leg) (at : Option RotationLeg) → at ≡ with_departure P leg → IsLegBefore P.rows (legs_of I) y leg → IsRotationLegBefore I P y at
before-is I P y None at is none = subst (IsRotationLegBefore I P y) (sym is) (record { leg = none; departs = λ earlier h. absurd cc })
before-is I P y (Some leg) at is nearest =
    subst (IsRotationLegBefore I P y) (sym is) (record {
      leg = nearest;
      departs = λ earlier h.
          let first : RotationLeg = record { dep = record { 0 = dep P leg.0 }; leg = leg } in
          let same : first ≡ earlier = cc in
          subst (λ (a : RotationLeg). a.dep.0 ≡ dep P a.leg.0) same refl;
    })

-- so what is told by a row and the leg before is what the plan says
pub rules-are : (I : Situation) (P : PlanRows) (x : ℕ) (before : Option RotationLeg) (row : Row) → row_at P x ≡ row → IsRotationLegBefore I P x before → leg_rules_after I x before row ≡ keeps_leg_rules I P x
unfolding keeps_c2 keeps_c4 keeps_c7
rules-are I P x before row is h =
    let c5 : c5_location_after I x before row ≡ keeps_c5 I P x = keeps_c5-after I P x before row is h in
    let c6 : c6_ground_time_after I x before row ≡ keeps_c6 I P x = keeps_c6-after I P x before row is h in
    ap (λ (b : Bool). b && c6_ground_time_after I x before row && (fixed I x || departs_in_time I x row) && c4_range I x row && c7_service I x row) c5
    ∙ ap (λ (b : Bool). keeps_c5 I P x && b && (fixed I x || departs_in_time I x row) && c4_range I x row && c7_service I x row) c6
    ∙ ap (λ (r : Row). keeps_c5 I P x && keeps_c6 I P x && (fixed I x || departs_in_time I x r) && c4_range I x r && c7_service I x r) (sym is)

-- ---- what is broken

not_kept : (b : Bool) → b ≡ false → not b ≡ true
not_kept b is = rw is refl

pub leg-breaks : (I : Situation) (P : PlanRows) (leg : Leg) → leg.0 < legs_of I → keeps_leg_rules I P leg.0 ≡ false → BreaksRows I P
unfolding breaks
leg-breaks I P leg within fails =
    let x = leg.0 in
    let of = lt-ltb x (legs_of I) within in
    elim (cases_Bool (keeps_c5 I P x)) [
      | inr c5 ↦ record { item = C5 leg; of = of; broken = not_kept (keeps_c5 I P x) c5 }
      | inl c5 ↦ elim (cases_Bool (keeps_c6 I P x)) [
        | inr c6 ↦ record { item = C6 leg; of = of; broken = not_kept (keeps_c6 I P x) c6 }
        | inl c6 ↦ elim (cases_Bool (keeps_c2 I P x)) [
          | inr c2 ↦ record { item = C2 leg; of = of; broken = not_kept (keeps_c2 I P x) c2 }
          | inl c2 ↦ elim (cases_Bool (keeps_c4 I P x)) [
            | inr c4 ↦ record { item = C4 leg; of = of; broken = not_kept (keeps_c4 I P x) c4 }
            | inl c4 ↦ elim (cases_Bool (keeps_c7 I P x)) [
              | inr c7 ↦ record { item = C7 leg; of = of; broken = not_kept (keeps_c7 I P x) c7 }
              | inl c7 ↦ absurd (let all : keeps_leg_rules I P x ≡ true = rw (c5, c6, c2, c4, c7) refl in let both : true ≡ false = sym all ∙ fails in cc)
            ]
          ]
        ]
      ]
    ]

-- a plan breaks an item where an aircraft flies a leg that breaks a rule
pub of-breaks : (I : Situation) (P : PlanRows) (p : ℕ) → BreaksOf I P p → BreaksRows I P
of-breaks I P p is = leg-breaks I P (record { 0 = is.leg }) is.within is.broken
