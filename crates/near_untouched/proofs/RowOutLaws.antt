-- A unit that is out by rows alone stays so, where its aircraft fly the same and hours have the same room.
use Rattle.std.proofs.Common.{◌≡◌, ℕ, Bool, true, ◌||◌, eqb, refl, sym, ap, subst, ◌∙◌}
use Rattle.std.specs.Prelude.{None}
use Rattle.std.specs.List.{All, Contains}
use Rattle.std.proofs.lemmas.Bool.{eq-eqb, or_left, or_right}
use Rattle.std.proofs.lemmas.List.Elements.{All-contains}
use Rattle.desk_data.specs.declared.row.Row.{Row}
use Rattle.desk_data.specs.Situation.{Situation}
use Rattle.desk_data.specs.PlanRows.{PlanRows, row_at}
use Rattle.desk_data.specs.Valid.{IsPlanFor}
use Rattle.plan_moves.specs.declared.moves.Move.{Move}
use Rattle.desk_rules.specs.Least.{least}
use Rattle.desk_rules.specs.Passengers.{is_flown}
use Rattle.near_moves.specs.MoveParts.{flier}
use Rattle.near_moves.specs.Units.{MoveUnit, retimed, swapped, dropped, restored, handed, rebooked}
use Rattle.near_moves.specs.Near.{unit_moves}
use Rattle.near_moves.proofs.ListLaws.{All_from_contains}
use Rattle.near_moves.specs.Chains.{IsHandedInVain}
use Rattle.near_moves.specs.Same.{FliesSame, is_of, FlyUnitSame, AgreeOn}
use Rattle.near_moves.specs.Steps.{unit_planes, unit_restores, unit_legs, unit_refills, BeginsFlown}
use Rattle.near_moves.specs.Room.{HaveSameRoom}
use Rattle.near_moves.specs.Own.{BreaksOwn}
use Rattle.near_moves.specs.Out.{HandsInVain}
use Rattle.near_moves.proofs.PlaneLaws.{row-same}
use Rattle.near_moves.proofs.FrameLaws.{agree-flies}
use Rattle.near_moves.proofs.MoveLaws.{moves-same, flier-flies}
use Rattle.near_moves.proofs.VainLaws.{handed-stays, swapped-stays, restored-stays}
use Rattle.near_moves.proofs.SplitLaws.{moves-split}
use Rattle.near_moves.proofs.OwnLaws.{breaks-stays}
use Rattle.near_untouched.specs.UntouchedUnits.{HasSameBacks}
use Rattle.near_notes.specs.Notes.{IsOutByRows, breaks_rule, swaps_in_vain, restores_in_vain, hands_in_vain}

pub begin-row : (P Q : PlanRows) (x : ℕ) → is_flown (row_at P x) ≡ true → FliesSame P Q (flier (row_at P x)) → row_at P x ≡ row_at Q x
begin-row P Q x on same = row-same P Q (flier (row_at P x)) same x (flier-flies P x on)

pub planes-same : (I : Situation) (P Q : PlanRows) (u : MoveUnit) → FlyUnitSame I P Q u → unit_planes P u ≡ unit_planes Q u
planes-same I P Q (retimed x) same = ap (λ (row : Row). λ (p : ℕ). eqb p (flier row)) (begin-row P Q x same.0 same.1)
planes-same I P Q (swapped p q) same = refl
planes-same I P Q (dropped x) same = ap (λ (row : Row). λ (p : ℕ). eqb p (flier row)) (begin-row P Q x same.0 same.1)
planes-same I P Q (restored x p) same = refl
planes-same I P Q (handed x k q) same = ap (λ (row : Row). λ (p : ℕ). (eqb p (flier row)) || (eqb p q)) (begin-row P Q x same.0 same.1)
planes-same I P Q (rebooked r path) same = refl

pub restores-same : (I : Situation) (P Q : PlanRows) (u : MoveUnit) → HasSameBacks I P Q u → (y : ℕ) → unit_restores I P u y ≡ unit_restores I Q u y
restores-same I P Q (retimed x) backs y = refl
restores-same I P Q (swapped p q) backs y = refl
restores-same I P Q (dropped x) backs y = refl
restores-same I P Q (restored x p) backs y = ap (λ (b : Bool). (eqb y x) || b) (backs y)
restores-same I P Q (handed x k q) backs y = refl
restores-same I P Q (rebooked r path) backs y = refl

module _ (I : Situation) (P Q : PlanRows) (u : MoveUnit) (later : IsPlanFor I Q) (feasible : least I Q ≡ None) (on : BeginsFlown P u) (agree : AgreeOn (unit_planes P u) (unit_legs I P u) P Q) (room : HaveSameRoom (unit_legs I P u) I P Q) (backs : HasSameBacks I P Q u) (same : FlyUnitSame I P Q u) where
  abbrev planes : ℕ → Bool
  planes = unit_planes P u

  abbrev legs : ℕ → Bool
  legs = unit_legs I P u

  flies : (p : ℕ) → planes p ≡ true → FliesSame P Q p
  flies p own = agree-flies planes legs P Q p agree own

  own-later : (p : ℕ) → planes p ≡ true → unit_planes Q u p ≡ true
  own-later p own = sym (ap (λ (test : ℕ → Bool). test p) (planes-same I P Q u same)) ∙ own

  own-leg-later : (x : ℕ) → legs x ≡ true → unit_legs I Q u x ≡ true
  own-leg-later x own =
      sym (ap (λ (test : ℕ → Bool). is_of test (row_at P x) || unit_restores I P u x) (planes-same I P Q u same)
      ∙ ap (λ (row : Row). is_of (unit_planes Q u) row || unit_restores I P u x) (agree.same x own)
      ∙ ap (λ (b : Bool). is_of (unit_planes Q u) (row_at Q x) || b) (restores-same I P Q u backs x))
      ∙ own

  hands-stays : HandsInVain I P u → HandsInVain I Q u
  hands-stays h =
      let vain : IsHandedInVain I P h.leg h.count h.plane = h.vain in
      let p = vain.plane in
      let by : flier (row_at P h.leg) ≡ p = ap flier vain.flown in
      let own : planes p ≡ true = subst (λ (v : MoveUnit). unit_planes P v p ≡ true) (sym h.is) (or_left (eqb p (flier (row_at P h.leg))) (eqb p h.plane) (eq-eqb p (flier (row_at P h.leg)) (sym by))) in
      let other : planes h.plane ≡ true = subst (λ (v : MoveUnit). unit_planes P v h.plane ≡ true) (sym h.is) (or_right (eqb h.plane (flier (row_at P h.leg))) (eqb h.plane h.plane) (eq-eqb h.plane h.plane refl)) in
      record { leg = h.leg; count = h.count; plane = h.plane; is = h.is; vain = handed-stays I P Q h.leg h.count h.plane vain feasible (flies p own) (flies h.plane other) }

  move-stays : (m : Move) → Contains (unit_moves I P u) m → IsOutByRows I P u m → IsOutByRows I Q u m
  move-stays m has (breaks_rule h) =
      breaks_rule (subst (λ (test : ℕ → Bool). BreaksOwn test I Q m) (planes-same I P Q u same) (breaks-stays planes legs (unit_refills I P u) I P Q m agree room (moves-split I P u m on has) h))
  move-stays m has (swaps_in_vain h) = swaps_in_vain (record {
    first = h.first;
    second = h.second;
    at = h.at;
    others = h.others;
    steps = h.steps;
    keeps = h.keeps;
    own = own-later h.first h.own;
    other_own = own-later h.second h.other_own;
    vain = swapped-stays I P Q h.first h.second h.at h.vain feasible (flies h.first h.own) (flies h.second h.other_own);
  })
  move-stays m has (restores_in_vain h) = restores_in_vain (record {
    leg = h.leg;
    plane = h.plane;
    at = h.at;
    others = h.others;
    steps = h.steps;
    keeps = h.keeps;
    own = own-later h.plane h.own;
    own_leg = own-leg-later h.leg h.own_leg;
    vain = restored-stays I P Q h.leg h.plane h.vain later feasible (sym (agree.same h.leg h.own_leg) ∙ h.vain.cancelled) (flies h.plane h.own);
  })
  move-stays m has (hands_in_vain h) = hands_in_vain (hands-stays h)

  pub out-by-rows-stays : All (IsOutByRows I P u) (unit_moves I P u) → All (IsOutByRows I Q u) (unit_moves I Q u)
  out-by-rows-stays out =
      subst (All (IsOutByRows I Q u)) (moves-same I P Q u same)
      (All_from_contains (IsOutByRows I Q u) (unit_moves I P u)
      (λ m has. move-stays m has (All-contains (IsOutByRows I P u) (unit_moves I P u) m out has)))
