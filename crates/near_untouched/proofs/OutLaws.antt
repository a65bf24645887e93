-- A unit of legs that is untouched stays out.
use Rattle.std.proofs.Common.{◌≡◌, ℕ, ◌+◌, ◌≤◌, inl, inr, Bool, true, false, ◌||◌, eqb, List, [], ◌∷◌, ◌++◌, length, get_or, refl, sym, ap, subst, ◌∙◌, arith}
use Rattle.std.specs.Prelude.{None}
use Rattle.std.specs.List.{All, Contains, AllByRecursion}
use Rattle.std.proofs.lemmas.Bool.{eq-eqb, or_left, or_right}
use Rattle.std.proofs.lemmas.List.Elements.{All-contains, recursion_from_All}
use Rattle.desk_data.specs.declared.row.Row.{Row}
use Rattle.desk_data.specs.declared.row.Row.TheVariants.{Cancelled}
use Rattle.desk_data.specs.Situation.{Situation}
use Rattle.desk_data.specs.PlanRows.{PlanRows, row_at}
use Rattle.desk_data.specs.Valid.{IsPlanFor, IsValid}
use Rattle.plan_moves.specs.Fits.{Fits, StepFits}
use Rattle.plan_moves.specs.declared.moves.Move.{Move}
use Rattle.plan_moves.specs.declared.moves.Step.{Step}
use Rattle.desk_rules.specs.Least.{least}
use Rattle.desk_rules.specs.Cost.{cost}
use Rattle.desk_rules.specs.Passengers.{is_flown}
use Rattle.desk_model.specs.Steps.{after_steps, after_move}
use Rattle.desk_model.proofs.MoveLaws.{after_steps-valid}
use Rattle.near_moves.specs.MoveParts.{flier}
use Rattle.near_moves.specs.Units.{MoveUnit, retimed, swapped, dropped, restored, handed, rebooked}
use Rattle.near_moves.specs.Near.{unit_moves}
use Rattle.near_moves.proofs.ListLaws.{All_from_contains}
use Rattle.near_moves.specs.Chains.{IsHandedInVain}
use Rattle.near_moves.specs.Same.{FliesSame, is_of, FlyUnitSame, AgreeOn}
use Rattle.near_moves.specs.Steps.{IsSplit, unit_planes, unit_restores, unit_legs, unit_refills, BeginsFlown}
use Rattle.near_moves.specs.Own.{BreaksOwn}
use Rattle.near_moves.specs.Out.{SwapsInVain, RestoresInVain, HandsInVain, IsOut, dear, breaks, swaps, restores, hands}
use Rattle.near_moves.proofs.PlaneLaws.{row-same}
use Rattle.near_moves.proofs.FrameLaws.{agree-flies}
use Rattle.near_moves.proofs.MoveLaws.{moves-same, flier-flies}
use Rattle.near_moves.proofs.VainLaws.{handed-stays, swapped-stays, restored-stays}
use Rattle.near_moves.proofs.SplitLaws.{moves-split}
use Rattle.near_moves.proofs.OwnLaws.{breaks-stays}
use Rattle.near_untouched.specs.UntouchedUnits.{HasSameBacks, IsUntouchedUnit}
use Rattle.near_untouched.proofs.DearerLaws.{dearer-stays}
use Rattle.near_untouched.proofs.RowOutLaws.{begin-row, planes-same, restores-same}

-- ---- the aircraft of an untouched unit

itself : (p : ℕ) → eqb p p ≡ true
itself p = eq-eqb p p refl

agree-unit : (I : Situation) (P Q : PlanRows) (u : MoveUnit) → BeginsFlown P u → AgreeOn (unit_planes P u) (unit_legs I P u) P Q → HasSameBacks I P Q u → FlyUnitSame I P Q u
agree-unit I P Q (retimed x) on agree backs = (on, agree-flies (unit_planes P (retimed x)) (unit_legs I P (retimed x)) P Q (flier (row_at P x)) agree (itself (flier (row_at P x))))
agree-unit I P Q (swapped p q) on agree backs =
    let planes = unit_planes P (swapped p q) in
    let legs = unit_legs I P (swapped p q) in (
      agree-flies planes legs P Q p agree (or_left (eqb p p) (eqb p q) (itself p)),
      agree-flies planes legs P Q q agree (or_right (eqb q p) (eqb q q) (itself q)),
    )
agree-unit I P Q (dropped x) on agree backs = (on, agree-flies (unit_planes P (dropped x)) (unit_legs I P (dropped x)) P Q (flier (row_at P x)) agree (itself (flier (row_at P x))))
agree-unit I P Q (restored x p) on agree backs = (agree-flies (unit_planes P (restored x p)) (unit_legs I P (restored x p)) P Q p agree (itself p), backs)
agree-unit I P Q (handed x k q) on agree backs =
    let p = flier (row_at P x) in
    let planes = unit_planes P (handed x k q) in
    let legs = unit_legs I P (handed x k q) in (
      on,
      agree-flies planes legs P Q p agree (or_left (eqb p p) (eqb p q) (itself p)),
      agree-flies planes legs P Q q agree (or_right (eqb q p) (eqb q q) (itself q)),
    )
agree-unit I P Q (rebooked r path) on agree backs = absurd on

-- ---- steps that fit

first-fit : (I : Situation) (first others : List Step) → AllByRecursion (StepFits I) (first ++ others) → AllByRecursion (StepFits I) first
first-fit I [] others fits = tt
first-fit I (step ∷ first) others fits = (fits.0, first-fit I first others fits.1)

first-valid : (I : Situation) (P : PlanRows) (m : Move) (first others : List Step) → IsValid I → Fits I m → m.steps ≡ first ++ others → IsPlanFor I P → IsPlanFor I (after_steps I P first)
first-valid I P m first others valid fits steps plan =
    after_steps-valid I P first valid (first-fit I first others (subst (AllByRecursion (StepFits I)) steps (recursion_from_All (StepFits I) m.steps fits.each))) plan

-- ---- one move

module _ (I : Situation) (P Q : PlanRows) (u : MoveUnit) (valid : IsValid I) (plan : IsPlanFor I P) (later : IsPlanFor I Q) (feasible : least I P ≡ None) (feasible_later : least I Q ≡ None) (on : BeginsFlown P u) (still : IsUntouchedUnit I P Q u) where
  abbrev planes : ℕ → Bool
  planes = unit_planes P u

  abbrev legs : ℕ → Bool
  legs = unit_legs I P u

  flies : (p : ℕ) → planes p ≡ true → FliesSame P Q p
  flies p own = agree-flies planes legs P Q p still.agree own

  unit-same : FlyUnitSame I P Q u
  unit-same = agree-unit I P Q u on still.agree still.backs

  own-later : (p : ℕ) → planes p ≡ true → unit_planes Q u p ≡ true
  own-later p own = sym (ap (λ (test : ℕ → Bool). test p) (planes-same I P Q u unit-same)) ∙ own

  own-leg-later : (x : ℕ) → legs x ≡ true → unit_legs I Q u x ≡ true
  own-leg-later x own =
      sym (ap (λ (test : ℕ → Bool). is_of test (row_at P x) || unit_restores I P u x) (planes-same I P Q u unit-same)
      ∙ ap (λ (row : Row). is_of (unit_planes Q u) row || unit_restores I P u x) (still.agree.same x own)
      ∙ ap (λ (b : Bool). is_of (unit_planes Q u) (row_at Q x) || b) (restores-same I P Q u still.backs x))
      ∙ own

  dear-stays : (m : Move) → Fits I m → IsSplit planes legs (unit_refills I P u) m → cost I P ≤ cost I (after_move I P m) → cost I Q ≤ cost I (after_move I Q m)
  dear-stays m fits split less =
      let balance = dearer-stays planes legs (unit_refills I P u) still.touched I P Q m split.first split.others valid plan later feasible feasible_later still.agree still.room still.passengers still.positions split.steps split.among split.tidying
      (first-valid I P m split.first split.others valid fits split.steps plan) (first-valid I Q m split.first split.others valid fits split.steps later) in
      omega (arith, balance, less)

  hands-stays : (h : HandsInVain I P u) → HandsInVain I Q u
  hands-stays h =
      let vain : IsHandedInVain I P h.leg h.count h.plane = h.vain in
      let p = vain.plane in
      let by : flier (row_at P h.leg) ≡ p = ap flier vain.flown in
      let own : planes p ≡ true = subst (λ (v : MoveUnit). unit_planes P v p ≡ true) (sym h.is) (or_left (eqb p (flier (row_at P h.leg))) (eqb p h.plane) (eq-eqb p (flier (row_at P h.leg)) (sym by))) in
      let other : planes h.plane ≡ true = subst (λ (v : MoveUnit). unit_planes P v h.plane ≡ true) (sym h.is) (or_right (eqb h.plane (flier (row_at P h.leg))) (eqb h.plane h.plane) (itself h.plane)) in
      record { leg = h.leg; count = h.count; plane = h.plane; is = h.is; vain = handed-stays I P Q h.leg h.count h.plane vain feasible_later (flies p own) (flies h.plane other) }

  out-stays : (m : Move) → Fits I m → Contains (unit_moves I P u) m → IsOut I P u m → IsOut I Q u m
  out-stays m fits has (dear less) = dear (dear-stays m fits (moves-split I P u m on has) less)
  out-stays m fits has (breaks h) =
      breaks (subst (λ (test : ℕ → Bool). BreaksOwn test I Q m) (planes-same I P Q u unit-same) (breaks-stays planes legs (unit_refills I P u) I P Q m still.agree still.room (moves-split I P u m on has) h))
  out-stays m fits has (swaps h) = swaps (record {
    first = h.first;
    second = h.second;
    at = h.at;
    others = h.others;
    steps = h.steps;
    keeps = h.keeps;
    own = own-later h.first h.own;
    other_own = own-later h.second h.other_own;
    vain = swapped-stays I P Q h.first h.second h.at h.vain feasible_later (flies h.first h.own) (flies h.second h.other_own);
  })
  out-stays m fits has (restores h) = restores (record {
    leg = h.leg;
    plane = h.plane;
    at = h.at;
    others = h.others;
    steps = h.steps;
    keeps = h.keeps;
    own = own-later h.plane h.own;
    own_leg = own-leg-later h.leg h.own_leg;
    vain = restored-stays I P Q h.leg h.plane h.vain later feasible_later (sym (still.agree.same h.leg h.own_leg) ∙ h.vain.cancelled) (flies h.plane h.own);
  })
  out-stays m fits has (hands h) = hands (hands-stays h)

  untouched-out : All (Fits I) (unit_moves I P u) → All (IsOut I P u) (unit_moves I P u) → All (IsOut I Q u) (unit_moves I Q u)
  untouched-out fits out =
      subst (All (IsOut I Q u)) (moves-same I P Q u unit-same)
      (All_from_contains (IsOut I Q u) (unit_moves I P u)
      (λ m has. out-stays m (All-contains (Fits I) (unit_moves I P u) m fits has) has (All-contains (IsOut I P u) (unit_moves I P u) m out has)))

pub unit-out : (I : Situation) (P Q : PlanRows) (u : MoveUnit) → IsValid I → IsPlanFor I P → IsPlanFor I Q → least I P ≡ None → least I Q ≡ None → BeginsFlown P u → All (Fits I) (unit_moves I P u) → IsUntouchedUnit I P Q u → All (IsOut I P u) (unit_moves I P u) → All (IsOut I Q u) (unit_moves I Q u)
unit-out I P Q u valid plan later feasible feasible_later on fits still out = untouched-out I P Q u valid plan later feasible feasible_later on still fits out
