-- A move that cancels legs of an aircraft makes the plan no cheaper where those on one of the legs come to cost what it could save.
use Rattle.std.proofs.Common.{◌≡◌, ℕ, ◌+◌, ◌<◌, ◌≤◌, inl, inr, Bool, true, false, ◌||◌, not, cond, eqb, List, [], ◌∷◌, ◌++◌, length, get_or, refl, sym, ap, subst, ◌∙◌, append_assoc, arith}
use Rattle.std.specs.Prelude.{None, map, sum_by}
use Rattle.std.specs.List.{All, AllByRecursion, list_any}
use Rattle.std.proofs.lemmas.Bool.{true≢false, cases_Bool, or_parts, eq-eqb}
use Rattle.std.proofs.lemmas.List.Elements.{All-nil, All-cons, All-contains, All-filter, All-take, All-weaker, recursion_from_All}
use Rattle.std.proofs.lemmas.List.Folds.{list_any_at}
use Rattle.desk_units.specs.declared.numbers.Leg.{Leg}
use Rattle.desk_units.specs.declared.numbers.Cabin.{Cabin}
use Rattle.desk_data.specs.declared.row.Group.{Group}
use Rattle.desk_data.specs.declared.row.Row.TheVariants.{Cancelled}
use Rattle.desk_data.specs.Situation.{Situation, legs_of, reservations_of}
use Rattle.desk_data.specs.PlanRows.{PlanRows, row_at, groups_at}
use Rattle.desk_data.specs.Valid.{IsPlanFor, IsValid}
use Rattle.plan_moves.specs.Fits.{Fits, StepFits}
use Rattle.plan_moves.specs.declared.moves.Move.{Move}
use Rattle.plan_moves.specs.declared.moves.Step.TheVariants.{Push, Tidy}
use Rattle.desk_rules.specs.Least.{least}
use Rattle.desk_rules.specs.Maintenance.{flies}
use Rattle.desk_rules.specs.Rotations.{precedes}
use Rattle.desk_rules.specs.Cost.{cost}
use Rattle.desk_model.specs.Push.{rotation}
use Rattle.desk_model.specs.Refill.{has_leg}
use Rattle.desk_model.specs.Steps.{after_step, after_steps, after_move}
use Rattle.desk_model.specs.Tidy.{after_tidy}
use Rattle.desk_model.proofs.MoveLaws.{after_steps-valid}
use Rattle.desk_model.proofs.RotationOrder.{rotation-each, rotation-flown}
use Rattle.desk_model.proofs.TidyLaws.{after_tidy-rows}
use Rattle.plan_checks.specs.Amounts.{reservation_cost}
use Rattle.plan_checks.proofs.BalanceLaws.{cost_is}
use Rattle.board_kit.specs.Users.{uses}
use Rattle.near_moves.specs.Descent.{is_better}
use Rattle.near_moves.specs.LegMoves.{cancelling, dropping}
use Rattle.near_moves.specs.MoveParts.{flier, legs_from, plane, run}
use Rattle.near_moves.specs.Units.{MoveUnit}
use Rattle.near_moves.proofs.KeptLaws.{steps-append}
use Rattle.near_untouched.specs.Alone.{IsLeftAlone}
use Rattle.near_untouched.proofs.AloneLaws.{left-alone, flying-same, positions-same}
use Rattle.near_moves.specs.Out.{IsOut, dear}
use Rattle.near_priced.proofs.DearLaws.{dear-worse}
use Rattle.near_priced.specs.Priced.{paid_on}
use Rattle.near_dear.specs.Drops.{IsDearDrop, dropping_legs}
use Rattle.near_dear.specs.Owed.{owed_by}
use Rattle.near_dear.proofs.OwedSumLaws.{any-le, both-le, others-le, some_of}
use Rattle.near_dear.proofs.OwedLaws.{none-owed, tidy-owes}
use Rattle.near_dear.proofs.CancelLaws.{among-has, first_steps, flying-saves, gone-after}
use Rattle.near_dear.proofs.DropEndLaws.{alike, all-changed, positions-save}
use Rattle.near_dear.proofs.FlownLaws.{flown-within}
use Rattle.near_dear.proofs.DearRestoreLaws.{first-fit}

-- ---- who is touched

any-off : {X : Type 0} (test : X → Bool) (xs : List X) → list_any test xs ≡ false → All (λ x. test x ≡ false) xs
any-off test [] off = All-nil (λ x. test x ≡ false)
any-off test (x ∷ xs) off =
    let parts = or_parts (test x) (list_any test xs) off in
    All-cons (λ y. test y ≡ false) x xs parts.0 (any-off test xs parts.1)

-- whether somebody of reservation r is on one of some legs
abbrev touched : PlanRows → List ℕ → ℕ → Bool
touched P legs r = list_any (λ x. uses P x r) legs

untouched : (P : PlanRows) (legs : List ℕ) (r : ℕ) → touched P legs r ≡ false → All (λ x. uses P x r ≡ false) legs
untouched P legs r off = any-off (λ x. uses P x r) legs off

-- a leg of a path of the reservation is one that somebody of it is on
on-its-leg : (P : PlanRows) (r k i : ℕ) (d : Group) (e : Leg × Cabin) → k < length (groups_at P r) → i < length (get_or (groups_at P r) k d).path → uses P (get_or (get_or (groups_at P r) k d).path i e).0.0 r ≡ true
on-its-leg P r k i d e within short =
    let path = (get_or (groups_at P r) k d).path in
    let x = (get_or path i e).0.0 in
    list_any_at (λ (group : Group). has_leg x group.path) (groups_at P r) k d within
    (list_any_at (λ (pair : Leg × Cabin). eqb pair.0.0 x) path i e short (eq-eqb x x refl))

module _ (I : Situation) (P : PlanRows) (p : ℕ) (legs : List ℕ) (flown : All (λ x. flies P p x ≡ true) legs) where
  abbrev Q : PlanRows
  Q = after_steps I P (first_steps P p legs)

  abbrev F : PlanRows
  F = after_steps I Q (Tidy ∷ [])

  tidied : F ≡ after_tidy I Q
  unfolding after_step
  tidied = refl

  same-groups : (r : ℕ) → groups_at Q r ≡ groups_at P r
  same-groups r = ap (λ (groups : List (List Group)). get_or groups r []) (alike I P p legs flown).groups

  alone : IsPlanFor I P → (r : ℕ) → touched P (rotation I P p) r ≡ false → IsLeftAlone I P Q (Tidy ∷ []) r
  alone plan r off = record {
    paths = λ k d within i e short.
        let x = (get_or (get_or (groups_at P r) k d).path i e).0.0 in
        elim (all-changed I P p legs flown plan x) [
          | inl same ↦ same
          | inr has ↦ absurd (true≢false (sym (on-its-leg P r k i d e within short) ∙ All-contains (λ y. uses P y r ≡ false) (rotation I P p) x (untouched P (rotation I P p) r off) has))
        ];
    steps = refl;
  }

  -- what each reservation comes to cost
  each-costs : IsValid I → IsPlanFor I P → IsPlanFor I Q → least I P ≡ None → (x r : ℕ) → row_at Q x ≡ Cancelled → flies P p x ≡ true → r < reservations_of I → cond (not (touched P (rotation I P p) r)) (reservation_cost I P r) 0 + sum_by (owed_by I x r) (groups_at P r) ≤ reservation_cost I F r
  each-costs valid plan then feasible x r gone on lt =
      elim (cases_Bool (touched P (rotation I P p) r)) [
        | inl hit ↦
            let none : cond (not (touched P (rotation I P p) r)) (reservation_cost I P r) 0 ≡ 0 = rw hit refl in
            let owes = tidy-owes I Q r x lt gone in
            let same = ap (sum_by (owed_by I x r)) (same-groups r) in
            let is = ap (λ (R : PlanRows). reservation_cost I R r) tidied in
            omega (arith, none, owes, same, is)
        | inr off ↦
            let all : cond (not (touched P (rotation I P p) r)) (reservation_cost I P r) 0 ≡ reservation_cost I P r = rw off refl in
            let nobody : uses P x r ≡ false = All-contains (λ y. uses P y r ≡ false) (rotation I P p) x (untouched P (rotation I P p) r off) (rotation-each I P p x (flown-within I P p x plan on) on) in
            let none = none-owed I r x (groups_at P r) nobody in
            let stays = left-alone I P Q (Tidy ∷ []) r valid then feasible (alike I P p legs flown).groups lt (alone plan r off) in
            omega (arith, all, none, stays)
      ]

  -- so flying, the positions and all reservations together
  all-cost : IsValid I → IsPlanFor I P → IsPlanFor I Q → least I P ≡ None → IsDearDrop I P p legs → cost I P ≤ cost I F
  all-cost valid plan then feasible known =
      let x = known.leg in
      let n = reservations_of I in
      let own = rotation I P p in
      let was = reservation_cost I P in
      let on : flies P p x ≡ true = All-contains (λ y. flies P p y ≡ true) legs x flown known.has in
      let gone : row_at Q x ≡ Cancelled = gone-after I P p legs x (among-has legs x known.has) in
      let rows = ap (λ (R : PlanRows). R.rows) tidied ∙ after_tidy-rows I Q in
      let owed = both-le (λ r. cond (not (touched P own r)) (was r) 0) (λ r. sum_by (owed_by I x r) (groups_at P r)) (reservation_cost I F) n
      (λ r lt. each-costs valid plan then feasible x r gone on lt) in
      let others = others-le was n (touched P own) in
      let paid : some_of was n (touched P own) ≤ sum_by (paid_on I P) own = any-le was n (uses P) own in
      let less = known.dear in
      omega (
        arith,
        less,
        owed,
        others,
        paid,
        flying-saves I P p legs,
        positions-save I P p legs flown,
        flying-same I Q F rows,
        positions-same I Q F rows,
        cost_is I P,
        cost_is I F,
      )

-- ---- a whole move

pub drop-dear : (I : Situation) (P : PlanRows) (m : Move) (p : ℕ) (legs : List ℕ) → IsValid I → IsPlanFor I P → least I P ≡ None → Fits I m → m.steps ≡ dropping_legs P p legs → All (λ x. flies P p x ≡ true) legs → IsDearDrop I P p legs → cost I P ≤ cost I (after_move I P m)
unfolding after_move
drop-dear I P m p legs valid plan feasible fits is flown known =
    let first = first_steps P p legs in
    let others = Tidy ∷ [] in
    let split : m.steps ≡ first ++ others = is ∙ sym (append_assoc (map (cancelling P) legs) (Push (plane p) None ∷ []) others) in
    let fit : AllByRecursion (StepFits I) first = first-fit I first others (subst (AllByRecursion (StepFits I)) split (recursion_from_All (StepFits I) m.steps fits.each)) in
    let then = after_steps-valid I P first valid fit plan in
    let made : after_steps I P m.steps ≡ after_steps I (after_steps I P first) others = ap (after_steps I P) split ∙ steps-append I P first others in
    subst (λ (R : PlanRows). cost I P ≤ cost I R) (sym made) (all-cost I P p legs flown valid plan then feasible known)

-- ---- a run

run-flown : (I : Situation) (P : PlanRows) (x k : ℕ) → All (λ y. flies P (flier (row_at P x)) y ≡ true) (run I P x k)
unfolding legs_from
run-flown I P x k =
    let p = flier (row_at P x) in
    let on : ℕ → Type 0 = λ y. flies P p y ≡ true in
    All-take on k (legs_from I P x)
    (All-filter (λ y. eqb y x || precedes P x y) on (rotation I P p)
    (All-weaker (λ y. (y < legs_of I) × (flies P p y ≡ true)) on (λ y both. both.1) (rotation I P p) (rotation-flown I P p)))

pub run-dear : (I : Situation) (P : PlanRows) (m : Move) (x k : ℕ) → IsValid I → IsPlanFor I P → least I P ≡ None → Fits I m → m.steps ≡ dropping I P x k → IsDearDrop I P (flier (row_at P x)) (run I P x k) → cost I P ≤ cost I (after_move I P m)
run-dear I P m x k valid plan feasible fits is known =
    drop-dear I P m (flier (row_at P x)) (run I P x k) valid plan feasible fits is (run-flown I P x k) known

pub run-out : (I : Situation) (P : PlanRows) (m : Move) (u : MoveUnit) (x k : ℕ) → IsValid I → IsPlanFor I P → least I P ≡ None → Fits I m → m.steps ≡ dropping I P x k → IsDearDrop I P (flier (row_at P x)) (run I P x k) → IsOut I P u m
run-out I P m u x k valid plan feasible fits is known = dear (run-dear I P m x k valid plan feasible fits is known)

pub run-worse : (I : Situation) (P : PlanRows) (m : Move) (x k : ℕ) → IsValid I → IsPlanFor I P → least I P ≡ None → Fits I m → m.steps ≡ dropping I P x k → IsDearDrop I P (flier (row_at P x)) (run I P x k) → is_better I P m ≡ false
run-worse I P m x k valid plan feasible fits is known = dear-worse I P m (run-dear I P m x k valid plan feasible fits is known)
