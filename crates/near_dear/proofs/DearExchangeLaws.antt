-- An exchange that costs at least as much more as those pay on the legs of its aircraft makes the plan no cheaper, or breaks a rule of a leg of theirs.
use Rattle.std.proofs.Common.{◌≡◌, ◌≢◌, ℕ, zero, suc, ◌+◌, ◌<◌, ◌≤◌, ◌⊎◌, inl, inr, Bool, true, false, ◌&&◌, ◌||◌, eqb, List, [], ◌∷◌, ◌++◌, get_or, refl, sym, ap, subst, ◌∙◌, arith}
use Rattle.std.specs.Prelude.{None, sum_by}
use Rattle.std.specs.List.{AllByRecursion, list_all}
use Rattle.std.proofs.lemmas.Bool.{true≢false, cases_Bool, eq-eqb}
use Rattle.std.proofs.lemmas.List.Elements.{recursion_from_All}
use Rattle.plan_moves.specs.Fits.{Fits, StepFits}
use Rattle.plan_moves.specs.declared.moves.Move.{Move}
use Rattle.plan_moves.specs.declared.moves.Step.{Step}
use Rattle.plan_moves.specs.declared.moves.Step.TheVariants.{Set, Push, Swap, Rebook, Tidy, Refill}
use Rattle.desk_data.specs.declared.row.Row.{Row}
use Rattle.desk_data.specs.declared.row.Row.TheVariants.{Flown, Cancelled}
use Rattle.desk_data.specs.Situation.{Situation, legs_of}
use Rattle.desk_data.specs.PlanRows.{PlanRows, row_at}
use Rattle.desk_data.specs.Valid.{IsPlanFor, IsValid}
use Rattle.desk_rules.specs.Numbers.{each_below, implies}
use Rattle.desk_rules.specs.Least.{least}
use Rattle.desk_rules.specs.Rules.{keeps_c2, keeps_c4, keeps_c5, keeps_c6, keeps_c7}
use Rattle.desk_rules.specs.Words.{MeetsC5}
use Rattle.desk_rules.specs.Maintenance.{is_flown_by, flies}
use Rattle.desk_rules.specs.Cost.{cost, position_cost}
use Rattle.desk_rules.proofs.LeastLaws.{feasible-holds}
use Rattle.desk_rules.proofs.RotationLaws.{keeps_c5-holds, keeps_c5-from}
use Rattle.desk_rules.proofs.Tests.{each_below-holds, implies-holds}
use Rattle.desk_model.specs.Push.{rotation}
use Rattle.desk_model.specs.Steps.{after_steps, after_move}
use Rattle.desk_model.proofs.MoveLaws.{after_steps-valid}
use Rattle.near_moves.proofs.ChainLaws.{KeepsC5}
use Rattle.near_moves.proofs.KeptLaws.{steps-append}
use Rattle.near_moves.specs.RowRules.{keeps_rows}
use Rattle.near_moves.proofs.RowLaws.{steps-rows}
use Rattle.near_moves.specs.Same.{FliesSame, is_of}
use Rattle.near_moves.specs.Own.{keeps_own_rules, BreaksOwn}
use Rattle.near_moves.proofs.RuleLaws.{c5-same}
use Rattle.near_priced.specs.Unpaid.{is_either}
use Rattle.near_priced.specs.Priced.{paid_on, paid_booked, refilled, tidies}
use Rattle.near_priced.proofs.PricedLaws.{priced-dear}
use Rattle.near_dear.specs.Exchanged.{own_cost, exchanged_cost, positions_then}
use Rattle.near_dear.specs.Moves.{first_steps, IsExchange, IsInTime, exchanged}
use Rattle.near_dear.proofs.FlyLaws.{exchange-flying}
use Rattle.near_dear.proofs.HandLaws.{made-alike, all-changed, others-fly, positions-then}
use Rattle.near_dear.proofs.DearRestoreLaws.{first-fit}

-- ---- which of some numbers fails a test

record Fails (n : ℕ) (test : ℕ → Bool) : Type 0 where
  at : ℕ
  within : at < n
  fails : test at ≡ false

some-fails : (n : ℕ) (test : ℕ → Bool) → each_below n test ≡ false → Fails n test
some-fails zero test off = absurd (true≢false off)
some-fails (suc n) test off =
    elim (cases_Bool (test n)) [
      | inr fails ↦ record { at = n; within = omega arith; fails = fails }
      | inl passes ↦
          let fewer : each_below n test ≡ false = sym (and_true (each_below n test)) ∙ ap (λ (b : Bool). each_below n test && b) (sym passes) ∙ off in
          let more = some-fails n test fewer in
          record { at = more.at; within = (let lt = more.within in omega (arith, lt)); fails = more.fails }
    ]
  where
    and_true : (b : Bool) → (b && true) ≡ b
    and_true true = refl
    and_true false = refl

fails-parts : (a b : Bool) → implies a b ≡ false → (a ≡ true) × (b ≡ false)
fails-parts true true off = absurd (true≢false off)
fails-parts true false off = (refl, refl)
fails-parts false b off = absurd (true≢false off)

-- ---- by rows alone

bare : List Row → PlanRows
bare rows = record { rows = rows; groups = [] }

c5-rows : (I : Situation) (F Q : PlanRows) (x : ℕ) → F.rows ≡ Q.rows → keeps_c5 I F x ≡ keeps_c5 I Q x
unfolding keeps_c5 bare
c5-rows I F Q x same = ap (λ (rows : List Row). keeps_c5 I (bare rows) x) same

tidied-rows : (steps : List Step) → list_all tidies steps ≡ true → list_all keeps_rows steps ≡ true
tidied-rows [] all = refl
tidied-rows (Set leg was new ∷ steps) all = absurd cc
tidied-rows (Push plane after ∷ steps) all = absurd cc
tidied-rows (Swap first second at ∷ steps) all = absurd cc
tidied-rows (Rebook res path to count ∷ steps) all = absurd cc
tidied-rows (Tidy ∷ steps) all = tidied-rows steps all
tidied-rows (Refill leg ∷ steps) all = tidied-rows steps all

apart-first : (p q u : ℕ) → is_either p q u ≡ false → u ≢ p
apart-first p q u off same = true≢false (sym (ap (λ (b : Bool). b || eqb u q) (eq-eqb u p same)) ∙ off)

apart-second : (p q u : ℕ) → is_either p q u ≡ false → u ≢ q
apart-second p q u off same =
    elim (cases_Bool (eqb u p)) [
      | inl one ↦ true≢false (sym (ap (λ (b : Bool). b || eqb u q) one) ∙ off)
      | inr one ↦ true≢false (sym (ap (λ (b : Bool). b || eqb u q) one ∙ eq-eqb u q same) ∙ off)
    ]

module _ (I : Situation) (P : PlanRows) (m : Move) (p q at : ℕ) (pushes others : List Step) (is : IsExchange I m p q at pushes others) where
  abbrev Q : PlanRows
  Q = exchanged I P p q at pushes

  abbrev F : PlanRows
  F = after_move I P m

  rows-are : F.rows ≡ Q.rows
  unfolding after_move
  rows-are =
      ap (λ (steps : List Step). (after_steps I P steps).rows) is.steps
      ∙ ap (λ (R : PlanRows). R.rows) (steps-append I P (first_steps p q at pushes) others)
      ∙ steps-rows I Q others (tidied-rows others is.tidied)

  row-is : (x : ℕ) → row_at F x ≡ row_at Q x
  row-is x = ap (λ (rows : List Row). get_or rows x Cancelled) rows-are

  -- whether leg x keeps its rules, if one of the two flies it then
  abbrev keeps : ℕ → Bool
  keeps x = implies (is_of (is_either p q) (row_at F x)) (keeps_own_rules I F x)

  c5-kept : least I P ≡ None → ((x : ℕ) → x < legs_of I → keeps x ≡ true) → (x : ℕ) → x < legs_of I → (row : Row) → row_at Q x ≡ row → MeetsC5 I Q x
  c5-kept feasible all x lt Cancelled gone = λ u d flown air. absurd (cancelled-flown u d (sym gone ∙ flown))
    where
      cancelled-flown : (u d : ℕ) → Cancelled ≡ Flown (record { 0 = u }) (record { 0 = d }) → ⊥
      cancelled-flown u d same = true≢false (sym (eq-eqb u u refl) ∙ sym (ap (is_flown_by u) same))
  c5-kept feasible all x lt (Flown n d) flown =
      elim (cases_Bool (is_either p q n.0)) [
        | inl own ↦
            let of : is_of (is_either p q) (row_at F x) ≡ true = ap (is_of (is_either p q)) (row-is x ∙ flown) ∙ own in
            let rules : keeps_own_rules I F x ≡ true = implies-holds (is_of (is_either p q) (row_at F x)) (keeps_own_rules I F x) (all x lt) of in
            let c5 : keeps_c5 I F x ≡ true = first-of-five (keeps_c5 I F x) (keeps_c6 I F x) (keeps_c2 I F x) (keeps_c4 I F x) (keeps_c7 I F x) rules in
            keeps_c5-holds I Q x (sym (c5-rows I F Q x rows-are) ∙ c5)
        | inr other ↦
            let same : FliesSame Q P n.0 = others-fly I P p q at pushes is.pushed n.0 (apart-first p q n.0 other) (apart-second p q n.0 other) in
            let on : flies Q n.0 x ≡ true = ap (is_flown_by n.0) flown ∙ eq-eqb n.0 n.0 refl in
            let was : keeps_c5 I P x ≡ true = keeps_c5-from I P x ((feasible-holds I P feasible).c5 x lt) in
            keeps_c5-holds I Q x (c5-same I Q P n.0 same x on ∙ was)
      ]
    where
      first-of-five : (a b c d e : Bool) → (a && b && c && d && e) ≡ true → a ≡ true
      first-of-five true b c d e all = refl
      first-of-five false b c d e all = all

  -- where no leg of the two breaks a rule of its own
  kept-dear : IsValid I → IsPlanFor I P → least I P ≡ None → Fits I m → IsInTime I P p → IsInTime I P q → IsInTime I Q p → IsInTime I Q q → own_cost I P p q at + position_cost I P + sum_by (paid_on I P) (rotation I P p ++ rotation I P q) + sum_by (paid_booked I P) (refilled others) ≤ exchanged_cost I P p q at + positions_then I P p q at → ((x : ℕ) → x < legs_of I → keeps x ≡ true) → cost I P ≤ cost I F
  kept-dear valid plan feasible fits time_p time_q then_p then_q less all =
      let will : KeepsC5 I Q = λ x lt. c5-kept feasible all x lt (row_at Q x) refl in
      let first = first_steps p q at pushes in
      let fit : AllByRecursion (StepFits I) first = first-fit I first others (subst (AllByRecursion (StepFits I)) is.steps (recursion_from_All (StepFits I) m.steps fits.each)) in
      let flying = exchange-flying I P m p q at pushes others is in
      let positions = positions-then I P m p q at pushes others is feasible will fit.0.0 fit.0.1 time_p time_q then_p then_q in
      priced-dear I P m first others (rotation I P p ++ rotation I P q) valid (after_steps-valid I P first valid fit plan) feasible is.steps (made-alike I P p q at pushes is.pushed).groups is.tidied (all-changed I P p q at pushes is.pushed plan)
      (omega (arith, less, flying, positions))

  breaks-own : Fails (legs_of I) keeps → BreaksOwn (is_either p q) I P m
  breaks-own one =
      let parts = fails-parts (is_of (is_either p q) (row_at F one.at)) (keeps_own_rules I F one.at) one.fails in
      record { leg = one.at; within = one.within; own = parts.0; broken = parts.1 }

  known : IsValid I → IsPlanFor I P → least I P ≡ None → Fits I m → IsInTime I P p → IsInTime I P q → IsInTime I Q p → IsInTime I Q q → own_cost I P p q at + position_cost I P + sum_by (paid_on I P) (rotation I P p ++ rotation I P q) + sum_by (paid_booked I P) (refilled others) ≤ exchanged_cost I P p q at + positions_then I P p q at → (cost I P ≤ cost I F) ⊎ BreaksOwn (is_either p q) I P m
  known valid plan feasible fits time_p time_q then_p then_q less =
      elim (cases_Bool (each_below (legs_of I) keeps)) [
        | inl all ↦ inl (kept-dear valid plan feasible fits time_p time_q then_p then_q less (each_below-holds (legs_of I) keeps all))
        | inr off ↦ inr (breaks-own (some-fails (legs_of I) keeps off))
      ]

pub exchange-dear : (I : Situation) (P : PlanRows) (m : Move) (p q at : ℕ) (pushes others : List Step) → IsValid I → IsPlanFor I P → least I P ≡ None → Fits I m → IsExchange I m p q at pushes others → IsInTime I P p → IsInTime I P q → IsInTime I (exchanged I P p q at pushes) p → IsInTime I (exchanged I P p q at pushes) q → own_cost I P p q at + position_cost I P + sum_by (paid_on I P) (rotation I P p ++ rotation I P q) + sum_by (paid_booked I P) (refilled others) ≤ exchanged_cost I P p q at + positions_then I P p q at → (cost I P ≤ cost I (after_move I P m)) ⊎ BreaksOwn (is_either p q) I P m
exchange-dear I P m p q at pushes others valid plan feasible fits is time_p time_q then_p then_q less =
    known I P m p q at pushes others is valid plan feasible fits time_p time_q then_p then_q less
