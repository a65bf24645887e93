-- A move that was no cheaper at a plan is no cheaper at a later one, where what it hangs on is the same.
use Rattle.std.proofs.Common.{◌≡◌, ℕ, ◌+◌, ◌<◌, ◌≤◌, min, inl, inr, Bool, true, false, ◌&&◌, cond, eqb, leb, List, [], ◌∷◌, ◌++◌, length, get_or, refl, sym, ap, subst, ◌∙◌, arith}
use Rattle.std.specs.Prelude.{None, fold, sum_by}
use Rattle.std.specs.List.{All, Contains, list_all, list_any}
use Rattle.std.proofs.Math.Path.{fun_ext}
use Rattle.std.proofs.lemmas.Bool.{true≢false, cases_Bool, cases_eq, eqb-true, and_parts}
use Rattle.std.proofs.lemmas.List.{length-set}
use Rattle.std.proofs.lemmas.List.Elements.{All-head, All-tail, All-nil}
use Rattle.desk_units.specs.declared.numbers.Leg.{Leg}
use Rattle.desk_units.specs.declared.numbers.Cabin.{Cabin}
use Rattle.desk_data.specs.declared.row.Row.{Row}
use Rattle.desk_data.specs.declared.row.Group.{Group}
use Rattle.desk_data.specs.Booked.{booked_path}
use Rattle.desk_data.specs.Paths.{is_carried}
use Rattle.desk_data.specs.Situation.{Situation, reservations_of, bound}
use Rattle.desk_data.specs.PlanRows.{PlanRows, row_at, groups_at, with_groups}
use Rattle.desk_data.specs.Valid.{IsPlanFor, IsValid}
use Rattle.plan_moves.specs.declared.moves.Move.{Move}
use Rattle.plan_moves.specs.declared.moves.Step.{Step}
use Rattle.plan_moves.specs.declared.moves.Step.TheVariants.{Set, Push, Swap, Rebook, Tidy, Refill}
use Rattle.desk_rules.specs.Numbers.{numbers}
use Rattle.desk_rules.specs.Least.{least}
use Rattle.desk_rules.specs.Cost.{cost, operating_cost, position_cost}
use Rattle.desk_rules.specs.Passengers.{aboard, aboard_of}
use Rattle.desk_rules.specs.Words.{IsFeasible}
use Rattle.desk_rules.proofs.LeastLaws.{feasible-holds}
use Rattle.desk_model.specs.Choices.{greatest_within}
use Rattle.desk_model.specs.Rebook.{count_on, groups_after_rebook, after_rebook}
use Rattle.desk_model.specs.Tidy.{is_fit_path, groups_after_tidy, after_tidy}
use Rattle.desk_model.specs.Refill.{seats_of, has_seats_for, has_leg, may_refill, refill_count, is_refilled, after_refilling, after_refill}
use Rattle.desk_model.specs.Steps.{after_step, after_steps, after_move}
use Rattle.desk_model.proofs.GroupPlans.{with_groups-same, with_groups-other}
use Rattle.desk_model.proofs.TidyLaws.{after_tidy-at, after_tidy-valid}
use Rattle.desk_model.proofs.RefillLaws.{after_refill-valid, has_leg-carried}
use Rattle.plan_checks.specs.Amounts.{group_cost, reservation_cost}
use Rattle.plan_checks.proofs.BalanceLaws.{cost_is}
use Rattle.step_laws.proofs.SumLaws.{sum_lists}
use Rattle.near_moves.proofs.ListLaws.{numbers_below}
use Rattle.near_moves.proofs.KeptLaws.{steps-append}
use Rattle.near_memory.specs.Untouched.{HasSameRows}
use Rattle.near_memory.proofs.SameRows.{HaveSameRows, groups-same, rebooked-same}
use Rattle.near_untouched.proofs.AloneLaws.{tidy-same, flying-same, positions-same}
use Rattle.near_moves.specs.Same.{AgreeOn}
use Rattle.near_moves.specs.Steps.{is_among, is_tidying}
use Rattle.near_moves.specs.Room.{HaveSameRoom, AreMadeAlike}
use Rattle.near_moves.proofs.FrameLaws.{steps-alike, start-alike}
use Rattle.near_moves.proofs.OwnLaws.{agree-rows}
use Rattle.near_untouched.specs.Dearer.{IsSameReservation, IsOffLegs, is_booked_on, HasSameSeats, HaveSamePassengers, HaveSamePositions}
use Rattle.near_untouched.proofs.SameLaws.{sum-balance, two-balance, flying-balance, positions-balance, fit-same, tidied-same, tidied-rows}

-- a plan with the groups of another one
abbrev with_passengers : PlanRows → PlanRows → PlanRows
with_passengers S P = record { rows = S.rows; groups = P.groups }

-- plans in which passengers were moved: their rows are made alike, the reservations that are touched are the same in both, and the others as they were
record AreTidied (planes legs touched : ℕ → Bool) (I : Situation) (P Q S T : PlanRows) : Type 0 where
  many : length S.groups ≡ reservations_of I
  many_later : length T.groups ≡ reservations_of I
  made : AreMadeAlike planes legs P Q (with_passengers S P) (with_passengers T Q)
  same : (r : ℕ) → r < reservations_of I → touched r ≡ true → groups_at S r ≡ groups_at T r
  rows : (r : ℕ) → r < reservations_of I → touched r ≡ true → HaveSameRows S T (groups_at S r)
  before : (r : ℕ) → r < reservations_of I → touched r ≡ false → groups_at S r ≡ groups_at P r
  now : (r : ℕ) → r < reservations_of I → touched r ≡ false → groups_at T r ≡ groups_at Q r

list-all-same : (f g : Leg × Cabin → Bool) (path : List (Leg × Cabin)) → All (λ pair. f pair ≡ g pair) path → list_all f path ≡ list_all g path
list-all-same f g [] same = refl
list-all-same f g (pair ∷ path) same =
    let Same : Leg × Cabin → Type 0 = λ p. f p ≡ g p in
    ap (λ (b : Bool). b && list_all f path) (All-head Same pair path same) ∙ ap (λ (b : Bool). g pair && b) (list-all-same f g path (All-tail Same pair path same))

any-same : (x : ℕ) (some : ℕ → Bool) (path : List (Leg × Cabin)) → some x ≡ true → has_leg x path ≡ true → list_any (λ pair. some pair.0.0) path ≡ true
any-same x some [] is has = absurd (true≢false (sym has))
any-same x some (pair ∷ path) is has =
    elim (cases_Bool (eqb pair.0.0 x)) [
      | inl here ↦
          let on : some pair.0.0 ≡ true = ap some (eqb-true pair.0.0 x here) ∙ is in
          rw on refl
      | inr other ↦
          let more : has_leg x path ≡ true = rw other at has in
          elim (cases_Bool (some pair.0.0)) [
            | inl on ↦ rw on refl
            | inr off ↦ rw off (any-same x some path is more)
          ]
    ]

module _ (planes legs refilled touched : ℕ → Bool) (I : Situation) (P Q : PlanRows) (start : AgreeOn planes legs P Q) (passengers : HaveSamePassengers legs refilled touched I P Q) where
  -- a path that has the same rows before has them in plans that are made alike
  path-rows : (S T : PlanRows) → AreMadeAlike planes legs P Q (with_passengers S P) (with_passengers T Q) → (path : List (Leg × Cabin)) → HasSameRows P Q path → HasSameRows S T path
  path-rows S T made path same k d lt =
      let x = (get_or path k d).0.0 in
      elim (cases_Bool (legs x)) [
        | inl here ↦ made.agree.same x here
        | inr off ↦ made.first x off ∙ same k d lt ∙ sym (made.second x off)
      ]

  -- ---- seats

  aboard-is : (S : PlanRows) (x : ℕ) (c : Cabin) → length S.groups ≡ reservations_of I → aboard S x c ≡ sum_by (λ r. aboard_of x c (groups_at S r)) (numbers (reservations_of I))
  unfolding aboard
  aboard-is S x c many = sum_lists (aboard_of x c) S.groups ∙ ap (λ (n : ℕ). sum_by (λ r. aboard_of x c (groups_at S r)) (numbers n)) many

  aboard-same : (S T : PlanRows) → length P.groups ≡ reservations_of I → length Q.groups ≡ reservations_of I → AreTidied planes legs touched I P Q S T → (x : ℕ) (c : Cabin) → aboard P x c ≡ aboard Q x c → aboard S x c ≡ aboard T x c
  aboard-same S T many later is x c same =
      let on : PlanRows → ℕ → ℕ = λ R r. aboard_of x c (groups_at R r) in
      let sums = sum-balance (on S) (on Q) (on T) (on P) (reservations_of I)
      (λ r lt. elim (cases_Bool (touched r)) [
        | inl here ↦ two-balance _ _ _ _ (inl (ap (aboard_of x c) (is.same r lt here), sym (ap (aboard_of x c) (passengers.same r lt here).groups)))
        | inr off ↦ two-balance _ _ _ _ (inr (ap (aboard_of x c) (is.before r lt off), sym (ap (aboard_of x c) (is.now r lt off))))
      ]) in
      omega (arith, sums, same, aboard-is S x c is.many, aboard-is T x c is.many_later, aboard-is P x c many, aboard-is Q x c later)

  -- ---- one reservation is refilled

  module _ (S T : PlanRows) (many : length P.groups ≡ reservations_of I) (later : length Q.groups ≡ reservations_of I) (is : AreTidied planes legs touched I P Q S T) (r : ℕ) (lt : r < reservations_of I) (on : is_booked_on refilled I r ≡ true) where
    abbrev path : List (Leg × Cabin)
    path = booked_path I r

    here : touched r ≡ true
    here = passengers.booked r lt on

    booked-rows : HasSameRows S T path
    booked-rows = path-rows S T is.made path (λ k d within. (passengers.seats r lt on k d within).0)

    seats-same : (n : ℕ) → has_seats_for I S path n ≡ has_seats_for I T path n
    unfolding has_seats_for
    seats-same n =
        list-all-same (λ pair. leb (aboard S pair.0.0 pair.1 + n) (seats_of I pair.1 (row_at S pair.0.0))) (λ pair. leb (aboard T pair.0.0 pair.1 + n) (seats_of I pair.1 (row_at T pair.0.0))) path
        (λ k d within.
        let pair = get_or path k d in
        ap (λ (m : ℕ). leb (m + n) (seats_of I pair.1 (row_at S pair.0.0))) (aboard-same S T many later is pair.0.0 pair.1 ((passengers.seats r lt on k d within).1 pair.1))
        ∙ ap (λ (row : Row). leb (aboard T pair.0.0 pair.1 + n) (seats_of I pair.1 row)) (booked-rows k d within))

    may-same : (n : ℕ) → may_refill I S r n ≡ may_refill I T r n
    unfolding may_refill
    may-same n =
        ap (λ (b : Bool). b && bound I r (groups_after_rebook [] path n (groups_at S r)) path) (seats-same n)
        ∙ ap (λ (groups : List Group). has_seats_for I T path n && bound I r (groups_after_rebook [] path n groups) path) (is.same r lt here)

    count-same : refill_count I S r ≡ refill_count I T r
    unfolding refill_count
    count-same =
        ap (λ (groups : List Group). greatest_within (count_on [] groups) (may_refill I S r)) (is.same r lt here)
        ∙ ap (greatest_within (count_on [] (groups_at T r))) (fun_ext may-same)

    -- the groups that it has then
    refilled_groups : PlanRows → List Group
    refilled_groups R = groups_after_rebook [] path (min (refill_count I R r) (count_on [] (groups_at R r))) (groups_at R r)

    rebook-is : (R : PlanRows) → after_rebook R r [] path (refill_count I R r) ≡ with_groups R r (refilled_groups R)
    unfolding after_rebook refilled_groups
    rebook-is R = refl

    refilled-same : refilled_groups S ≡ refilled_groups T
    unfolding refilled_groups
    refilled-same =
        ap (λ (n : ℕ). groups_after_rebook [] path (min n (count_on [] (groups_at S r))) (groups_at S r)) count-same
        ∙ ap (λ (groups : List Group). groups_after_rebook [] path (min (refill_count I T r) (count_on [] groups)) groups) (is.same r lt here)

    refilled-rows_same : HaveSameRows S T (refilled_groups S)
    unfolding refilled_groups
    refilled-rows_same =
        rebooked-same S T [] path (min (refill_count I S r) (count_on [] (groups_at S r))) (groups_at S r) (All-nil (λ (pair : Leg × Cabin). row_at S pair.0.0 ≡ row_at T pair.0.0)) booked-rows (is.rows r lt here)

    with-tidied : AreTidied planes legs touched I P Q (with_groups S r (refilled_groups S)) (with_groups T r (refilled_groups T))
    with-tidied = record {
      many = length-groups S (refilled_groups S) is.many;
      many_later = length-groups T (refilled_groups T) is.many_later;
      made = is.made;
      same = λ s within touches. elim (cases_eq s r) [
        | inl this ↦ subst (λ (k : ℕ). groups_at (with_groups S r (refilled_groups S)) k ≡ groups_at (with_groups T r (refilled_groups T)) k) (sym this) (own-first ∙ refilled-same ∙ sym own-second)
        | inr other ↦ with_groups-other S r s (refilled_groups S) other ∙ is.same s within touches ∙ sym (with_groups-other T r s (refilled_groups T) other)
      ];
      rows = λ s within touches. elim (cases_eq s r) [
        | inl this ↦ subst (λ (k : ℕ). HaveSameRows S T (groups_at (with_groups S r (refilled_groups S)) k)) (sym this) (subst (HaveSameRows S T) (sym own-first) refilled-rows_same)
        | inr other ↦ subst (HaveSameRows S T) (sym (with_groups-other S r s (refilled_groups S) other)) (is.rows s within touches)
      ];
      before = λ s within off. with_groups-other S r s (refilled_groups S) (λ this. true≢false (sym here ∙ ap touched (sym this) ∙ off)) ∙ is.before s within off;
      now = λ s within off. with_groups-other T r s (refilled_groups T) (λ this. true≢false (sym here ∙ ap touched (sym this) ∙ off)) ∙ is.now s within off;
    }
      where
        own-first : groups_at (with_groups S r (refilled_groups S)) r ≡ refilled_groups S
        own-first = with_groups-same S r (refilled_groups S) (let m = is.many in omega (arith, m, lt))

        own-second : groups_at (with_groups T r (refilled_groups T)) r ≡ refilled_groups T
        own-second = with_groups-same T r (refilled_groups T) (let m = is.many_later in omega (arith, m, lt))

        length-groups : (R : PlanRows) (groups : List Group) → length R.groups ≡ reservations_of I → length (with_groups R r groups).groups ≡ reservations_of I
        length-groups R groups m = length-set R.groups r groups ∙ m

  -- ---- a Refill

  booked-by : (x r : ℕ) → refilled x ≡ true → has_leg x (booked_path I r) ≡ true → is_booked_on refilled I r ≡ true
  booked-by x r is has = any-same x refilled (booked_path I r) is has

  refilling-tidied : (S T : PlanRows) (x r : ℕ) → length P.groups ≡ reservations_of I → length Q.groups ≡ reservations_of I → refilled x ≡ true → r < reservations_of I → AreTidied planes legs touched I P Q S T → AreTidied planes legs touched I P Q (after_refilling I x S r) (after_refilling I x T r)
  refilling-tidied S T x r many later is lt tidied =
      elim (cases_Bool (has_leg x (booked_path I r))) [
        | inr off ↦
            let first : is_refilled I S x r ≡ false = ap (λ (b : Bool). b && is_fit_path I S r (booked_path I r)) off in
            let second : is_refilled I T x r ≡ false = ap (λ (b : Bool). b && is_fit_path I T r (booked_path I r)) off in
            rw (first, second) tidied
        | inl has ↦
            let on = booked-by x r is has in
            let fit : is_fit_path I S r (booked_path I r) ≡ is_fit_path I T r (booked_path I r) =
            fit-same I S T r (booked_path I r) (has_leg-carried x (booked_path I r) has) (booked-rows S T many later tidied r lt on) (tidied.same r lt (passengers.booked r lt on)) in
            let both : is_refilled I S x r ≡ is_refilled I T x r = ap (λ (b : Bool). has_leg x (booked_path I r) && b) fit in
            elim (cases_Bool (is_refilled I T x r)) [
              | inr stays ↦ rw (both ∙ stays, stays) tidied
              | inl fills ↦
                  rw (both ∙ fills, fills, rebook-is S T many later tidied r lt on S, rebook-is S T many later tidied r lt on T)
                  (with-tidied S T many later tidied r lt on)
            ]
      ]

  all-refilled : (S T : PlanRows) (x : ℕ) (rs : List ℕ) → length P.groups ≡ reservations_of I → length Q.groups ≡ reservations_of I → refilled x ≡ true → All (λ r. r < reservations_of I) rs → AreTidied planes legs touched I P Q S T → AreTidied planes legs touched I P Q (fold (after_refilling I x) S rs) (fold (after_refilling I x) T rs)
  all-refilled S T x [] many later is within tidied = tidied
  all-refilled S T x (r ∷ rs) many later is within tidied =
      let Within : ℕ → Type 0 = λ s. s < reservations_of I in
      all-refilled (after_refilling I x S r) (after_refilling I x T r) x rs many later is (All-tail Within r rs within)
      (refilling-tidied S T x r many later is (All-head Within r rs within) tidied)

  -- ---- a Tidy

  kept-rows : (S : PlanRows) (r : ℕ) → ((y : ℕ) → legs y ≡ false → row_at S y ≡ row_at P y) → IsOffLegs legs P r → All (λ group. All (λ pair. row_at P pair.0.0 ≡ row_at S pair.0.0) group.path) (groups_at P r)
  kept-rows S r same off = λ k d lt i e within. sym (same (get_or (get_or (groups_at P r) k d).path i e).0.0 (off k d lt i e within))

  tidy-tidied : (S T : PlanRows) → IsFeasible I P → IsFeasible I Q → IsPlanFor I S → IsPlanFor I T → AreTidied planes legs touched I P Q S T → AreTidied planes legs touched I P Q (after_tidy I S) (after_tidy I T)
  unfolding after_tidy
  tidy-tidied S T feasible feasible_later plan later is = record {
    many = (after_tidy-valid I S plan).res;
    many_later = (after_tidy-valid I T later).res;
    made = is.made;
    same = λ r lt touches. after_tidy-at I S r lt ∙ tidied-same I S T r (is.same r lt touches) (is.rows r lt touches) ∙ sym (after_tidy-at I T r lt);
    rows = λ r lt touches. subst (HaveSameRows S T) (sym (after_tidy-at I S r lt)) (tidied-rows I S T r S (is.rows r lt touches));
    before = λ r lt off. tidy-same I P S r lt feasible (is.before r lt off) (kept-rows S r is.made.first (passengers.before r lt off)) plan;
    now = λ r lt off. tidy-same I Q T r lt feasible_later (is.now r lt off) (λ k d within i e short. sym (is.made.second (get_or (get_or (groups_at Q r) k d).path i e).0.0 (passengers.now r lt off k d within i e short))) later;
  }

  -- ---- all of them

  module _ (valid : IsValid I) (plan : IsPlanFor I P) (plan_later : IsPlanFor I Q) (feasible : IsFeasible I P) (feasible_later : IsFeasible I Q) where
    tidying-tidied : (S T : PlanRows) (steps : List Step) → list_all (is_tidying refilled) steps ≡ true → IsPlanFor I S → IsPlanFor I T → AreTidied planes legs touched I P Q S T → AreTidied planes legs touched I P Q (after_steps I S steps) (after_steps I T steps)
    unfolding after_step after_refill
    tidying-tidied S T [] tidying is later tidied = tidied
    tidying-tidied S T (Set leg was new ∷ steps) tidying is later tidied = absurd cc
    tidying-tidied S T (Push plane after ∷ steps) tidying is later tidied = absurd cc
    tidying-tidied S T (Swap first second at ∷ steps) tidying is later tidied = absurd cc
    tidying-tidied S T (Rebook res path to count ∷ steps) tidying is later tidied = absurd cc
    tidying-tidied S T (Tidy ∷ steps) tidying is later tidied =
        tidying-tidied (after_tidy I S) (after_tidy I T) steps tidying (after_tidy-valid I S is) (after_tidy-valid I T later) (tidy-tidied S T feasible feasible_later is later tidied)
    tidying-tidied S T (Refill leg ∷ steps) tidying is later tidied =
        let parts = and_parts (refilled leg.0) (list_all (is_tidying refilled) steps) tidying in
        tidying-tidied (after_refill I S leg.0) (after_refill I T leg.0) steps parts.1 (after_refill-valid I S leg.0 valid is) (after_refill-valid I T leg.0 valid later)
        (all-refilled S T leg.0 (numbers (reservations_of I)) plan.res plan_later.res parts.0 (numbers_below (reservations_of I)) tidied)

    -- what everyone costs
    passengers-balance : (F G : PlanRows) → AreTidied planes legs touched I P Q F G → sum_by (reservation_cost I F) (numbers (reservations_of I)) + sum_by (reservation_cost I Q) (numbers (reservations_of I)) ≡ sum_by (reservation_cost I G) (numbers (reservations_of I)) + sum_by (reservation_cost I P) (numbers (reservations_of I))
    unfolding reservation_cost
    passengers-balance F G is =
        sum-balance (reservation_cost I F) (reservation_cost I Q) (reservation_cost I G) (reservation_cost I P) (reservations_of I)
        (λ r lt. elim (cases_Bool (touched r)) [
          | inl here ↦
              let was = passengers.same r lt here in
              let first : reservation_cost I F r ≡ reservation_cost I G r = groups-same I F G r (groups_at F r) (is.rows r lt here) ∙ ap (sum_by (group_cost I G r)) (is.same r lt here) in
              let second : reservation_cost I P r ≡ reservation_cost I Q r = groups-same I P Q r (groups_at P r) was.paths ∙ ap (sum_by (group_cost I Q r)) was.groups in
              two-balance _ _ _ _ (inl (first, sym second))
          | inr off ↦
              let first : reservation_cost I F r ≡ reservation_cost I P r = ap (sum_by (group_cost I F r)) (is.before r lt off) ∙ sym (groups-same I P F r (groups_at P r) (kept-rows F r is.made.first (passengers.before r lt off))) in
              let second : reservation_cost I G r ≡ reservation_cost I Q r =
              ap (sum_by (group_cost I G r)) (is.now r lt off)
              ∙ sym (groups-same I Q G r (groups_at Q r) (λ k d within i e short. sym (is.made.second (get_or (get_or (groups_at Q r) k d).path i e).0.0 (passengers.now r lt off k d within i e short)))) in
              two-balance _ _ _ _ (inr (first, sym second))
        ])

    started : (S T : PlanRows) → AreMadeAlike planes legs P Q S T → AreTidied planes legs touched I P Q S T
    started S T alike = record {
      many = ap length alike.groups ∙ plan.res;
      many_later = ap length alike.later_groups ∙ plan_later.res;
      made = made_with;
      same = λ r lt touches. own r ∙ (passengers.same r lt touches).groups ∙ sym (own_later r);
      rows = λ r lt touches. subst (HaveSameRows S T) (sym (own r)) (λ k d within. path-rows S T made_with (get_or (groups_at P r) k d).path ((passengers.same r lt touches).paths k d within));
      before = λ r lt off. own r;
      now = λ r lt off. own_later r;
    }
      where
        made_with : AreMadeAlike planes legs P Q (with_passengers S P) (with_passengers T Q)
        made_with = record {
          agree = agree-rows planes legs (with_passengers S P) (with_passengers T Q) S T refl refl alike.agree;
          first = alike.first;
          second = alike.second;
          groups = refl;
          later_groups = refl;
        }

        own : (r : ℕ) → groups_at S r ≡ groups_at P r
        own r = ap (λ (groups : List (List Group)). get_or groups r []) alike.groups

        own_later : (r : ℕ) → groups_at T r ≡ groups_at Q r
        own_later r = ap (λ (groups : List (List Group)). get_or groups r []) alike.later_groups

    made-balance : (S T : PlanRows) (others : List Step) → HaveSamePositions planes I P Q → list_all (is_tidying refilled) others ≡ true → IsPlanFor I S → IsPlanFor I T → AreMadeAlike planes legs P Q S T → cost I (after_steps I S others) + cost I Q ≡ cost I (after_steps I T others) + cost I P
    made-balance S T others positions tidying is later alike =
        let F = after_steps I S others in
        let G = after_steps I T others in
        let tidied : AreTidied planes legs touched I P Q F G = tidying-tidied S T others tidying is later (started S T alike) in
        let made = tidied.made in
        let flying = flying-balance planes legs I P Q (with_passengers F P) (with_passengers G Q) start made in
        let places = positions-balance planes legs I P Q (with_passengers F P) (with_passengers G Q) start made positions in
        let people = passengers-balance F G tidied in
        omega (
          arith,
          flying,
          places,
          people,
          cost_is I F,
          cost_is I G,
          cost_is I P,
          cost_is I Q,
          flying-same I F (with_passengers F P) refl,
          flying-same I G (with_passengers G Q) refl,
          positions-same I F (with_passengers F P) refl,
          positions-same I G (with_passengers G Q) refl,
        )

    move-balance : (m : Move) (first others : List Step) → HaveSameRoom legs I P Q → HaveSamePositions planes I P Q → m.steps ≡ first ++ others → list_all (is_among planes legs) first ≡ true → list_all (is_tidying refilled) others ≡ true → IsPlanFor I (after_steps I P first) → IsPlanFor I (after_steps I Q first) → cost I (after_move I P m) + cost I Q ≡ cost I (after_move I Q m) + cost I P
    unfolding after_move
    move-balance m first others room positions steps among tidying is later =
        let alike = steps-alike planes legs I P Q P Q first room among (start-alike planes legs P Q start) in
        let one : after_steps I P m.steps ≡ after_steps I (after_steps I P first) others = ap (after_steps I P) steps ∙ steps-append I P first others in
        let two : after_steps I Q m.steps ≡ after_steps I (after_steps I Q first) others = ap (after_steps I Q) steps ∙ steps-append I Q first others in
        ap (λ (R : PlanRows). cost I R + cost I Q) one
        ∙ made-balance (after_steps I P first) (after_steps I Q first) others positions tidying is later alike
        ∙ sym (ap (λ (R : PlanRows). cost I R + cost I P) two)

pub dearer-stays : (planes legs refilled touched : ℕ → Bool) (I : Situation) (P Q : PlanRows) (m : Move) (first others : List Step) → IsValid I → IsPlanFor I P → IsPlanFor I Q → least I P ≡ None → least I Q ≡ None → AgreeOn planes legs P Q → HaveSameRoom legs I P Q → HaveSamePassengers legs refilled touched I P Q → HaveSamePositions planes I P Q → m.steps ≡ first ++ others → list_all (is_among planes legs) first ≡ true → list_all (is_tidying refilled) others ≡ true → IsPlanFor I (after_steps I P first) → IsPlanFor I (after_steps I Q first) → cost I (after_move I P m) + cost I Q ≡ cost I (after_move I Q m) + cost I P
dearer-stays planes legs refilled touched I P Q m first others valid plan later feasible feasible_later start room passengers positions steps among tidying is is_later =
    move-balance planes legs refilled touched I P Q start passengers valid plan later (feasible-holds I P feasible) (feasible-holds I Q feasible_later) m first others room positions steps among tidying is is_later
