-- What Refill does.
use Rattle.std.proofs.Common.{◌≡◌, ℕ, zero, suc, ◌+◌, ◌-◌, ◌<◌, ◌≤◌, ◌⊎◌, inl, inr, Bool, true, false, cond, ◌&&◌, leb, eqb, List, [], ◌∷◌, length, get_or, refl, sym, ap, subst, ◌∙◌, arith}
use Rattle.std.specs.Prelude.{fold}
use Rattle.std.specs.List.{All, AllByRecursion, list_all}
use Rattle.std.specs.Ordering.{is_eq}
use Rattle.std.proofs.lemmas.Bool.{true≢false, cases_Bool, and_parts, and_from, eq-eqb, leb-true, leb-false, le-leb, lt-leb}
use Rattle.std.proofs.lemmas.List.Elements.{All-nil, All-get_or, All-weaker, recursion_from_All}
use Rattle.std.proofs.lemmas.List.Folds.{list_any_at}
use Rattle.std.proofs.lemmas.List.Sums.{fold_push, sum_by-set, AllPass-from_list_all, list_all-from_AllPass}
use Rattle.desk_units.specs.declared.numbers.Leg.{Leg}
use Rattle.desk_units.specs.declared.numbers.Cabin.{Cabin}
use Rattle.desk_units.specs.Ranks.{cabin_rank}
use Rattle.desk_data.specs.declared.row.Row.{Row}
use Rattle.desk_data.specs.declared.row.Group.{Group}
use Rattle.desk_data.specs.Begun.{KeepsToLeft}
use Rattle.desk_data.specs.Paths.{is_carried}
use Rattle.desk_data.specs.Situation.{Situation, legs_of, reservations_of, res_at, no_res, gone, carried_gone, tallied, begins_as_begun, bound}
use Rattle.desk_data.specs.PlanRows.{PlanRows, row_at, groups_at, with_groups, same_path}
use Rattle.desk_data.specs.Valid.{IsValid, IsReservation, IsPlanFor}
use Rattle.desk_rules.specs.Numbers.{numbers}
use Rattle.desk_data.specs.Booked.{booked_path}
use Rattle.desk_rules.specs.Passengers.{aboard, aboard_of, takes}
use Rattle.desk_data.proofs.BoundLaws.{same_pair-holds, bound-holds}
use Rattle.desk_data.proofs.PathOrder.{path_itself}
use Rattle.desk_rules.specs.Carriage.{is_good_path, is_in_time_path}
use Rattle.desk_model.specs.Choices.{IsGreatestWithin}
use Rattle.desk_model.specs.Rebook.{passengers_on, count_on, groups_after_rebook, after_rebook}
use Rattle.desk_model.specs.Tidy.{is_fit_path}
use Rattle.desk_model.specs.Refill.{seats_of, has_seats_for, HasSeatsFor, has_leg, may_refill, refill_count, is_refilled, after_refilling, after_refill, RefillsReservation, IsNotOverfilled}
use Rattle.desk_model.proofs.ChoiceLaws.{greatest_within-holds}
use Rattle.desk_model.proofs.RebookLaws.{groups_after_rebook-adds}
use Rattle.desk_model.proofs.GroupPlans.{with_groups-same, with_groups-other, after_rebook-valid}
use Rattle.desk_model.proofs.TidyLaws.{good_path-groups, in_time-groups}

-- ---- seats

agree_all : (p q : Leg × Cabin → Bool) (path : List (Leg × Cabin)) → AllByRecursion (λ (pair : Leg × Cabin). p pair ≡ q pair) path → list_all p path ≡ list_all q path
agree_all p q [] all = refl
agree_all p q (pair ∷ path) all = rw (all.0, agree_all p q path all.1) refl

-- a path has each of its pairs
takes_each : (path : List (Leg × Cabin)) → All (λ (pair : Leg × Cabin). takes pair.0.0 pair.1 path ≡ true) path
takes_each path k d within =
    let pair = get_or path k d in
    list_any_at (λ (other : Leg × Cabin). eqb other.0.0 pair.0.0 && eqb (cabin_rank other.1) (cabin_rank pair.1)) path k d within
    (and_from (eqb pair.0.0 pair.0.0) (eqb (cabin_rank pair.1) (cabin_rank pair.1)) (eq-eqb pair.0.0 pair.0.0 refl) (eq-eqb (cabin_rank pair.1) (cabin_rank pair.1) refl))

pub has_seats_for-holds : (I : Situation) (P : PlanRows) (path : List (Leg × Cabin)) (n : ℕ) → has_seats_for I P path n ≡ true → HasSeatsFor I P path n
unfolding has_seats_for
has_seats_for-holds I P path n has =
    let test : Leg × Cabin → Bool = λ pair. leb (aboard P pair.0.0 pair.1 + n) (seats_of I pair.1 (row_at P pair.0.0)) in
    All-weaker (λ (pair : Leg × Cabin). test pair ≡ true) (λ (pair : Leg × Cabin). aboard P pair.0.0 pair.1 + n ≤ seats_of I pair.1 (row_at P pair.0.0))
    (λ pair fits. leb-true (aboard P pair.0.0 pair.1 + n) (seats_of I pair.1 (row_at P pair.0.0)) fits) path (AllPass-from_list_all test path has)

pub has_seats_for-from : (I : Situation) (P : PlanRows) (path : List (Leg × Cabin)) (n : ℕ) → HasSeatsFor I P path n → has_seats_for I P path n ≡ true
unfolding has_seats_for
has_seats_for-from I P path n has =
    let test : Leg × Cabin → Bool = λ pair. leb (aboard P pair.0.0 pair.1 + n) (seats_of I pair.1 (row_at P pair.0.0)) in
    list_all-from_AllPass test path
    (All-weaker (λ (pair : Leg × Cabin). aboard P pair.0.0 pair.1 + n ≤ seats_of I pair.1 (row_at P pair.0.0)) (λ (pair : Leg × Cabin). test pair ≡ true)
    (λ pair fits. le-leb (aboard P pair.0.0 pair.1 + n) (seats_of I pair.1 (row_at P pair.0.0)) fits) path has)

-- where more passengers are aboard, a seat that was lacking is lacking
seats-more : (I : Situation) (Q R : PlanRows) (path : List (Leg × Cabin)) (n : ℕ) → R.rows ≡ Q.rows → ((y : ℕ) (c : Cabin) → aboard Q y c ≤ aboard R y c) → has_seats_for I Q path n ≡ false → has_seats_for I R path n ≡ false
unfolding has_seats_for
seats-more I Q R path n rows more lacks =
    let before : Leg × Cabin → Bool = λ pair. leb (aboard Q pair.0.0 pair.1 + n) (seats_of I pair.1 (row_at Q pair.0.0)) in
    let after : Leg × Cabin → Bool = λ pair. leb (aboard R pair.0.0 pair.1 + n) (seats_of I pair.1 (row_at R pair.0.0)) in
    elim (cases_Bool (list_all after path)) [
      | inl has ↦
          let all = All-weaker (λ (pair : Leg × Cabin). after pair ≡ true) (λ (pair : Leg × Cabin). before pair ≡ true)
          (λ pair fits.
          let seats : seats_of I pair.1 (row_at R pair.0.0) ≡ seats_of I pair.1 (row_at Q pair.0.0) = ap (λ (rows : List Row). let S : PlanRows = record { rows = rows; groups = [] } in seats_of I pair.1 (row_at S pair.0.0)) rows in
          let le : aboard R pair.0.0 pair.1 + n ≤ seats_of I pair.1 (row_at R pair.0.0) = leb-true _ _ fits in
          le-leb _ _ (omega (arith, more pair.0.0 pair.1, le, seats)))
          path (AllPass-from_list_all after path has) in
          absurd (true≢false (sym (list_all-from_AllPass before path all) ∙ lacks))
      | inr none ↦ none
    ]

-- a pair that a path has is among those that have seats
seats_on_pair : (I : Situation) (Q : PlanRows) (path : List (Leg × Cabin)) (n y : ℕ) (c : Cabin) → takes y c path ≡ true → has_seats_for I Q path n ≡ true → aboard Q y c + n ≤ seats_of I c (row_at Q y)
unfolding has_seats_for
seats_on_pair I Q [] n y c has fits = absurd (true≢false (sym has))
seats_on_pair I Q (pair ∷ path) n y c has fits =
    let test : Leg × Cabin → Bool = λ other. leb (aboard Q other.0.0 other.1 + n) (seats_of I other.1 (row_at Q other.0.0)) in
    let parts = and_parts (test pair) (list_all test path) fits in
    elim (cases_Bool (eqb pair.0.0 y && eqb (cabin_rank pair.1) (cabin_rank c))) [
      | inl here ↦
          let own : pair ≡ (record { 0 = y }, c) = same_pair-holds pair (record { 0 = y }, c) here in
          subst (λ (other : Leg × Cabin). aboard Q other.0.0 other.1 + n ≤ seats_of I other.1 (row_at Q other.0.0)) own (leb-true _ _ parts.0)
      | inr elsewhere ↦ seats_on_pair I Q path n y c (rw elsewhere at has) parts.1
    ]

-- ---- what C15 leaves room for

carried-some : (path : List (Leg × Cabin)) → is_carried path ≡ true → same_path path [] ≡ false
carried-some [] carried = absurd (true≢false (sym carried))
carried-some (pair ∷ path) carried = refl

pub has_leg-carried : (x : ℕ) (path : List (Leg × Cabin)) → has_leg x path ≡ true → is_carried path ≡ true
has_leg-carried x [] has = absurd (true≢false (sym has))
has_leg-carried x (pair ∷ path) has = refl

-- those who go to a path are so many more with just the legs of it that have left
rebook-gone : (I : Situation) (path : List (Leg × Cabin)) (n : ℕ) (groups : List Group) → is_carried path ≡ true → n ≤ count_on [] groups → carried_gone I.progress.frozen (groups_after_rebook [] path n groups) (gone I path) ≡ carried_gone I.progress.frozen groups (gone I path) + n
rebook-gone I path n groups carried few =
    let test : List (Leg × Cabin) → Bool = λ other. is_carried other && same_path (gone I other) (gone I path) in
    let here : test path ≡ true = and_from (is_carried path) (same_path (gone I path) (gone I path)) carried (ap is_eq (path_itself (gone I path))) in
    let adds : passengers_on test (groups_after_rebook [] path n groups) + 0 ≡ passengers_on test groups + cond (test path) n 0 = groups_after_rebook-adds test [] path n groups few in
    let all : cond (test path) n 0 ≡ n = ap (λ (b : Bool). cond b n 0) here in
    omega (arith, adds, all)

-- a path is bound beside some groups as it is beside others of which as many are carried with just the legs of it that have left
bound-as : (I : Situation) (r : ℕ) (some others : List Group) (path : List (Leg × Cabin)) → carried_gone I.progress.frozen some (gone I path) ≡ carried_gone I.progress.frozen others (gone I path) → bound I r some path ≡ bound I r others path
unfolding bound
bound-as I r some others path same =
    ap (λ (n : ℕ). begins_as_begun I r path && (leb 1 (tallied I r (gone I path)) && leb n (tallied I r (gone I path)))) same

le_room : (carried n most : ℕ) → carried ≤ most → leb (carried + n) most ≡ leb n (most - carried)
le_room carried n most few =
    elim (cases_Bool (leb n (most - carried))) [
      | inl fits ↦ le-leb (carried + n) most (let le = leb-true n (most - carried) fits in omega (arith, le, few)) ∙ sym fits
      | inr over ↦ lt-leb (carried + n) most (let lt = leb-false n (most - carried) over in omega (arith, lt, few)) ∙ sym over
    ]

-- a path that is bound stays so just where no more go to it than C15 leaves room for
pub bound-room : (I : Situation) (r : ℕ) (path : List (Leg × Cabin)) (n : ℕ) (groups : List Group) → is_carried path ≡ true → n ≤ count_on [] groups → bound I r groups path ≡ true → bound I r (groups_after_rebook [] path n groups) path ≡ leb n (tallied I r (gone I path) - carried_gone I.progress.frozen groups (gone I path))
unfolding bound
bound-room I r path n groups carried few is =
    let most = tallied I r (gone I path) in
    let before = carried_gone I.progress.frozen groups (gone I path) in
    let front = and_parts (begins_as_begun I r path) (leb 1 most && leb before most) is in
    let room = and_parts (leb 1 most) (leb before most) front.1 in
    let begins : begins_as_begun I r path ≡ true = front.0 in
    let some : leb 1 most ≡ true = room.0 in
    rw (begins, some) (ap (λ (k : ℕ). leb k most) (rebook-gone I path n groups carried few) ∙ le_room before n most (leb-true before most room.1))

-- how many may go is seen from the seats and from that room
pub may_refill-room : (I : Situation) (P : PlanRows) (r n : ℕ) → is_carried (booked_path I r) ≡ true → n ≤ count_on [] (groups_at P r) → bound I r (groups_at P r) (booked_path I r) ≡ true → may_refill I P r n ≡ (has_seats_for I P (booked_path I r) n && leb n (tallied I r (gone I (booked_path I r)) - carried_gone I.progress.frozen (groups_at P r) (gone I (booked_path I r))))
unfolding may_refill
may_refill-room I P r n carried few is =
    ap (λ (b : Bool). has_seats_for I P (booked_path I r) n && b) (bound-room I r (booked_path I r) n (groups_at P r) carried few is)

and_false : (b : Bool) → (b && false) ≡ false
and_false true = refl
and_false false = refl

-- where more passengers are aboard, and the reservation's groups are the same, one who might not go may not
may_refill-more : (I : Situation) (Q R : PlanRows) (r n : ℕ) → R.rows ≡ Q.rows → groups_at R r ≡ groups_at Q r → ((y : ℕ) (c : Cabin) → aboard Q y c ≤ aboard R y c) → may_refill I Q r n ≡ false → may_refill I R r n ≡ false
unfolding may_refill
may_refill-more I Q R r n rows own more lacks =
    let path = booked_path I r in
    let bound_by : List Group → Bool = λ groups. bound I r (groups_after_rebook [] path n groups) path in
    elim (cases_Bool (has_seats_for I Q path n)) [
      | inl seats ↦
          let over : bound_by (groups_at Q r) ≡ false = ap (λ (b : Bool). b && bound_by (groups_at Q r)) (sym seats) ∙ lacks in
          ap (λ (b : Bool). has_seats_for I R path n && b) (ap bound_by own ∙ over) ∙ and_false (has_seats_for I R path n)
      | inr lacking ↦ ap (λ (b : Bool). b && bound_by (groups_at R r)) (seats-more I Q R path n rows more lacking)
    ]

-- ---- one reservation

-- those who go to a path are aboard its legs then
rebook-aboard : (P : PlanRows) (r : ℕ) (path : List (Leg × Cabin)) (n y : ℕ) (c : Cabin) → r < length P.groups → n ≤ count_on [] (groups_at P r) → aboard (with_groups P r (groups_after_rebook [] path n (groups_at P r))) y c ≡ aboard P y c + cond (takes y c path) n 0
unfolding aboard
rebook-aboard P r path n y c within few =
    let moved = groups_after_rebook [] path n (groups_at P r) in
    let set = sum_by-set (aboard_of y c) P.groups r moved [] within in
    let adds : passengers_on (takes y c) moved + 0 ≡ passengers_on (takes y c) (groups_at P r) + cond (takes y c path) n 0 = groups_after_rebook-adds (takes y c) [] path n (groups_at P r) few in
    omega (arith, set, adds)

pub fit-bound : (I : Situation) (Q : PlanRows) (r : ℕ) (path : List (Leg × Cabin)) → is_fit_path I Q r path ≡ true → bound I r (groups_at Q r) path ≡ true
unfolding is_fit_path
fit-bound I Q r path fit = (and_parts (is_good_path I Q r path && is_in_time_path I Q r path) (bound I r (groups_at Q r) path) fit).1

booked_sound : (I : Situation) (r : ℕ) → IsValid I → r < reservations_of I → IsReservation (legs_of I) (res_at I r)
booked_sound I r valid within = All-get_or (IsReservation (legs_of I)) I.parts.res r no_res within valid.parts.res

-- what refilling a reservation does: n of those not carried go to the scheduled path, as many as may
record Refills (I : Situation) (Q R : PlanRows) (r n : ℕ) : Type 0 where
  is : R ≡ with_groups Q r (groups_after_rebook [] (booked_path I r) n (groups_at Q r))
  greatest : IsGreatestWithin (count_on [] (groups_at Q r)) (may_refill I Q r) n

after_refilling-no : (I : Situation) (x : ℕ) (Q : PlanRows) (r : ℕ) → is_refilled I Q x r ≡ false → after_refilling I x Q r ≡ Q
after_refilling-no I x Q r fails = rw fails refl

after_refilling-yes : (I : Situation) (x : ℕ) (Q : PlanRows) (r : ℕ) → is_refilled I Q x r ≡ true → after_refilling I x Q r ≡ after_rebook Q r [] (booked_path I r) (refill_count I Q r)
after_refilling-yes I x Q r holds = rw holds refl

refill-refills : (I : Situation) (Q : PlanRows) (r : ℕ) → Refills I Q (after_rebook Q r [] (booked_path I r) (refill_count I Q r)) r (refill_count I Q r)
unfolding after_rebook refill_count
refill-refills I Q r =
    let greatest = greatest_within-holds (count_on [] (groups_at Q r)) (may_refill I Q r) in
    let to = greatest.to in
    record {
      is = ap (λ (n : ℕ). with_groups Q r (groups_after_rebook [] (booked_path I r) n (groups_at Q r))) (omega arith);
      greatest = greatest;
    }

le_cases : (n w : ℕ) → n ≤ w → (n ≡ w) ⊎ (n < w)
le_cases n w le = grind arith

-- the groups of the reservation then
refills-groups : (I : Situation) (Q R : PlanRows) (r n : ℕ) → r < length Q.groups → Refills I Q R r n → groups_at R r ≡ groups_after_rebook [] (booked_path I r) n (groups_at Q r)
refills-groups I Q R r n within refills =
    ap (λ (S : PlanRows). groups_at S r) refills.is ∙ with_groups-same Q r (groups_after_rebook [] (booked_path I r) n (groups_at Q r)) within

-- one more has a seat then just where one more than went had one before
refills-next_seat : (I : Situation) (Q R : PlanRows) (r n : ℕ) → r < length Q.groups → Refills I Q R r n → has_seats_for I R (booked_path I r) 1 ≡ has_seats_for I Q (booked_path I r) (n + 1)
unfolding has_seats_for
refills-next_seat I Q R r n within refills =
    let path = booked_path I r in
    let few = refills.greatest.to in
    let before : Leg × Cabin → Bool = λ pair. leb (aboard Q pair.0.0 pair.1 + (n + 1)) (seats_of I pair.1 (row_at Q pair.0.0)) in
    let after : Leg × Cabin → Bool = λ pair. leb (aboard R pair.0.0 pair.1 + 1) (seats_of I pair.1 (row_at R pair.0.0)) in
    let same : AllByRecursion (λ (pair : Leg × Cabin). after pair ≡ before pair) path =
    recursion_from_All (λ (pair : Leg × Cabin). after pair ≡ before pair) path
    (All-weaker (λ (pair : Leg × Cabin). takes pair.0.0 pair.1 path ≡ true) (λ (pair : Leg × Cabin). after pair ≡ before pair)
    (λ pair has.
    let aboard_is : aboard R pair.0.0 pair.1 ≡ aboard Q pair.0.0 pair.1 + n =
    ap (λ (S : PlanRows). aboard S pair.0.0 pair.1) refills.is ∙ rebook-aboard Q r path n pair.0.0 pair.1 within few ∙ rw has refl in
    let row_is : row_at R pair.0.0 ≡ row_at Q pair.0.0 = ap (λ (S : PlanRows). row_at S pair.0.0) refills.is in
    let sum : aboard R pair.0.0 pair.1 + 1 ≡ aboard Q pair.0.0 pair.1 + (n + 1) = omega (arith, aboard_is) in
    rw (sum, row_is) refl)
    path (takes_each path)) in
    agree_all after before path same

-- none is left, or one more may not go
refills-full : (I : Situation) (Q R : PlanRows) (r n : ℕ) → r < length Q.groups → is_carried (booked_path I r) ≡ true → Refills I Q R r n → (count_on [] (groups_at R r) ≡ 0) ⊎ (may_refill I R r 1 ≡ false)
unfolding may_refill
refills-full I Q R r n within carried refills =
    let path = booked_path I r in
    let groups = groups_at Q r in
    let moved = groups_after_rebook [] path n groups in
    let few = refills.greatest.to in
    let there : groups_at R r ≡ moved = refills-groups I Q R r n within refills in
    let adds : count_on [] moved + n ≡ count_on [] groups + 0 = rw (carried-some path carried) at (groups_after_rebook-adds (λ other. same_path other []) [] path n groups few) in
    elim (le_cases n (count_on [] groups) few) [
      | inl all ↦ let left : count_on [] moved ≡ 0 = omega (arith, adds, all) in inl (ap (count_on []) there ∙ left)
      | inr more ↦
          let lacks : may_refill I Q r (n + 1) ≡ false = refills.greatest.greatest (n + 1) (omega arith) (omega arith) in
          let first = rebook-gone I path n groups carried few in
          let second = rebook-gone I path 1 moved carried (omega (arith, adds, more)) in
          let both = rebook-gone I path (n + 1) groups carried (omega (arith, more)) in
          let bounds : bound I r (groups_after_rebook [] path 1 moved) path ≡ bound I r (groups_after_rebook [] path (n + 1) groups) path =
          bound-as I r (groups_after_rebook [] path 1 moved) (groups_after_rebook [] path (n + 1) groups) path (omega (arith, first, second, both)) in
          inr (ap (λ (gs : List Group). has_seats_for I R path 1 && bound I r (groups_after_rebook [] path 1 gs) path) there
          ∙ ap (λ (b : Bool). has_seats_for I R path 1 && b) bounds
          ∙ ap (λ (b : Bool). b && bound I r (groups_after_rebook [] path (n + 1) groups) path) (refills-next_seat I Q R r n within refills)
          ∙ lacks)
    ]

-- the path is bound then, too
refills-bound : (I : Situation) (Q R : PlanRows) (r n : ℕ) → r < length Q.groups → is_carried (booked_path I r) ≡ true → bound I r (groups_at Q r) (booked_path I r) ≡ true → Refills I Q R r n → bound I r (groups_at R r) (booked_path I r) ≡ true
unfolding may_refill
refills-bound I Q R r n within carried is refills =
    let path = booked_path I r in
    let groups = groups_at Q r in
    let moved = groups_after_rebook [] path n groups in
    let there : groups_at R r ≡ moved = refills-groups I Q R r n within refills in
    ap (λ (gs : List Group). bound I r gs path) there
    ∙ elim refills.greatest.holds [
      | inl none ↦
          let same = rebook-gone I path n groups carried refills.greatest.to in
          bound-as I r moved groups path (omega (arith, same, none)) ∙ is
      | inr fits ↦ (and_parts (has_seats_for I Q path n) (bound I r moved path) fits).1
    ]

-- the path's legs are within their seats then, where anyone goes to it
refills-seats : (I : Situation) (Q R : PlanRows) (r n y : ℕ) (c : Cabin) → r < length Q.groups → Refills I Q R r n → IsNotOverfilled I Q R y c
unfolding may_refill
refills-seats I Q R r n y c within refills =
    let path = booked_path I r in
    let few = refills.greatest.to in
    let aboard_is : aboard R y c ≡ aboard Q y c + cond (takes y c path) n 0 = ap (λ (S : PlanRows). aboard S y c) refills.is ∙ rebook-aboard Q r path n y c within few in
    let row_is : row_at R y ≡ row_at Q y = ap (λ (S : PlanRows). row_at S y) refills.is in
    elim (cases_Bool (takes y c path)) [
      | inr absent ↦ inl (aboard_is ∙ rw absent (omega arith))
      | inl has ↦ elim refills.greatest.holds [
        | inl none ↦ inl (aboard_is ∙ rw (has, none) (omega arith))
        | inr fits ↦
            let here : aboard R y c ≡ aboard Q y c + n = aboard_is ∙ rw has refl in
            let le = seats_on_pair I Q path n y c has (and_parts (has_seats_for I Q path n) (bound I r (groups_after_rebook [] path n (groups_at Q r)) path) fits).0 in
            inr (subst (λ (row : Row). aboard R y c ≤ seats_of I c row) (sym row_is) (omega (arith, here, le)))
      ]
    ]

-- ---- one reservation after another

-- the plan once the first k reservations are refilled
abbrev plan_to : Situation → ℕ → PlanRows → ℕ → PlanRows
plan_to I x P k = fold (after_refilling I x) P (numbers k)

plan_to-more : (I : Situation) (x : ℕ) (P : PlanRows) (k : ℕ) → plan_to I x P (suc k) ≡ after_refilling I x (plan_to I x P k) k
plan_to-more I x P k = fold_push (after_refilling I x) P (numbers k) k

-- what holds of that plan
record RefilledTo (I : Situation) (x : ℕ) (P Q : PlanRows) (k : ℕ) : Type 0 where
  plan : IsPlanFor I Q
  rows : Q.rows ≡ P.rows
  ahead : (r : ℕ) → k ≤ r → groups_at Q r ≡ groups_at P r
  done : (r : ℕ) → r < k → RefillsReservation I P Q x r
  seats : (y : ℕ) (c : Cabin) → IsNotOverfilled I P Q y c

-- whether a reservation is refilled depends on the rows and on its own groups
refilled-groups : (I : Situation) (P : PlanRows) (groups : List (List Group)) (x r : ℕ) → (let Q : PlanRows = record P { groups = groups } in groups_at Q r) ≡ groups_at P r → is_refilled I (record P { groups = groups }) x r ≡ is_refilled I P x r
unfolding is_fit_path
refilled-groups I P groups x r own =
    let path = booked_path I r in
    rw (good_path-groups I P groups r path, in_time-groups I P groups r path) (ap (λ (gs : List Group). has_leg x path && (is_good_path I P r path && is_in_time_path I P r path && bound I r gs path)) own)

refilled-same : (I : Situation) (P Q : PlanRows) (x r : ℕ) → Q.rows ≡ P.rows → groups_at Q r ≡ groups_at P r → is_refilled I Q x r ≡ is_refilled I P x r
refilled-same I P Q x r rows own =
    ap (λ (all : List Row). is_refilled I (record Q { rows = all }) x r) rows ∙ refilled-groups I P Q.groups x r own

-- what is said of a reservation stays so while others are refilled
refills-later : (I : Situation) (P Q R : PlanRows) (x r : ℕ) → RefillsReservation I P Q x r → R.rows ≡ Q.rows → groups_at R r ≡ groups_at Q r → ((y : ℕ) (c : Cabin) → aboard Q y c ≤ aboard R y c) → RefillsReservation I P R x r
refills-later I P Q R x r is rows own more = record {
  count = is.count;
  going = λ test. ap (λ (gs : List Group). passengers_on test gs + cond (test []) is.count 0) own ∙ is.going test;
  full = λ refilled. elim (is.full refilled) [
    | inl none ↦ inl (ap (count_on []) own ∙ none)
    | inr lacks ↦ inr (may_refill-more I Q R r 1 rows own more lacks)
  ];
  keeps = λ refilled. subst (λ (gs : List Group). KeepsToLeft I r gs (booked_path I r)) (sym own) (is.keeps refilled);
  other = λ fails. own ∙ is.other fails;
}

nobody_goes : (a b : Bool) (n : ℕ) → n + cond a 0 0 ≡ n + cond b 0 0
nobody_goes true true n = refl
nobody_goes true false n = refl
nobody_goes false true n = refl
nobody_goes false false n = refl

below_more : (r k : ℕ) → r < suc k → (r < k) ⊎ (r ≡ k)
below_more r k lt = grind arith

-- a reservation that is not refilled
step-no : (I : Situation) (x : ℕ) (P Q : PlanRows) (k : ℕ) → is_refilled I P x k ≡ false → RefilledTo I x P Q k → RefilledTo I x P Q (suc k)
step-no I x P Q k fails is = record {
  plan = is.plan;
  rows = is.rows;
  ahead = λ r le. is.ahead r (omega arith);
  done = λ r lt. elim (below_more r k lt) [
    | inl less ↦ is.done r less
    | inr same ↦ subst (RefillsReservation I P Q x) (sym same) (record {
      count = 0;
      going = λ test. ap (λ (gs : List Group). passengers_on test gs + cond (test []) 0 0) (is.ahead k (omega arith)) ∙ nobody_goes (test []) (test (booked_path I k)) (passengers_on test (groups_at P k));
      full = λ refilled. absurd (true≢false (sym refilled ∙ fails));
      keeps = λ refilled. absurd (true≢false (sym refilled ∙ fails));
      other = λ other. is.ahead k (omega arith);
    })
  ];
  seats = is.seats;
}

-- a reservation that is refilled
step-yes : (I : Situation) (x : ℕ) (P Q R : PlanRows) (k n : ℕ) → IsPlanFor I R → k < length Q.groups → is_refilled I P x k ≡ true → has_leg x (booked_path I k) ≡ true → bound I k (groups_at Q k) (booked_path I k) ≡ true → Refills I Q R k n → RefilledTo I x P Q k → RefilledTo I x P R (suc k)
step-yes I x P Q R k n plan within holds has is_bound refills is =
    let path = booked_path I k in
    let carried = has_leg-carried x path has in
    let moved = groups_after_rebook [] path n (groups_at Q k) in
    let few = refills.greatest.to in
    let rows : R.rows ≡ Q.rows = ap (λ (S : PlanRows). S.rows) refills.is in
    let own : (r : ℕ) → (r ≡ k → ⊥) → groups_at R r ≡ groups_at Q r = λ r other. ap (λ (S : PlanRows). groups_at S r) refills.is ∙ with_groups-other Q k r moved other in
    let aboard_is : (y : ℕ) (c : Cabin) → aboard R y c ≡ aboard Q y c + cond (takes y c path) n 0 = λ y c. ap (λ (S : PlanRows). aboard S y c) refills.is ∙ rebook-aboard Q k path n y c within few in
    let more : (y : ℕ) (c : Cabin) → aboard Q y c ≤ aboard R y c = λ y c. omega (arith, aboard_is y c) in
    record {
      plan = plan;
      rows = rows ∙ is.rows;
      ahead = λ r le. own r (λ e. omega (arith, e, le)) ∙ is.ahead r (omega arith);
      done = λ r lt. elim (below_more r k lt) [
        | inl less ↦ refills-later I P Q R x r (is.done r less) rows (own r (λ e. omega (arith, e, less))) more
        | inr same ↦ subst (RefillsReservation I P R x) (sym same) (record {
          count = n;
          going = λ test.
              let there : groups_at R k ≡ moved = ap (λ (S : PlanRows). groups_at S k) refills.is ∙ with_groups-same Q k moved within in
              ap (λ (gs : List Group). passengers_on test gs + cond (test []) n 0) there
              ∙ groups_after_rebook-adds test [] path n (groups_at Q k) few
              ∙ ap (λ (gs : List Group). passengers_on test gs + cond (test path) n 0) (is.ahead k (omega arith));
          full = λ refilled. refills-full I Q R k n within carried refills;
          keeps = λ refilled. bound-holds I k (groups_at R k) path (refills-bound I Q R k n within carried is_bound refills);
          other = λ fails. absurd (true≢false (sym holds ∙ fails));
        })
      ];
      seats = λ y c. elim (refills-seats I Q R k n y c within refills) [
        | inr fits ↦ inr fits
        | inl same ↦ elim (is.seats y c) [
          | inl kept ↦ inl (same ∙ kept)
          | inr fits ↦
              let row_is : row_at R y ≡ row_at Q y = ap (λ (S : PlanRows). row_at S y) refills.is in
              inr (subst (λ (row : Row). aboard R y c ≤ seats_of I c row) (sym row_is) (omega (arith, same, fits)))
        ]
      ];
    }

refilled_to : (I : Situation) (x : ℕ) (P : PlanRows) (k : ℕ) → IsValid I → IsPlanFor I P → k ≤ reservations_of I → RefilledTo I x P (plan_to I x P k) k
refilled_to I x P zero valid plan le = record { plan = plan; rows = refl; ahead = λ r le. refl; done = λ r lt. absurd (omega arith); seats = λ y c. inl refl }
refilled_to I x P (suc k) valid plan le =
    let Q = plan_to I x P k in
    let is : RefilledTo I x P Q k = refilled_to I x P k valid plan (omega arith) in
    let same : is_refilled I Q x k ≡ is_refilled I P x k = refilled-same I P Q x k is.rows (is.ahead k (omega arith)) in
    elim (cases_Bool (is_refilled I Q x k)) [
      | inr fails ↦
          subst (λ (R : PlanRows). RefilledTo I x P R (suc k)) (sym (plan_to-more I x P k ∙ after_refilling-no I x Q k fails))
          (step-no I x P Q k (sym same ∙ fails) is)
      | inl holds ↦
          let path = booked_path I k in
          let R = after_rebook Q k [] path (refill_count I Q k) in
          let booked = booked_sound I k valid (omega arith) in
          let within : k < length Q.groups = let res = is.plan.res in omega (arith, res, le) in
          let parts = and_parts (has_leg x path) (is_fit_path I Q k path) holds in
          let there : IsPlanFor I R = after_rebook-valid I Q k [] path (refill_count I Q k) (omega arith) booked.short (All-nil (λ (pair : Leg × Cabin). pair.0.0 < legs_of I)) booked.path is.plan in
          subst (λ (S : PlanRows). RefilledTo I x P S (suc k)) (sym (plan_to-more I x P k ∙ after_refilling-yes I x Q k holds))
          (step-yes I x P Q R k (refill_count I Q k) there within (sym same ∙ holds) parts.0 (fit-bound I Q k path parts.1) (refill-refills I Q k) is)
    ]

module _ (I : Situation) (P : PlanRows) (x : ℕ) (valid : IsValid I) (plan : IsPlanFor I P) where
  whole : RefilledTo I x P (plan_to I x P (reservations_of I)) (reservations_of I)
  whole = refilled_to I x P (reservations_of I) valid plan (omega arith)

  pub after_refill-valid : IsPlanFor I (after_refill I P x)
  unfolding after_refill
  after_refill-valid = whole.plan

  pub after_refill-rows : (after_refill I P x).rows ≡ P.rows
  unfolding after_refill
  after_refill-rows = whole.rows

  pub after_refill-refills : (r : ℕ) → r < reservations_of I → RefillsReservation I P (after_refill I P x) x r
  unfolding after_refill
  after_refill-refills r within = whole.done r within

  pub after_refill-seats : (y : ℕ) (c : Cabin) → IsNotOverfilled I P (after_refill I P x) y c
  unfolding after_refill
  after_refill-seats y c = whole.seats y c

-- ---- in turn

-- refilling a reservation changes the groups of no other
after_refilling-other : (I : Situation) (x : ℕ) (Q : PlanRows) (r s : ℕ) → (s ≡ r → ⊥) → groups_at (after_refilling I x Q r) s ≡ groups_at Q s
after_refilling-other I x Q r s other = elim (cases_Bool (is_refilled I Q x r)) [
  | inl holds ↦
      ap (λ (S : PlanRows). groups_at S s) (after_refilling-yes I x Q r holds ∙ (refill-refills I Q r).is)
      ∙ with_groups-other Q r s (groups_after_rebook [] (booked_path I r) (refill_count I Q r) (groups_at Q r)) other
  | inr fails ↦ ap (λ (S : PlanRows). groups_at S s) (after_refilling-no I x Q r fails)
]

-- what a reservation gets in its turn, it keeps
turn_stays : (I : Situation) (x : ℕ) (P : PlanRows) (r k : ℕ) → r < k → groups_at (plan_to I x P k) r ≡ groups_at (after_refilling I x (plan_to I x P r) r) r
turn_stays I x P r zero lt = absurd (omega arith)
turn_stays I x P r (suc k) lt = elim (below_more r k lt) [
  | inl before ↦
      ap (λ (S : PlanRows). groups_at S r) (plan_to-more I x P k)
      ∙ (after_refilling-other I x (plan_to I x P k) k r (λ same. absurd (omega (arith, before, same))) ∙ turn_stays I x P r k before)
  | inr same ↦
      ap (λ (S : PlanRows). groups_at S r) (plan_to-more I x P k)
      ∙ ap (λ (j : ℕ). groups_at (after_refilling I x (plan_to I x P j) j) r) (sym same)
]

pub after_refill-turn : (I : Situation) (P : PlanRows) (x r : ℕ) → r < reservations_of I → groups_at (after_refill I P x) r ≡ groups_at (after_refilling I x (fold (after_refilling I x) P (numbers r)) r) r
unfolding after_refill
after_refill-turn I P x r within = turn_stays I x P r (reservations_of I) within
