-- What flying, positions and passengers cost in plans that are made alike.
use Rattle.std.proofs.Common.{◌≡◌, ℕ, zero, suc, ◌+◌, ◌-◌, ◌*◌, ◌<◌, ◌≤◌, ◌⊎◌, inl, inr, Bool, true, false, ◌&&◌, cond, eqb, not, List, [], ◌∷◌, ◌++◌, length, get_or, refl, sym, ap, subst, ◌∙◌, arith}
use Rattle.std.specs.Prelude.{filter, sum_by, count_by}
use Rattle.std.specs.List.{All, Contains}
use Rattle.std.proofs.lemmas.Bool.{true≢false, cases_Bool, eqb-true}
use Rattle.std.proofs.lemmas.List.Elements.{All-head, All-tail, All-filter, All-append, All-nil, All-cons}
use Rattle.std.proofs.lemmas.List.Sums.{sum_by-cons, sum_by_push, length-filter}
use Rattle.desk_units.specs.declared.numbers.Leg.{Leg}
use Rattle.desk_units.specs.declared.numbers.Cabin.{Cabin}
use Rattle.desk_units.specs.declared.tariff.Term.TheVariants as term
use Rattle.tariff_prices.specs.Prices.{position_price}
use Rattle.desk_data.specs.declared.info.PositionInfo.{PositionInfo}
use Rattle.desk_data.specs.declared.row.Row.{Row}
use Rattle.desk_data.specs.declared.row.Row.TheVariants.{Flown, Cancelled}
use Rattle.desk_data.specs.declared.row.Group.{Group}
use Rattle.desk_data.specs.Paths.{is_carried}
use Rattle.desk_data.specs.Situation.{Situation, legs_of, planes_of, plane_at, bound}
use Rattle.desk_data.specs.PlanRows.{PlanRows, row_at, groups_at}
use Rattle.desk_rules.specs.Numbers.{numbers}
use Rattle.desk_rules.specs.Maintenance.{is_flown_by, flies, is_left_at}
use Rattle.desk_rules.specs.Carriage.{is_good_path, is_in_time_path}
use Rattle.desk_rules.specs.Cost.{weight, rows_of, by_item, operating_of, operating, operating_cost, is_wanted, ends_at, at_hand, missing_aircraft, position_cost}
use Rattle.desk_rules.specs.Words.{IsFlown, TakesThere, ArrivesInTime}
use Rattle.desk_rules.proofs.CarriageLaws.{is_good_path-holds, is_good_path-from, is_in_time-holds, is_in_time-from}
use Rattle.desk_model.specs.Rebook.{passengers_on, group_of}
use Rattle.desk_model.specs.Tidy.{is_fit_path, stays_carried, groups_after_tidy}
use Rattle.near_memory.specs.Untouched.{HasSameRows}
use Rattle.near_memory.proofs.SameRows.{HaveSameRows, all_flown-to, there-same, late-same}
use Rattle.near_moves.specs.Same.{FliesSame, is_of, IsOwn, AgreeOn}
use Rattle.near_moves.specs.Room.{AreMadeAlike}
use Rattle.near_moves.proofs.PlaneLaws.{and-same_left, filter-same}
use Rattle.near_moves.proofs.RuleLaws.{left_at-same}
use Rattle.near_moves.proofs.FrameLaws.{is_of-by, agree-flies}
use Rattle.near_untouched.proofs.AloneLaws.{some-of}

-- ---- sums

-- where a and b of each number come to what c and d of it do, so do the sums
pub sum-balance : (a b c d : ℕ → ℕ) (n : ℕ) → ((y : ℕ) → y < n → a y + b y ≡ c y + d y) → sum_by a (numbers n) + sum_by b (numbers n) ≡ sum_by c (numbers n) + sum_by d (numbers n)
sum-balance a b c d zero same = refl
sum-balance a b c d (suc n) same =
    omega (
      arith,
      sum_by_push a (numbers n) n,
      sum_by_push b (numbers n) n,
      sum_by_push c (numbers n) n,
      sum_by_push d (numbers n) n,
      sum-balance a b c d n (λ y lt. same y (omega (arith, lt))),
      same n (omega arith),
    )

pub list-balance : {X : Type 0} (a b c d : X → ℕ) (xs : List X) → All (λ x. a x + b x ≡ c x + d x) xs → sum_by a xs + sum_by b xs ≡ sum_by c xs + sum_by d xs
list-balance a b c d [] same = refl
list-balance a b c d (x ∷ xs) same =
    let here = All-head (λ y. a y + b y ≡ c y + d y) x xs same in
    let rest = list-balance a b c d xs (All-tail (λ y. a y + b y ≡ c y + d y) x xs same) in
    omega (arith, sum_by-cons a x xs, sum_by-cons b x xs, sum_by-cons c x xs, sum_by-cons d x xs, here, rest)

pub two-balance : (a b c d : ℕ) → ((a ≡ c) × (b ≡ d)) ⊎ ((a ≡ d) × (b ≡ c)) → a + b ≡ c + d
two-balance a b c d (inl same) = (let e = same.0 in let f = same.1 in omega (arith, e, f))
two-balance a b c d (inr same) = (let e = same.0 in let f = same.1 in omega (arith, e, f))

-- ---- flying and positions

module _ (planes legs : ℕ → Bool) (I : Situation) (P Q S T : PlanRows) (before : AgreeOn planes legs P Q) (alike : AreMadeAlike planes legs P Q S T) where
  pub flying-balance : operating_cost I S + operating_cost I Q ≡ operating_cost I T + operating_cost I P
  unfolding operating_cost
  flying-balance =
      sum-balance (operating I S) (operating I Q) (operating I T) (operating I P) (legs_of I)
      (λ x lt. elim (cases_Bool (legs x)) [
        | inl here ↦ two-balance _ _ _ _ (inl (ap (operating_of I x) (alike.agree.same x here), sym (ap (operating_of I x) (before.same x here))))
        | inr off ↦ two-balance _ _ _ _ (inr (ap (operating_of I x) (alike.first x off), sym (ap (operating_of I x) (alike.second x off))))
      ])

not-own : (planes : ℕ → Bool) (p : ℕ) (row : Row) → planes p ≡ false → IsOwn planes row → is_flown_by p row ≡ false
not-own planes p (Flown plane dep) other (inl own) =
    elim (cases_Bool (eqb plane.0 p)) [
      | inr apart ↦ apart
      | inl same ↦ absurd (true≢false (sym own ∙ ap planes (eqb-true plane.0 p same) ∙ other))
    ]
not-own planes p (Flown plane dep) other (inr none) = absurd cc
not-own planes p Cancelled other own = refl

-- an aircraft that is none of them flies what it flew
other-flies : (planes legs : ℕ → Bool) (P S : PlanRows) (p : ℕ) → planes p ≡ false → ((x : ℕ) → legs x ≡ true → IsOwn planes (row_at P x)) → ((x : ℕ) → legs x ≡ true → IsOwn planes (row_at S x)) → ((x : ℕ) → legs x ≡ false → row_at S x ≡ row_at P x) → FliesSame S P p
other-flies planes legs P S p other own now same x =
    elim (cases_Bool (legs x)) [
      | inl here ↦ inr (not-own planes p (row_at S x) other (now x here), not-own planes p (row_at P x) other (own x here))
      | inr off ↦ inl (same x off)
    ]

-- 1 where an aircraft is at hand for a position
abbrev counted : Situation → PlanRows → PositionInfo → ℕ → ℕ
counted I R position p = cond (is_wanted position (plane_at I p) && ends_at I R p position.airport.0) 1 0

-- what a position costs that has so many
abbrev lacking : Situation → PositionInfo → ℕ → ℕ
lacking I position n = by_item (weight I term.Position) (position_price (rows_of I)) (position.count - n)

module _ (planes legs : ℕ → Bool) (I : Situation) (P Q S T : PlanRows) (before : AgreeOn planes legs P Q) (alike : AreMadeAlike planes legs P Q S T) where
  own-first : (x : ℕ) → legs x ≡ true → IsOwn planes (row_at Q x)
  own-first x here = subst (IsOwn planes) (before.same x here) (before.own x here)

  own-second : (x : ℕ) → legs x ≡ true → IsOwn planes (row_at T x)
  own-second x here = subst (IsOwn planes) (alike.agree.same x here) (alike.agree.own x here)

  ends-same : (U V : PlanRows) (p airport : ℕ) → FliesSame U V p → ends_at I U p airport ≡ ends_at I V p airport
  ends-same U V p airport same = ap (λ (b : Bool). not (plane_at I p).surface && b) (left_at-same I U V p same I.parts.to.0 airport)

  first-ends : (p airport : ℕ) → planes p ≡ false → ends_at I S p airport ≡ ends_at I P p airport
  first-ends p airport other = ends-same S P p airport (other-flies planes legs P S p other before.own alike.agree.own alike.first)

  second-ends : (p airport : ℕ) → planes p ≡ false → ends_at I T p airport ≡ ends_at I Q p airport
  second-ends p airport other = ends-same T Q p airport (other-flies planes legs Q T p other own-first own-second alike.second)

  own-ends : (p airport : ℕ) → planes p ≡ true → ends_at I S p airport ≡ ends_at I T p airport
  own-ends p airport own = ends-same S T p airport (agree-flies planes legs S T p alike.agree own)

  was-ends : (p airport : ℕ) → planes p ≡ true → ends_at I Q p airport ≡ ends_at I P p airport
  was-ends p airport own = sym (ends-same P Q p airport (agree-flies planes legs P Q p before own))

  hand-is : (R : PlanRows) (position : PositionInfo) → at_hand I R position ≡ sum_by (counted I R position) (numbers (planes_of I))
  hand-is R position = length-filter (λ p. is_wanted position (plane_at I p) && ends_at I R p position.airport.0) (numbers (planes_of I))

  hand-balance : (position : PositionInfo) → at_hand I S position + at_hand I Q position ≡ at_hand I T position + at_hand I P position
  hand-balance position =
      let a = position.airport.0 in
      let count : ℕ → Bool → ℕ = λ p b. cond (is_wanted position (plane_at I p) && b) 1 0 in
      let sums = sum-balance (counted I S position) (counted I Q position) (counted I T position) (counted I P position) (planes_of I)
      (λ p lt. elim (cases_Bool (planes p)) [
        | inl own ↦ two-balance _ _ _ _ (inl (ap (count p) (own-ends p a own), ap (count p) (was-ends p a own)))
        | inr other ↦ two-balance _ _ _ _ (inr (ap (count p) (first-ends p a other), sym (ap (count p) (second-ends p a other))))
      ]) in
      ap (λ (n : ℕ). n + at_hand I Q position) (hand-is S position)
      ∙ ap (λ (n : ℕ). sum_by (counted I S position) (numbers (planes_of I)) + n) (hand-is Q position)
      ∙ sums
      ∙ sym (ap (λ (n : ℕ). n + at_hand I P position) (hand-is T position) ∙ ap (λ (n : ℕ). sum_by (counted I T position) (numbers (planes_of I)) + n) (hand-is P position))

  -- a position that wants none of them has those at hand that it had
  hand-first : (position : PositionInfo) → ((p : ℕ) → planes p ≡ true → is_wanted position (plane_at I p) ≡ false) → (U V : PlanRows) → ((p : ℕ) → planes p ≡ false → ends_at I U p position.airport.0 ≡ ends_at I V p position.airport.0) → at_hand I U position ≡ at_hand I V position
  hand-first position none U V same =
      ap length
      (filter-same (λ p. is_wanted position (plane_at I p) && ends_at I U p position.airport.0) (λ p. is_wanted position (plane_at I p) && ends_at I V p position.airport.0) (numbers (planes_of I))
      (λ k d lt. one (get_or (numbers (planes_of I)) k d)))
    where
      one : (p : ℕ) → (is_wanted position (plane_at I p) && ends_at I U p position.airport.0) ≡ (is_wanted position (plane_at I p) && ends_at I V p position.airport.0)
      one p = elim (cases_Bool (planes p)) [
        | inl own ↦ ap (λ (b : Bool). b && ends_at I U p position.airport.0) (none p own) ∙ sym (ap (λ (b : Bool). b && ends_at I V p position.airport.0) (none p own))
        | inr other ↦ ap (λ (b : Bool). is_wanted position (plane_at I p) && b) (same p other)
      ]

  position-balance : (position : PositionInfo) → (at_hand I P position ≡ at_hand I Q position) ⊎ ((p : ℕ) → planes p ≡ true → is_wanted position (plane_at I p) ≡ false) → missing_aircraft I S position + missing_aircraft I Q position ≡ missing_aircraft I T position + missing_aircraft I P position
  unfolding missing_aircraft
  position-balance position (inl hand) =
      let sums = hand-balance position in
      let now : at_hand I S position ≡ at_hand I T position = omega (arith, sums, hand) in
      two-balance _ _ _ _ (inl (ap (lacking I position) now, ap (lacking I position) (sym hand)))
  position-balance position (inr none) =
      let first = hand-first position none S P (λ p other. first-ends p position.airport.0 other) in
      let second = hand-first position none T Q (λ p other. second-ends p position.airport.0 other) in
      two-balance _ _ _ _ (inr (ap (lacking I position) first, ap (lacking I position) (sym second)))

  pub positions-balance : All (λ position. (at_hand I P position ≡ at_hand I Q position) ⊎ ((p : ℕ) → planes p ≡ true → is_wanted position (plane_at I p) ≡ false)) I.parts.positions → position_cost I S + position_cost I Q ≡ position_cost I T + position_cost I P
  unfolding position_cost
  positions-balance same =
      list-balance (missing_aircraft I S) (missing_aircraft I Q) (missing_aircraft I T) (missing_aircraft I P) I.parts.positions
      (λ k d lt. position-balance (get_or I.parts.positions k d) (same k d lt))

-- ---- a Tidy

same-tests : (a b : Bool) → (a ≡ true → b ≡ true) → (b ≡ true → a ≡ true) → a ≡ b
same-tests true true there back = refl
same-tests true false there back = sym (there refl)
same-tests false true there back = back refl
same-tests false false there back = refl

same-back : (S T : PlanRows) (path : List (Leg × Cabin)) → HasSameRows S T path → HasSameRows T S path
same-back S T path rows = λ k d lt. sym (rows k d lt)

good-to : (I : Situation) (S T : PlanRows) (r : ℕ) (path : List (Leg × Cabin)) → 1 ≤ length path → HasSameRows S T path → is_good_path I S r path ≡ true → is_good_path I T r path ≡ true
good-to I S T r path some rows good = is_good_path-from I T r path (there-same I S T r path some rows (is_good_path-holds I S r path good))

time-to : (I : Situation) (S T : PlanRows) (r : ℕ) (path : List (Leg × Cabin)) → 1 ≤ length path → HasSameRows S T path → is_in_time_path I S r path ≡ true → is_in_time_path I T r path ≡ true
time-to I S T r path some rows good =
    is_in_time-from I T r path (λ flown. late-same I S T r path some rows (is_in_time-holds I S r path good (all_flown-to T S path (same-back S T path rows) flown)))

pub fit-same : (I : Situation) (S T : PlanRows) (r : ℕ) (path : List (Leg × Cabin)) → is_carried path ≡ true → HasSameRows S T path → groups_at S r ≡ groups_at T r → is_fit_path I S r path ≡ is_fit_path I T r path
unfolding is_fit_path
fit-same I S T r path carried rows same =
    let some = some-of path carried in
    let back = same-back S T path rows in
    let good : is_good_path I S r path ≡ is_good_path I T r path = same-tests _ _ (good-to I S T r path some rows) (good-to I T S r path some back) in
    let in_time : is_in_time_path I S r path ≡ is_in_time_path I T r path = same-tests _ _ (time-to I S T r path some rows) (time-to I T S r path some back) in
    ap (λ (b : Bool). b && is_in_time_path I S r path && bound I r (groups_at S r) path) good
    ∙ ap (λ (b : Bool). is_good_path I T r path && b && bound I r (groups_at S r) path) in_time
    ∙ ap (λ (groups : List Group). is_good_path I T r path && is_in_time_path I T r path && bound I r groups path) same

pub carried-same : (I : Situation) (S T : PlanRows) (r : ℕ) (path : List (Leg × Cabin)) → HasSameRows S T path → groups_at S r ≡ groups_at T r → stays_carried I S r path ≡ stays_carried I T r path
carried-same I S T r path rows same =
    and-same_left (is_carried path) (is_carried path) (is_fit_path I S r path) (is_fit_path I T r path) refl (λ carried. fit-same I S T r path carried rows same)

passengers-same : (f g : List (Leg × Cabin) → Bool) (groups : List Group) → All (λ group. f group.path ≡ g group.path) groups → passengers_on f groups ≡ passengers_on g groups
passengers-same f g [] same = refl
passengers-same f g (group ∷ groups) same =
    let Same : Group → Type 0 = λ h. f h.path ≡ g h.path in
    let here : cond (f group.path) group.count 0 ≡ cond (g group.path) group.count 0 = ap (λ (b : Bool). cond b group.count 0) (All-head Same group groups same) in
    let rest = passengers-same f g groups (All-tail Same group groups same) in
    omega (arith, sum_by-cons (λ (h : Group). cond (f h.path) h.count 0) group groups, sum_by-cons (λ (h : Group). cond (g h.path) h.count 0) group groups, here, rest)

pub tidied-same : (I : Situation) (S T : PlanRows) (r : ℕ) → groups_at S r ≡ groups_at T r → HaveSameRows S T (groups_at S r) → groups_after_tidy I S r ≡ groups_after_tidy I T r
unfolding groups_after_tidy
tidied-same I S T r same rows =
    let groups = groups_at S r in
    let each : All (λ group. stays_carried I S r group.path ≡ stays_carried I T r group.path) groups = λ k d lt. carried-same I S T r (get_or groups k d).path (rows k d lt) same in
    let left : passengers_on (λ path. not (stays_carried I S r path)) groups ≡ passengers_on (λ path. not (stays_carried I T r path)) groups =
    passengers-same (λ path. not (stays_carried I S r path)) (λ path. not (stays_carried I T r path)) groups (λ k d lt. ap not (each k d lt)) in
    ap (λ (n : ℕ). group_of n [] ++ filter (λ (group : Group). stays_carried I S r group.path) groups) left
    ∙ ap (λ (kept : List Group). group_of (passengers_on (λ path. not (stays_carried I T r path)) groups) [] ++ kept) (filter-same (λ (group : Group). stays_carried I S r group.path) (λ (group : Group). stays_carried I T r group.path) groups each)
    ∙ ap (λ (had : List Group). group_of (passengers_on (λ path. not (stays_carried I T r path)) had) [] ++ filter (λ (group : Group). stays_carried I T r group.path) had) same

one-rows : (S T : PlanRows) (n : ℕ) → HaveSameRows S T (group_of n [])
one-rows S T n =
    elim (cases_Bool (eqb n 0)) [
      | inl none ↦ rw none (All-nil (λ (group : Group). HasSameRows S T group.path))
      | inr some ↦ rw some (λ k d lt i e within. absurd (empty-path n k d lt i within))
    ]
  where
    empty-path : (n k : ℕ) (d : Group) → k < 1 → (i : ℕ) → i < length (get_or (record { count = n; path = [] } ∷ []) k d).path → ⊥
    empty-path n zero d lt i within = omega (arith, within)
    empty-path n (suc k) d lt i within = omega (arith, lt)

pub tidied-rows : (I : Situation) (S T : PlanRows) (r : ℕ) (U : PlanRows) → HaveSameRows S T (groups_at U r) → HaveSameRows S T (groups_after_tidy I U r)
unfolding groups_after_tidy
tidied-rows I S T r U rows =
    let Same : Group → Type 0 = λ group. HasSameRows S T group.path in
    All-append Same (group_of (passengers_on (λ path. not (stays_carried I U r path)) (groups_at U r)) []) (filter (λ (group : Group). stays_carried I U r group.path) (groups_at U r))
    (one-rows S T (passengers_on (λ path. not (stays_carried I U r path)) (groups_at U r)))
    (All-filter (λ (group : Group). stays_carried I U r group.path) Same (groups_at U r) rows)
