-- A move on whose aircraft nobody pays is not better.
use Rattle.std.proofs.Common.{◌≡◌, ℕ, zero, suc, ◌+◌, ◌-◌, ◌*◌, ◌<◌, ◌≤◌, inl, inr, Bool, true, false, ◌&&◌, ◌||◌, not, cond, eqb, leb, ltb, List, [], ◌∷◌, ◌++◌, length, get_or, refl, sym, ap, subst, ◌∙◌, arith}
use Rattle.std.specs.Prelude.{Option, None, Some, sum_by}
use Rattle.std.specs.List.{All, AllByRecursion, list_all, list_any}
use Rattle.std.proofs.Math.Nat.{mul-add, mul-le-mul_left}
use Rattle.std.proofs.lemmas.Bool.{true≢false, cases_Bool, cases_eq, cases_lt, and_parts, and_from, or_parts, eqb-true, eq-eqb, ne_eqb, lt-ltb}
use Rattle.std.proofs.lemmas.List.{set_past}
use Rattle.std.proofs.lemmas.List.Elements.{All-nil, All-cons, recursion_from_All}
use Rattle.std.proofs.lemmas.List.Sums.{sum_by-cons, sum_by_push, sum_by-le-sum_by, length-filter}
use Rattle.desk_units.specs.declared.tariff.Term.TheVariants as term
use Rattle.desk_units.specs.declared.numbers.Leg.{Leg}
use Rattle.desk_units.specs.declared.numbers.Cabin.{Cabin}
use Rattle.tariff_prices.specs.Prices.{position_price}
use Rattle.desk_data.specs.declared.info.PositionInfo.{PositionInfo}
use Rattle.desk_data.specs.declared.row.Row.{Row}
use Rattle.desk_data.specs.declared.row.Row.TheVariants.{Flown, Cancelled}
use Rattle.desk_data.specs.declared.row.Group.{Group}
use Rattle.desk_data.specs.Situation.{Situation, legs_of, planes_of, leg_at, plane_at, reservations_of}
use Rattle.desk_data.specs.PlanRows.{PlanRows, row_at, groups_at, with_row}
use Rattle.desk_data.specs.Valid.{IsPlanFor, IsValid}
use Rattle.plan_moves.specs.Fits.{Fits, StepFits}
use Rattle.plan_moves.specs.declared.moves.Move.{Move}
use Rattle.plan_moves.specs.declared.moves.Step.{Step}
use Rattle.plan_moves.specs.declared.moves.Step.TheVariants.{Set, Push, Swap, Rebook, Tidy, Refill}
use Rattle.desk_rules.specs.Numbers.{numbers}
use Rattle.desk_rules.specs.Least.{least}
use Rattle.desk_rules.specs.Rows.{is_row}
use Rattle.desk_rules.specs.Maintenance.{is_flown_by, flies}
use Rattle.desk_rules.specs.Passengers.{is_flown}
use Rattle.desk_rules.specs.Cost.{cost, weight, rows_of, by_hour, operating_of, operating, operating_cost, is_wanted, ends_at, at_hand, missing_aircraft, position_cost}
use Rattle.desk_rules.specs.Words.{IsFeasible, IsFlown, TakesThere}
use Rattle.desk_rules.proofs.LeastLaws.{feasible-holds}
use Rattle.desk_model.specs.Swap.{row_after_swap}
use Rattle.desk_model.specs.Steps.{after_set, after_step, after_steps, after_move}
use Rattle.desk_model.proofs.SetLaws.{with_row-same, with_row-other}
use Rattle.desk_model.proofs.SwapLaws.{after_swap-row}
use Rattle.desk_model.proofs.MoveLaws.{after_steps-valid}
use Rattle.step_laws.proofs.PushedLaws.{pushed-flies}
use Rattle.plan_checks.specs.Amounts.{reservation_cost}
use Rattle.step_laws.proofs.SumLaws.{sum_same, sum_change}
use Rattle.plan_checks.proofs.BalanceLaws.{cost_is}
use Rattle.near_moves.specs.MoveParts.{flier}
use Rattle.near_moves.specs.Descent.{is_better}
use Rattle.near_moves.proofs.FromLaws.{or_cases, or_left}
use Rattle.near_moves.specs.RowRules.{keeps_rows}
use Rattle.near_untouched.specs.Alone.{IsLeftAlone, leaves_alone, cost_of_some}
use Rattle.near_moves.specs.Same.{is_of, IsOwn, AgreeOn, FliesSame}
use Rattle.near_moves.specs.Steps.{is_among}
use Rattle.near_moves.specs.Room.{IsSameRoom, HaveSameRoom, AreMadeAlike}
use Rattle.near_moves.proofs.FrameLaws.{steps-alike, start-alike}
use Rattle.near_moves.proofs.MoveLaws.{flier-flies}
use Rattle.near_moves.proofs.RuleLaws.{left_at-same}
use Rattle.near_untouched.specs.Planes.{is_on}
use Rattle.near_priced.proofs.DearLaws.{saves-dear, dear-worse}
use Rattle.near_priced.specs.Unpaid.{is_either, is_own_leg, flies_on, HasNoneToSave, may_serve, services, saved_by_ending, flown_again}
use Rattle.near_priced.proofs.FlyingLaws.{scaled}
use Rattle.near_priced.proofs.PricedLaws.{none-sum, any-off}

-- ---- sums

-- terms that are at most what three others come to: so are the sums
three-le : (f g h k : ℕ → ℕ) (n : ℕ) → ((y : ℕ) → f y ≤ g y + h y + k y) → sum_by f (numbers n) ≤ sum_by g (numbers n) + sum_by h (numbers n) + sum_by k (numbers n)
three-le f g h k zero less = omega arith
three-le f g h k (suc n) less =
    let rest = three-le f g h k n less in
    let here = less n in
    omega (arith, sum_by_push f (numbers n) n, sum_by_push g (numbers n) n, sum_by_push h (numbers n) n, sum_by_push k (numbers n) n, rest, here)

list-three-le : {X : Type 0} (f g h k : X → ℕ) (xs : List X) → ((x : X) → f x ≤ g x + h x + k x) → sum_by f xs ≤ sum_by g xs + sum_by h xs + sum_by k xs
list-three-le f g h k [] less = omega arith
list-three-le f g h k (x ∷ xs) less =
    let rest = list-three-le f g h k xs less in
    let here = less x in
    omega (arith, sum_by-cons f x xs, sum_by-cons g x xs, sum_by-cons h x xs, sum_by-cons k x xs, rest, here)

-- a term at one number alone
only : ℕ → ℕ → ℕ → ℕ
only a v y = cond (eqb y a) v 0

only-off : (a v y : ℕ) → (y ≡ a → ⊥) → only a v y ≡ 0
unfolding only
only-off a v y apart = rw (ne_eqb y a apart) refl

only-at : (a v : ℕ) → only a v a ≡ v
unfolding only
only-at a v = rw (eq-eqb a a refl) refl

only-le : (a v n : ℕ) → sum_by (only a v) (numbers n) ≤ v
only-le a v n =
    elim (cases_lt a n) [
      | inl lt ↦
          let change = sum_change (only a v) (λ y. 0) n a lt (only-off a v) in
          omega (arith, change, none-sum n, only-at a v)
      | inr past ↦
          let none : sum_by (only a v) (numbers n) ≡ sum_by (λ y. 0) (numbers n) = sum_same (only a v) (λ y. 0) n (λ y lt. only-off a v y (λ same. omega (arith, lt, past, same))) in
          omega (arith, none, none-sum n)
    ]

-- ---- tests

pub list-weaker : (f g : Step → Bool) (steps : List Step) → ((step : Step) → f step ≡ true → g step ≡ true) → list_all f steps ≡ true → list_all g steps ≡ true
list-weaker f g [] weaker all = refl
list-weaker f g (step ∷ steps) weaker all =
    let parts = and_parts (f step) (list_all f steps) all in
    and_from (g step) (list_all g steps) (weaker step parts.0) (list-weaker f g steps weaker parts.1)

-- ---- rows

own-row : (planes : ℕ → Bool) (row : Row) → (is_of planes row || not (is_flown row)) ≡ true → IsOwn planes row
own-row planes (Flown plane dep) own =
    elim (cases_Bool (planes plane.0)) [
      | inl on ↦ inl on
      | inr off ↦ absurd (true≢false (sym own ∙ ap (λ (b : Bool). b || false) off))
    ]
own-row planes Cancelled own = inr refl

of-flown : (planes : ℕ → Bool) (row : Row) → is_of planes row ≡ true → is_flown row ≡ true
of-flown planes (Flown plane dep) on = refl
of-flown planes Cancelled on = absurd cc

by-flown : (k : ℕ) (row : Row) → is_flown_by k row ≡ true → is_flown row ≡ true
by-flown k (Flown plane dep) on = refl
by-flown k Cancelled on = absurd cc

flown-own : (planes : ℕ → Bool) (row : Row) → is_flown row ≡ true → IsOwn planes row → is_of planes row ≡ true
flown-own planes (Flown plane dep) on (inl own) = own
flown-own planes (Flown plane dep) on (inr none) = absurd cc
flown-own planes Cancelled on own = absurd cc

cancelled-row : (row : Row) → is_flown row ≡ false → row ≡ Cancelled
cancelled-row (Flown plane dep) off = absurd cc
cancelled-row Cancelled off = refl

same-cancelled : (row was : Row) → is_flown row ≡ false → is_flown was ≡ false → is_row row was ≡ true
same-cancelled (Flown plane dep) was off gone = absurd cc
same-cancelled Cancelled (Flown plane dep) off gone = absurd cc
same-cancelled Cancelled Cancelled off gone = refl

-- ---- legs that are flown stay so

swapped-flown : (p q at : ℕ) (row : Row) → is_flown row ≡ true → is_flown (row_after_swap p q at row) ≡ true
swapped-flown p q at (Flown plane dep) on =
    elim (cases_Bool (leb at dep.0)) [
      | inl late ↦ rw late refl
      | inr soon ↦ rw soon refl
    ]
swapped-flown p q at Cancelled on = absurd cc

set-flown : (T : PlanRows) (x y : ℕ) (new : Row) → is_flown new ≡ true → is_flown (row_at T y) ≡ true → is_flown (row_at (with_row T x new) y) ≡ true
set-flown T x y new flown on =
    elim (cases_eq y x) [
      | inr other ↦ ap is_flown (with_row-other T x y new other) ∙ on
      | inl is ↦ elim (cases_lt x (length T.rows)) [
        | inl within ↦ ap (λ (k : ℕ). is_flown (row_at (with_row T x new) k)) is ∙ ap is_flown (with_row-same T x new within) ∙ flown
        | inr past ↦ ap (λ (rows : List Row). is_flown (row_at (record T { rows = rows }) y)) (set_past T.rows x new past) ∙ on
      ]
    ]

step-flown : (P : PlanRows) (a b : ℕ) (I : Situation) (T : PlanRows) (step : Step) (y : ℕ) → flies_on P a b step ≡ true → is_flown (row_at T y) ≡ true → is_flown (row_at (after_step I T step) y) ≡ true
unfolding after_step
step-flown P a b I T (Set leg was new) y keeps on =
    let parts = and_parts (is_own_leg P a b leg.0) (is_of (is_either a b) new) keeps in
    elim (cases_Bool (is_row (row_at T leg.0) was)) [
      | inl is ↦ rw is (set-flown T leg.0 y new (of-flown (is_either a b) new parts.1) on)
      | inr other ↦ rw other on
    ]
step-flown P a b I T (Push plane after) y keeps on =
    let k = flier (row_at T y) in
    by-flown k _ (pushed-flies I T plane.0 after k y ∙ flier-flies T y on)
step-flown P a b I T (Swap first second at) y keeps on = ap is_flown (after_swap-row T first.0 second.0 at.0 y) ∙ swapped-flown first.0 second.0 at.0 (row_at T y) on
step-flown P a b I T (Rebook res path to count) y keeps on = absurd cc
step-flown P a b I T Tidy y keeps on = absurd cc
step-flown P a b I T (Refill leg) y keeps on = absurd cc

steps-flown : (P : PlanRows) (a b : ℕ) (I : Situation) (T : PlanRows) (steps : List Step) (y : ℕ) → list_all (flies_on P a b) steps ≡ true → is_flown (row_at T y) ≡ true → is_flown (row_at (after_steps I T steps) y) ≡ true
steps-flown P a b I T [] y keeps on = on
steps-flown P a b I T (step ∷ steps) y keeps on =
    let parts = and_parts (flies_on P a b step) (list_all (flies_on P a b) steps) keeps in
    steps-flown P a b I (after_step I T step) steps y parts.1 (step-flown P a b I T step y parts.0 on)

-- ---- what the first steps make

on-among : (P : PlanRows) (a b : ℕ) (step : Step) → flies_on P a b step ≡ true → is_among (is_either a b) (is_own_leg P a b) step ≡ true
on-among P a b (Set leg was new) on =
    let parts = and_parts (is_own_leg P a b leg.0) (is_of (is_either a b) new) on in
    and_from (is_own_leg P a b leg.0) (is_of (is_either a b) new || not (is_flown new)) parts.0 (or_left (is_of (is_either a b) new) (not (is_flown new)) parts.1)
on-among P a b (Push plane after) on = on
on-among P a b (Swap first second at) on = on
on-among P a b (Rebook res path to count) on = absurd cc
on-among P a b Tidy on = absurd cc
on-among P a b (Refill leg) on = absurd cc

start-own : (P : PlanRows) (a b : ℕ) → AgreeOn (is_either a b) (is_own_leg P a b) P P
start-own P a b = record {
  many = refl;
  same = λ y here. refl;
  own = λ y here. own-row (is_either a b) (row_at P y) here;
  before = λ y off. (or_parts (is_of (is_either a b) (row_at P y)) (not (is_flown (row_at P y))) off).0;
  now = λ y off. (or_parts (is_of (is_either a b) (row_at P y)) (not (is_flown (row_at P y))) off).0;
}

room-itself : (n k : ℕ) (cap : Option ℕ) → IsSameRoom n k k cap
room-itself n k None = tt
room-itself n k (Some cap) = inl refl

made : (I : Situation) (P : PlanRows) (a b : ℕ) (first : List Step) → list_all (flies_on P a b) first ≡ true → AreMadeAlike (is_either a b) (is_own_leg P a b) P P (after_steps I P first) (after_steps I P first)
made I P a b first on =
    let legs = is_own_leg P a b in
    let room : HaveSameRoom legs I P P = record {
      departures = λ x h here. room-itself _ _ _;
      arrivals = λ x h here. room-itself _ _ _;
    } in
    steps-alike (is_either a b) legs I P P P P first room (list-weaker (flies_on P a b) (is_among (is_either a b) legs) first (on-among P a b) on) (start-alike (is_either a b) legs P P (start-own P a b))

-- ---- flying

either-flying : (I : Situation) (a b y : ℕ) (row : Row) → (plane_at I a).hourly.0 ≡ (plane_at I b).hourly.0 → is_of (is_either a b) row ≡ true → operating_of I y row ≡ by_hour (weight I term.Operating) (plane_at I a).hourly.0 (leg_at I y).block
either-flying I a b y (Flown plane dep) same on =
    elim (or_cases (eqb plane.0 a) (eqb plane.0 b) on) [
      | inl one ↦ ap (λ (p : ℕ). by_hour (weight I term.Operating) (plane_at I p).hourly.0 (leg_at I y).block) (eqb-true plane.0 a one)
      | inr two ↦
          ap (λ (p : ℕ). by_hour (weight I term.Operating) (plane_at I p).hourly.0 (leg_at I y).block) (eqb-true plane.0 b two)
          ∙ ap (λ (price : ℕ). by_hour (weight I term.Operating) price (leg_at I y).block) (sym same)
    ]
either-flying I a b y Cancelled same on = absurd cc

module _ (I : Situation) (P : PlanRows) (a b : ℕ) (first : List Step) (on : list_all (flies_on P a b) first ≡ true) (hourly : (plane_at I a).hourly.0 ≡ (plane_at I b).hourly.0) where
  abbrev planes : ℕ → Bool
  planes = is_either a b

  abbrev legs : ℕ → Bool
  legs = is_own_leg P a b

  abbrev S : PlanRows
  S = after_steps I P first

  alike : AreMadeAlike planes legs P P S S
  alike = made I P a b first on

  -- a leg that is flown and one of theirs costs the same in the plan that is made
  flying-le : (y : ℕ) → operating I P y ≤ operating I S y
  flying-le y =
      elim (cases_Bool (legs y)) [
        | inr off ↦ (let same = ap (operating_of I y) (alike.first y off) in omega (arith, same))
        | inl here ↦ elim (cases_Bool (is_flown (row_at P y))) [
          | inr gone ↦ (let none : operating I P y ≡ 0 = ap (operating_of I y) (cancelled-row (row_at P y) gone) in omega (arith, none))
          | inl flown ↦
              let was : is_of planes (row_at P y) ≡ true = flown-own planes (row_at P y) flown ((start-own P a b).own y here) in
              let is : is_of planes (row_at S y) ≡ true = flown-own planes (row_at S y) (steps-flown P a b I P first y on flown) (alike.agree.own y here) in
              let one = either-flying I a b y (row_at P y) hourly was in
              let two = either-flying I a b y (row_at S y) hourly is in
              omega (arith, one, two)
        ]
      ]

  pub flying-all : operating_cost I P ≤ operating_cost I S
  unfolding operating_cost
  flying-all = sum_by-le-sum_by (operating I P) (operating I S) (numbers (legs_of I)) flying-le

  -- ---- positions

  not-own : (p : ℕ) (row : Row) → planes p ≡ false → IsOwn planes row → is_flown_by p row ≡ false
  not-own p (Flown plane dep) other (inl own) =
      elim (cases_Bool (eqb plane.0 p)) [
        | inr apart ↦ apart
        | inl same ↦ absurd (true≢false (sym own ∙ ap planes (eqb-true plane.0 p same) ∙ other))
      ]
  not-own p (Flown plane dep) other (inr none) = absurd cc
  not-own p Cancelled other own = refl

  other-flies : (p : ℕ) → planes p ≡ false → FliesSame S P p
  other-flies p other x =
      elim (cases_Bool (legs x)) [
        | inl here ↦ inr (not-own p (row_at S x) other (alike.agree.own x here), not-own p (row_at P x) other ((start-own P a b).own x here))
        | inr off ↦ inl (alike.first x off)
      ]

  other-ends : (p airport : ℕ) → planes p ≡ false → ends_at I S p airport ≡ ends_at I P p airport
  other-ends p airport other = ap (λ (c : Bool). not (plane_at I p).surface && c) (left_at-same I S P p (other-flies p other) I.parts.to.0 airport)

  -- 1 where an aircraft is at hand for a position, and where it may come to be
  abbrev counted : PlanRows → PositionInfo → ℕ → ℕ
  counted R position p = cond (is_wanted position (plane_at I p) && ends_at I R p position.airport.0) 1 0

  abbrev coming : PositionInfo → ℕ → ℕ
  coming position p = cond (is_wanted position (plane_at I p) && not (ends_at I P p position.airport.0)) 1 0

  -- the second one counts where it is another one
  abbrev second : ℕ → ℕ
  second n = cond (eqb a b) 0 n

  one-more : (w e s : Bool) → cond (w && s) 1 0 ≤ cond (w && e) 1 0 + cond (w && not e) 1 0
  one-more false e s = omega arith
  one-more true true true = omega arith
  one-more true true false = omega arith
  one-more true false true = omega arith
  one-more true false false = omega arith

  more-at : (position : PositionInfo) (p : ℕ) → counted S position p ≤ counted P position p + coming position p
  more-at position p = one-more (is_wanted position (plane_at I p)) (ends_at I P p position.airport.0) (ends_at I S p position.airport.0)

  counted-le : (position : PositionInfo) (p : ℕ) → counted S position p ≤ counted P position p + only a (coming position a) p + only b (second (coming position b)) p
  counted-le position p =
      elim (cases_eq p a) [
        | inl first_one ↦
            let one = more-at position p in
            let is : coming position p ≡ coming position a = ap (coming position) first_one in
            let here : only a (coming position a) p ≡ coming position a = ap (only a (coming position a)) first_one ∙ only-at a (coming position a) in
            omega (arith, one, is, here)
        | inr not_first ↦ elim (cases_eq p b) [
          | inl second_one ↦
              let one = more-at position p in
              let is : coming position p ≡ coming position b = ap (coming position) second_one in
              let apart : eqb a b ≡ false = ne_eqb a b (λ same. not_first (second_one ∙ sym same)) in
              let whole : second (coming position b) ≡ coming position b = rw apart refl in
              let here : only b (second (coming position b)) p ≡ second (coming position b) = ap (only b (second (coming position b))) second_one ∙ only-at b (second (coming position b)) in
              omega (arith, one, is, whole, here)
          | inr not_second ↦
              let other : planes p ≡ false = rw (ne_eqb p a not_first, ne_eqb p b not_second) refl in
              let same : counted S position p ≡ counted P position p = ap (λ (e : Bool). cond (is_wanted position (plane_at I p) && e) 1 0) (other-ends p position.airport.0 other) in
              omega (arith, same)
        ]
      ]

  hand-is : (R : PlanRows) (position : PositionInfo) → at_hand I R position ≡ sum_by (counted R position) (numbers (planes_of I))
  hand-is R position = length-filter (λ p. is_wanted position (plane_at I p) && ends_at I R p position.airport.0) (numbers (planes_of I))

  hand-le : (position : PositionInfo) → at_hand I S position ≤ at_hand I P position + coming position a + second (coming position b)
  hand-le position =
      let sums = three-le (counted S position) (counted P position) (only a (coming position a)) (only b (second (coming position b))) (planes_of I) (counted-le position) in
      omega (arith, sums, hand-is S position, hand-is P position, only-le a (coming position a) (planes_of I), only-le b (second (coming position b)) (planes_of I))

  -- how many aircraft a position lacks, and how many it may come to have
  abbrev gap : PlanRows → PositionInfo → ℕ
  gap R position = position.count - at_hand I R position

  abbrev serving : ℕ → PositionInfo → ℕ
  serving p position = cond (may_serve I P p position) 1 0

  serving-is : (position : PositionInfo) (p : ℕ) → at_hand I P position < position.count → coming position p ≡ serving p position
  serving-is position p lacks =
      let less : ltb (at_hand I P position) position.count ≡ true = lt-ltb (at_hand I P position) position.count lacks in
      rw less (plain (is_wanted position (plane_at I p)) (not (ends_at I P p position.airport.0)))
    where
      one_if : Bool → ℕ
      one_if b = cond b 1 0

      plain : (w e : Bool) → one_if (w && e) ≡ one_if (w && (e && true))
      plain false e = refl
      plain true true = refl
      plain true false = refl

  gap-le : (position : PositionInfo) → gap P position ≤ gap S position + serving a position + second (serving b position)
  gap-le position =
      elim (cases_lt (at_hand I P position) position.count) [
        | inr served ↦ omega (arith, served)
        | inl lacks ↦
            let more = hand-le position in
            let one = serving-is position a lacks in
            let two : second (coming position b) ≡ second (serving b position) = ap second (serving-is position b lacks) in
            omega (arith, more, one, two)
      ]

  second-sum : (xs : List PositionInfo) → sum_by (λ position. second (serving b position)) xs ≡ second (sum_by (serving b) xs)
  second-sum xs =
      elim (cases_Bool (eqb a b)) [
        | inr apart ↦ rw apart refl
        | inl same ↦ rw same (zeros xs)
      ]
    where
      zeros : (ys : List PositionInfo) → sum_by (λ position. 0) ys ≡ 0
      zeros [] = refl
      zeros (y ∷ ys) = (let rest = zeros ys in omega (arith, sum_by-cons (λ position. 0) y ys, rest))

  abbrev price : ℕ
  price = 60 * weight I term.Position * position_price (rows_of I)

  positions-is : (R : PlanRows) → position_cost I R ≡ price * sum_by (gap R) I.parts.positions
  unfolding position_cost missing_aircraft
  positions-is R = scaled price (gap R) I.parts.positions

  pub positions-all : position_cost I P ≤ position_cost I S + saved_by_ending I P a b
  positions-all =
      let positions = I.parts.positions in
      let sums = list-three-le (gap P) (gap S) (serving a) (λ position. second (serving b position)) positions gap-le in
      let all : sum_by (gap P) positions ≤ sum_by (gap S) positions + (services I P a + second (services I P b)) = omega (arith, sums, second-sum positions) in
      let priced = mul-le-mul_left price all in
      let apart = mul-add price (sum_by (gap S) positions) (services I P a + second (services I P b)) in
      omega (arith, priced, apart, positions-is P, positions-is S)

  -- ---- passengers

  -- a leg that is flown by neither keeps its row
  off-leg : (y : ℕ) → IsFlown P y → flies P a y ≡ false → flies P b y ≡ false → row_at P y ≡ row_at S y
  off-leg y flown one two =
      let row : row_at P y ≡ Flown (record { 0 = flown.plane }) (record { 0 = flown.dep }) = flown.flown in
      let first_off : eqb flown.plane a ≡ false = sym (ap (is_flown_by a) row) ∙ one in
      let second_off : eqb flown.plane b ≡ false = sym (ap (is_flown_by b) row) ∙ two in
      let off : legs y ≡ false = ap (λ (r : Row). is_of planes r || not (is_flown r)) row ∙ rw (first_off, second_off) refl in
      sym (alike.first y off)

  none-left : (group : Group) → group.path ≡ [] → (test : Leg × Cabin → Type 0) → All test group.path
  none-left group none test = subst (All test) (sym none) (All-nil test)

  alone : IsFeasible I P → (others : List Step) (r : ℕ) → r < reservations_of I → is_on (flies P a) P r ≡ false → is_on (flies P b) P r ≡ false → list_all (leaves_alone I r) others ≡ true → IsLeftAlone I P S others r
  alone feasible others r lt one two leaves = record {
    paths = λ k d within i e short.
        let groups = groups_at P r in
        let group = get_or groups k d in
        let pair = get_or group.path i e in
        let full : group.path ≡ [] → ⊥ = λ none. (let long : length group.path ≡ 0 = ap length none in omega (arith, long, short)) in
        let there : TakesThere I P r group.path = feasible.c13 r lt k d within full in
        let off_one = any-off (λ (q : Leg × Cabin). flies P a q.0.0) group.path (any-off (λ (g : Group). list_any (λ (q : Leg × Cabin). flies P a q.0.0) g.path) groups one k d within) i e short in
        let off_two = any-off (λ (q : Leg × Cabin). flies P b q.0.0) group.path (any-off (λ (g : Group). list_any (λ (q : Leg × Cabin). flies P b q.0.0) g.path) groups two k d within) i e short in
        off-leg pair.0.0 (there.flown i e short) off_one off_two;
    steps = leaves;
  }

-- ---- a leg that is flown again

flown-more : (I : Situation) (P : PlanRows) (a b : ℕ) (leg : Leg) (was new : Row) (rest : List Step) → list_all (flies_on P a b) (Set leg was new ∷ rest) ≡ true → (plane_at I a).hourly.0 ≡ (plane_at I b).hourly.0 → leg.0 < legs_of I → IsPlanFor I P → is_flown (row_at P leg.0) ≡ false → is_flown was ≡ false → operating_cost I P + operating_of I leg.0 new ≤ operating_cost I (after_steps I P (Set leg was new ∷ rest))
unfolding operating_cost after_step
flown-more I P a b leg was new rest on hourly lt plan gone was_gone =
    let x = leg.0 in
    let steps = Set leg was new ∷ rest in
    let S = after_steps I P steps in
    let g = operating_of I x new in
    let parts = and_parts (flies_on P a b (Set leg was new)) (list_all (flies_on P a b) rest) on in
    let own = and_parts (is_own_leg P a b x) (is_of (is_either a b) new) parts.0 in
    let long : x < length P.rows = subst (λ (n : ℕ). x < n) (sym plan.legs) lt in
    let same : is_row (row_at P x) was ≡ true = same-cancelled (row_at P x) was gone was_gone in
    let set : after_set P x was new ≡ with_row P x new = rw same refl in
    let flown : is_flown (row_at (after_set P x was new) x) ≡ true = ap (λ (R : PlanRows). is_flown (row_at R x)) set ∙ ap is_flown (with_row-same P x new long) ∙ of-flown (is_either a b) new own.1 in
    let stays : is_flown (row_at S x) ≡ true = steps-flown P a b I (after_set P x was new) rest x parts.1 flown in
    let by : is_of (is_either a b) (row_at S x) ≡ true = flown-own (is_either a b) (row_at S x) stays ((made I P a b steps on).agree.own x own.0) in
    let price : operating I S x ≡ g = either-flying I a b x (row_at S x) hourly by ∙ sym (either-flying I a b x new hourly own.1) in
    let none : operating I P x ≡ 0 = ap (operating_of I x) (cancelled-row (row_at P x) gone) in
    let with_x : ℕ → ℕ = λ y. operating I P y + only x g y in
    let less : (y : ℕ) → with_x y ≤ operating I S y = λ y.
    elim (cases_eq y x) [
      | inl is ↦
          let here : with_x y ≡ with_x x = ap with_x is in
          let there : operating I S y ≡ operating I S x = ap (operating I S) is in
          omega (arith, here, there, price, none, only-at x g)
      | inr other ↦ omega (arith, only-off x g y other, flying-le I P a b steps on hourly y)
    ] in
    let sums = sum_by-le-sum_by with_x (operating I S) (numbers (legs_of I)) less in
    let change = sum_change with_x (operating I P) (legs_of I) x lt (λ y other. (let off = only-off x g y other in omega (arith, off))) in
    omega (arith, sums, change, only-at x g)

again-le : (I : Situation) (P : PlanRows) (a b : ℕ) (first : List Step) → AllByRecursion (StepFits I) first → list_all (flies_on P a b) first ≡ true → (plane_at I a).hourly.0 ≡ (plane_at I b).hourly.0 → IsPlanFor I P → operating_cost I P + flown_again I P first ≤ operating_cost I (after_steps I P first)
again-le I P a b [] fits on hourly plan = (let all = flying-all I P a b [] on hourly in omega (arith, all))
again-le I P a b (Set leg was new ∷ rest) fits on hourly plan =
    elim (cases_Bool (is_flown (row_at P leg.0) || is_flown was)) [
      | inl flown ↦ rw flown (let all = flying-all I P a b (Set leg was new ∷ rest) on hourly in omega (arith, all))
      | inr gone ↦
          let parts = or_parts (is_flown (row_at P leg.0)) (is_flown was) gone in
          rw gone (flown-more I P a b leg was new rest on hourly fits.0.0 plan parts.0 parts.1)
    ]
again-le I P a b (Push plane after ∷ rest) fits on hourly plan = (let all = flying-all I P a b (Push plane after ∷ rest) on hourly in omega (arith, all))
again-le I P a b (Swap one two at ∷ rest) fits on hourly plan = (let all = flying-all I P a b (Swap one two at ∷ rest) on hourly in omega (arith, all))
again-le I P a b (Rebook res path to count ∷ rest) fits on hourly plan = absurd cc
again-le I P a b (Tidy ∷ rest) fits on hourly plan = absurd cc
again-le I P a b (Refill leg ∷ rest) fits on hourly plan = absurd cc

-- ---- what everybody costs

abbrev costs_something : Situation → PlanRows → ℕ → Bool
costs_something I P r = not (eqb (reservation_cost I P r) 0)

costs-apart : (n : ℕ) → not (eqb n 0) ≡ true → n ≡ 0 → ⊥
costs-apart n some none = true≢false (sym some ∙ ap not (eq-eqb n 0 none))

part-all : (n : ℕ) → cond (not (eqb n 0)) n 0 ≡ n
part-all n =
    elim (cases_eq n 0) [
      | inl none ↦ rw (eq-eqb n 0 none) (sym none)
      | inr some ↦ rw (ne_eqb n 0 some) refl
    ]

all-cost : (I : Situation) (P : PlanRows) → cost_of_some I P (costs_something I P) ≡ sum_by (reservation_cost I P) (numbers (reservations_of I))
all-cost I P =
    sum_same (λ r. cond (costs_something I P r) (reservation_cost I P r) 0) (reservation_cost I P) (reservations_of I) (λ r lt. part-all (reservation_cost I P r))

-- ---- a whole move

first-fit : (I : Situation) (first others : List Step) → AllByRecursion (StepFits I) (first ++ others) → AllByRecursion (StepFits I) first
first-fit I [] others fits = tt
first-fit I (step ∷ first) others fits = (fits.0, first-fit I first others fits.1)

pub unpaid-dear : (I : Situation) (P : PlanRows) (m : Move) (first others : List Step) (a b : ℕ) → IsValid I → IsPlanFor I P → least I P ≡ None → Fits I m → m.steps ≡ first ++ others → list_all (flies_on P a b) first ≡ true → list_all keeps_rows others ≡ true → (plane_at I a).hourly.0 ≡ (plane_at I b).hourly.0 → ((r : ℕ) → r < reservations_of I → HasNoneToSave I P a b others r) → saved_by_ending I P a b ≤ flown_again I P first → cost I P ≤ cost I (after_move I P m)
unpaid-dear I P m first others a b valid plan feasible fits steps on keeps hourly unpaid less =
    let all : AllByRecursion (StepFits I) first = first-fit I first others (subst (AllByRecursion (StepFits I)) steps (recursion_from_All (StepFits I) m.steps fits.each)) in
    let flying = again-le I P a b first all on hourly plan in
    let positions = positions-all I P a b first on hourly in
    saves-dear I P m first others (costs_something I P) valid (after_steps-valid I P first valid all plan) feasible steps (made I P a b first on).groups keeps
    (λ r lt some. elim (unpaid r lt) [
      | inl none ↦ absurd (costs-apart (reservation_cost I P r) some none)
      | inr off ↦ alone I P a b first on hourly (feasible-holds I P feasible) others r lt off.0 off.1 off.2
    ])
    (omega (arith, cost_is I P, all-cost I P, flying, positions, less))

pub unpaid-worse : (I : Situation) (P : PlanRows) (m : Move) (first others : List Step) (a b : ℕ) → IsValid I → IsPlanFor I P → least I P ≡ None → Fits I m → m.steps ≡ first ++ others → list_all (flies_on P a b) first ≡ true → list_all keeps_rows others ≡ true → (plane_at I a).hourly.0 ≡ (plane_at I b).hourly.0 → ((r : ℕ) → r < reservations_of I → HasNoneToSave I P a b others r) → saved_by_ending I P a b ≤ flown_again I P first → is_better I P m ≡ false
unpaid-worse I P m first others a b valid plan feasible fits steps on keeps hourly unpaid less =
    dear-worse I P m (unpaid-dear I P m first others a b valid plan feasible fits steps on keeps hourly unpaid less)
