-- Which legs keep their rows where an aircraft loses legs, and what the positions save by that.
use Rattle.std.proofs.Common.{◌≡◌, ◌≢◌, ℕ, ◌+◌, ◌-◌, ◌*◌, ◌<◌, ◌≤◌, ◌⊎◌, inl, inr, Bool, true, false, ◌&&◌, not, cond, eqb, ltb, List, [], ◌∷◌, refl, sym, ap, ◌∙◌, arith}
use Rattle.std.specs.Prelude.{Option, None, Some, sum_by}
use Rattle.std.specs.List.{All, list_all}
use Rattle.std.proofs.Math.Nat.{mul-add, mul-le-mul_left}
use Rattle.std.proofs.lemmas.Bool.{cases_Bool, cases_eq, cases_lt, and_from, eq-eqb, ne_eqb, eqb-true, lt-ltb}
use Rattle.std.proofs.lemmas.List.Elements.{All-head, All-tail}
use Rattle.std.proofs.lemmas.List.Sums.{sum_by-cons, length-filter}
use Rattle.desk_units.specs.declared.tariff.Term.TheVariants as term
use Rattle.tariff_prices.specs.Prices.{position_price}
use Rattle.desk_data.specs.declared.info.PositionInfo.{PositionInfo}
use Rattle.desk_data.specs.declared.row.Row.{Row}
use Rattle.desk_data.specs.declared.row.Row.TheVariants.{Flown, Cancelled}
use Rattle.desk_data.specs.Situation.{Situation, planes_of, plane_at}
use Rattle.desk_data.specs.PlanRows.{PlanRows, row_at}
use Rattle.desk_data.specs.Valid.{IsPlanFor}
use Rattle.desk_rules.specs.Cost.{weight, rows_of, is_wanted, ends_at, at_hand, missing_aircraft, position_cost}
use Rattle.desk_rules.specs.Maintenance.{is_flown_by, flies}
use Rattle.desk_rules.specs.Numbers.{numbers}
use Rattle.desk_model.specs.Push.{rotation}
use Rattle.desk_model.specs.Steps.{after_steps}
use Rattle.desk_model.proofs.RotationOrder.{rotation-each}
use Rattle.near_moves.specs.MoveParts.{plane}
use Rattle.near_moves.specs.Same.{FliesSame, is_of, AgreeOn}
use Rattle.near_moves.specs.Steps.{is_among}
use Rattle.near_moves.specs.Room.{IsSameRoom, HaveSameRoom, AreMadeAlike}
use Rattle.near_moves.proofs.FrameLaws.{steps-alike, start-alike}
use Rattle.near_moves.proofs.RuleLaws.{left_at-same}
use Rattle.near_priced.specs.Unpaid.{may_serve, services, saved_by_ending}
use Rattle.near_draft.specs.Drafts.{AreAllChanged}
use Rattle.near_dear.proofs.CancelLaws.{first_steps}
use Rattle.near_dear.proofs.OwedSumLaws.{two-le, one-le}
use Rattle.near_dear.proofs.FlownLaws.{flown-within}

-- ---- the steps change rows of the aircraft's legs alone

-- the aircraft alone, and its legs
abbrev pub this : ℕ → ℕ → Bool
this p q = eqb q p

abbrev pub own_legs : PlanRows → ℕ → ℕ → Bool
own_legs P p y = is_of (this p) (row_at P y)

pub by-this : (p : ℕ) (row : Row) → is_of (this p) row ≡ is_flown_by p row
by-this p (Flown plane dep) = refl
by-this p Cancelled = refl

start-own : (P : PlanRows) (p : ℕ) → AgreeOn (this p) (own_legs P p) P P
start-own P p = record {
  many = refl;
  same = λ y here. refl;
  own = λ y here. inl here;
  before = λ y off. off;
  now = λ y off. off;
}

pub room-itself : (n k : ℕ) (cap : Option ℕ) → IsSameRoom n k k cap
room-itself n k None = tt
room-itself n k (Some cap) = inl refl

all-among : (P : PlanRows) (p : ℕ) (legs : List ℕ) → All (λ x. flies P p x ≡ true) legs → list_all (is_among (this p) (own_legs P p)) (first_steps P p legs) ≡ true
all-among P p [] flown = and_from (eqb p p) true (eq-eqb p p refl) refl
all-among P p (x ∷ legs) flown =
    let own : own_legs P p x ≡ true = by-this p (row_at P x) ∙ All-head (λ y. flies P p y ≡ true) x legs flown in
    and_from (own_legs P p x && true) (list_all (is_among (this p) (own_legs P p)) (first_steps P p legs))
    (and_from (own_legs P p x) true own refl)
    (all-among P p legs (All-tail (λ y. flies P p y ≡ true) x legs flown))

module _ (I : Situation) (P : PlanRows) (p : ℕ) (legs : List ℕ) (flown : All (λ x. flies P p x ≡ true) legs) where
  abbrev S : PlanRows
  S = after_steps I P (first_steps P p legs)

  pub alike : AreMadeAlike (this p) (own_legs P p) P P S S
  alike =
      let room : HaveSameRoom (own_legs P p) I P P = record {
        departures = λ x h here. room-itself _ _ _;
        arrivals = λ x h here. room-itself _ _ _;
      } in
      steps-alike (this p) (own_legs P p) I P P P P (first_steps P p legs) room (all-among P p legs flown) (start-alike (this p) (own_legs P p) P P (start-own P p))

  -- each leg keeps its row or is one of the aircraft's
  pub all-changed : IsPlanFor I P → AreAllChanged P S (rotation I P p)
  all-changed plan x =
      elim (cases_Bool (own_legs P p x)) [
        | inr off ↦ inl (sym (alike.first x off))
        | inl here ↦
            let on : flies P p x ≡ true = sym (by-this p (row_at P x)) ∙ here in
            inr (rotation-each I P p x (flown-within I P p x plan on) on)
      ]

  -- ---- the other aircraft fly what they did

  not-of : (u : ℕ) (row : Row) → u ≢ p → is_of (this p) row ≡ true → is_flown_by u row ≡ false
  not-of u (Flown n d) other on =
      elim (cases_eq n.0 u) [
        | inr apart ↦ ne_eqb n.0 u apart
        | inl same ↦ absurd (other (sym same ∙ eqb-true n.0 p on))
      ]
  not-of u Cancelled other on = refl

  not-own : (u : ℕ) (row : Row) → u ≢ p → (is_of (this p) row ≡ true) ⊎ (row ≡ Cancelled) → is_flown_by u row ≡ false
  not-own u row other (inl on) = not-of u row other on
  not-own u row other (inr gone) = ap (is_flown_by u) gone

  others-fly : (u : ℕ) → u ≢ p → FliesSame S P u
  others-fly u other x =
      elim (cases_Bool (own_legs P p x)) [
        | inr off ↦ inl (alike.first x off)
        | inl here ↦ inr (not-own u (row_at S x) other (alike.agree.own x here), not-of u (row_at P x) other here)
      ]

  other-ends : (u airport : ℕ) → u ≢ p → ends_at I S u airport ≡ ends_at I P u airport
  other-ends u airport other = ap (λ (b : Bool). not (plane_at I u).surface && b) (left_at-same I S P u (others-fly u other) I.parts.to.0 airport)

  -- ---- positions

  -- 1 where an aircraft is at hand for a position, and where it may come to be
  abbrev counted : PlanRows → PositionInfo → ℕ → ℕ
  counted R position u = cond (is_wanted position (plane_at I u) && ends_at I R u position.airport.0) 1 0

  abbrev coming : PositionInfo → ℕ → ℕ
  coming position u = cond (is_wanted position (plane_at I u) && not (ends_at I P u position.airport.0)) 1 0

  one-more : (w e s : Bool) → cond (w && s) 1 0 ≤ cond (w && e) 1 0 + cond (w && not e) 1 0
  one-more false e s = omega arith
  one-more true true true = omega arith
  one-more true true false = omega arith
  one-more true false true = omega arith
  one-more true false false = omega arith

  counted-le : (position : PositionInfo) (u : ℕ) → counted S position u ≤ counted P position u + cond (eqb p u) (coming position u) 0
  counted-le position u =
      elim (cases_eq u p) [
        | inl same ↦
            let more = one-more (is_wanted position (plane_at I u)) (ends_at I P u position.airport.0) (ends_at I S u position.airport.0) in
            let here : cond (eqb p u) (coming position u) 0 ≡ coming position u = rw (eq-eqb p u (sym same)) refl in
            omega (arith, more, here)
        | inr other ↦
            let same : counted S position u ≡ counted P position u = ap (λ (e : Bool). cond (is_wanted position (plane_at I u) && e) 1 0) (other-ends u position.airport.0 other) in
            omega (arith, same)
      ]

  hand-is : (R : PlanRows) (position : PositionInfo) → at_hand I R position ≡ sum_by (counted R position) (numbers (planes_of I))
  hand-is R position = length-filter (λ u. is_wanted position (plane_at I u) && ends_at I R u position.airport.0) (numbers (planes_of I))

  hand-le : (position : PositionInfo) → at_hand I S position ≤ at_hand I P position + coming position p
  hand-le position =
      let n = planes_of I in
      let sums = two-le (counted S position) (counted P position) (λ u. cond (eqb p u) (coming position u) 0) n (counted-le position) in
      let one = one-le (coming position) n p in
      omega (arith, sums, one, hand-is S position, hand-is P position)

  -- how many aircraft a position lacks, and whether it may come to have one more
  abbrev gap : PlanRows → PositionInfo → ℕ
  gap R position = position.count - at_hand I R position

  abbrev serving : PositionInfo → ℕ
  serving position = cond (may_serve I P p position) 1 0

  abbrev one_if : Bool → ℕ
  one_if b = cond b 1 0

  plain : (w e : Bool) → one_if (w && e) ≡ one_if (w && (e && true))
  plain false e = refl
  plain true true = refl
  plain true false = refl

  serving-is : (position : PositionInfo) → at_hand I P position < position.count → coming position p ≡ serving position
  serving-is position lacks =
      let less : ltb (at_hand I P position) position.count ≡ true = lt-ltb (at_hand I P position) position.count lacks in
      rw less (plain (is_wanted position (plane_at I p)) (not (ends_at I P p position.airport.0)))

  gap-le : (position : PositionInfo) → gap P position ≤ gap S position + serving position
  gap-le position =
      elim (cases_lt (at_hand I P position) position.count) [
        | inr served ↦ omega (arith, served)
        | inl lacks ↦
            let more = hand-le position in
            let one = serving-is position lacks in
            omega (arith, more, one)
      ]

  list-two-le : (f g h : PositionInfo → ℕ) (xs : List PositionInfo) → ((x : PositionInfo) → f x ≤ g x + h x) → sum_by f xs ≤ sum_by g xs + sum_by h xs
  list-two-le f g h [] less = omega arith
  list-two-le f g h (x ∷ xs) less =
      let rest = list-two-le f g h xs less in
      let here = less x in
      omega (arith, sum_by-cons f x xs, sum_by-cons g x xs, sum_by-cons h x xs, rest, here)

  scaled : (price : ℕ) (f : PositionInfo → ℕ) (xs : List PositionInfo) → sum_by (λ x. price * f x) xs ≡ price * sum_by f xs
  scaled price f [] = omega arith
  scaled price f (x ∷ xs) = sum_by-cons (λ y. price * f y) x xs ∙ ap (λ (n : ℕ). price * f x + n) (scaled price f xs) ∙ sym (ap (λ (n : ℕ). price * n) (sum_by-cons f x xs) ∙ mul-add price (f x) (sum_by f xs))

  abbrev price : ℕ
  price = 60 * weight I term.Position * position_price (rows_of I)

  positions-is : (R : PlanRows) → position_cost I R ≡ price * sum_by (gap R) I.parts.positions
  unfolding position_cost missing_aircraft
  positions-is R = scaled price (gap R) I.parts.positions

  saved-is : saved_by_ending I P p p ≡ price * services I P p
  saved-is =
      let alone : services I P p + cond (eqb p p) 0 (services I P p) ≡ services I P p = rw (eq-eqb p p refl) (omega arith) in
      ap (λ (n : ℕ). price * n) alone

  -- the positions save at most what the aircraft may save by ending elsewhere
  pub positions-save : position_cost I P ≤ position_cost I S + saved_by_ending I P p p
  positions-save =
      let positions = I.parts.positions in
      let sums : sum_by (gap P) positions ≤ sum_by (gap S) positions + services I P p = list-two-le (gap P) (gap S) serving positions gap-le in
      let priced = mul-le-mul_left price sums in
      let apart = mul-add price (sum_by (gap S) positions) (services I P p) in
      omega (arith, priced, apart, saved-is, positions-is P, positions-is S)
