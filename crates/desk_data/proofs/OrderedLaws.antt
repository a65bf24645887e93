-- What later orders decide, and what a batch changes.
use Rattle.std.proofs.Common.{◌≡◌, ℕ, ◌+◌, ◌*◌, ◌<◌, inl, inr, true, false, eqb, List, [], ◌∷◌, ◌++◌, refl, sym, ap, ◌∙◌, max, arith}
use Rattle.std.specs.Prelude.{Option, None, Some, is_none, unwrap_or}
use Rattle.std.specs.Option.{option_or}
use Rattle.std.specs.List.{All, filter_map}
use Rattle.std.proofs.lemmas.Bool.{cases_Bool, cases_lt, eqb-true, eqb-false, lt-ltb, le-ltb}
use Rattle.std.proofs.lemmas.List.Elements.{All-weaker, filter_map-append}
use Rattle.day_orders.specs.declared.hours.HourCap.{HourCap}
use Rattle.day_orders.specs.declared.orders.Order.{Order}
use Rattle.day_orders.specs.declared.orders.Order.TheVariants.{Flight, Aircraft, Field}
use Rattle.day_orders.specs.declared.orders.Batch.{Batch}
use Rattle.day_orders.specs.LastOrders.{order_on_leg, last_order_on_leg, span_of, last_word, touches, order_on_hour}
use Rattle.day_orders.proofs.LastLemmas.{last_word-append, last_word_none}
use Rattle.desk_data.specs.Hours.{hour_cap, dep_cap, arr_cap, frozen_departures, frozen_arrivals}
use Rattle.desk_data.specs.LaterOrders.{IsOfLeg, HasMinuteIn, IsOfHour, ObeysOfLeg, ObeysOfHour, AddsOrders}
use Rattle.desk_data.specs.PlanRows.{PlanRows}
use Rattle.desk_data.specs.Progress.{with_batch}
use Rattle.desk_data.specs.Situation.{Situation, leg_at, ordered, called_off, delay_of, is_off, ordered_spans}

-- ---- the last word

-- one row decides where none after it says anything
word_last : {X Y : Type 0} (says : X → Option Y) (before after : List X) (x : X) (y : Y) → says x ≡ Some y → All (λ z. says z ≡ None) after → last_word says (before ++ x ∷ after) ≡ Some y
unfolding last_word
word_last says before after x y is silent = last_word-append says before (x ∷ after) ∙ rw (last_word_none says after silent, is) refl

-- rows that say nothing change nothing
word_same : {X Y : Type 0} (says : X → Option Y) (xs ys : List X) → All (λ z. says z ≡ None) ys → last_word says (xs ++ ys) ≡ last_word says xs
word_same says xs ys silent = last_word-append says xs ys ∙ rw (last_word_none says ys silent) refl

leg_word : (x : ℕ) (orders : List Order) → last_order_on_leg x orders ≡ last_word (order_on_leg x) orders
unfolding last_order_on_leg last_word
leg_word x [] = refl
leg_word x (order ∷ orders) = ap (λ o. option_or o (order_on_leg x order)) (leg_word x orders)

eqb-refl : (n : ℕ) → eqb n n ≡ true
eqb-refl n =
    elim (cases_Bool (eqb n n)) [
      | inl same ↦ same
      | inr differs ↦ absurd (eqb-false n n differs refl)
    ]

-- ---- legs

silent_on_leg : (x : ℕ) (order : Order) → (IsOfLeg x order → ⊥) → order_on_leg x order ≡ None
silent_on_leg x (Flight leg delay) other =
    elim (cases_Bool (eqb leg.0 x)) [
      | inl same ↦ absurd (other (eqb-true leg.0 x same))
      | inr differs ↦ rw differs refl
    ]
silent_on_leg x (Aircraft plane from to) other = refl
silent_on_leg x (Field airport from to deps arrs) other = refl

silent_on_legs : (x : ℕ) (orders : List Order) → All (λ order. IsOfLeg x order → ⊥) orders → All (λ order. order_on_leg x order ≡ None) orders
silent_on_legs x orders others = All-weaker (λ (order : Order). IsOfLeg x order → ⊥) (λ (order : Order). order_on_leg x order ≡ None) (silent_on_leg x) orders others

said_of_leg : (x : ℕ) (before after : List Order) (delay : Option ℕ) → All (λ order. IsOfLeg x order → ⊥) after → last_order_on_leg x (before ++ Flight (record { 0 = x }) delay ∷ after) ≡ Some delay
said_of_leg x before after delay others =
    leg_word x (before ++ Flight (record { 0 = x }) delay ∷ after)
    ∙ word_last (order_on_leg x) before after (Flight (record { 0 = x }) delay) delay (rw (eqb-refl x) refl) (silent_on_legs x after others)

leg_last : (I : Situation) (x : ℕ) (delay : Option ℕ) → last_order_on_leg x I.orders ≡ Some delay → (called_off I x ≡ is_none delay) × (ordered I x ≡ (leg_at I x).sched.0 + unwrap_or delay 0)
unfolding called_off ordered is_off delay_of
leg_last I x delay is = (ap is_off is, ap (λ o. (leg_at I x).sched.0 + delay_of o) is)

leg_none : (I : Situation) (x : ℕ) → last_order_on_leg x I.orders ≡ None → (called_off I x ≡ false) × (ordered I x ≡ (leg_at I x).sched.0)
unfolding called_off ordered is_off delay_of
leg_none I x is = (ap is_off is, (let at : ordered I x ≡ (leg_at I x).sched.0 + 0 = ap (λ o. (leg_at I x).sched.0 + delay_of o) is in omega (arith, at)))

pub obeys_of_leg : (I : Situation) (x : ℕ) → ObeysOfLeg I x
obeys_of_leg I x = record {
  last = λ before after delay is others. leg_last I x delay (ap (last_order_on_leg x) is ∙ said_of_leg x before after delay others);
  none = λ others. leg_none I x (leg_word x I.orders ∙ last_word_none (order_on_leg x) I.orders (silent_on_legs x I.orders others));
}

-- ---- hours

touches_minute : (h from to : ℕ) → HasMinuteIn h from to → touches h from to ≡ true
unfolding touches
touches_minute h from to at =
    let some : from < to = omega (arith, at.started, at.unended) in
    let early : from < 60 * h + 60 = omega (arith, at.started, at.within) in
    let late : 60 * h < to = omega (arith, at.begun, at.unended) in
    rw (lt-ltb from to some, lt-ltb from (60 * h + 60) early, lt-ltb (60 * h) to late) refl

minute_in : (h from to : ℕ) → from < to → from < 60 * h + 60 → 60 * h < to → HasMinuteIn h from to
minute_in h from to some early late =
    elim (cases_lt from (60 * h)) [
      | inl before ↦ record { minute = 60 * h; begun = omega arith; within = omega arith; started = omega (arith, before); unended = late }
      | inr within ↦ record { minute = from; begun = within; within = early; started = omega arith; unended = some }
    ]

touches_not : (h from to : ℕ) → (HasMinuteIn h from to → ⊥) → touches h from to ≡ false
unfolding touches
touches_not h from to other =
    elim (cases_lt from to) [
      | inr none ↦ rw (le-ltb from to none) refl
      | inl some ↦ elim (cases_lt from (60 * h + 60)) [
        | inr after ↦ rw (lt-ltb from to some, le-ltb from (60 * h + 60) after) refl
        | inl early ↦ elim (cases_lt (60 * h) to) [
          | inr before ↦ rw (lt-ltb from to some, lt-ltb from (60 * h + 60) early, le-ltb (60 * h) to before) refl
          | inl late ↦ absurd (other (minute_in h from to some early late))
        ]
      ]
    ]

silent_on_hour : (a h : ℕ) (order : Order) → (IsOfHour a h order → ⊥) → order_on_hour a h order ≡ None
silent_on_hour a h (Field airport from to deps arrs) other =
    elim (cases_Bool (eqb airport.0 a)) [
      | inl same ↦ rw (same, touches_not h from.0 to.0 (λ minute. other (eqb-true airport.0 a same, minute))) refl
      | inr differs ↦ rw differs refl
    ]
silent_on_hour a h (Flight leg delay) other = refl
silent_on_hour a h (Aircraft plane from to) other = refl

silent_on_hours : (a h : ℕ) (orders : List Order) → All (λ order. IsOfHour a h order → ⊥) orders → All (λ order. order_on_hour a h order ≡ None) orders
silent_on_hours a h orders others = All-weaker (λ (order : Order). IsOfHour a h order → ⊥) (λ (order : Order). order_on_hour a h order ≡ None) (silent_on_hour a h) orders others

hour_last : (I : Situation) (a h : ℕ) (cap : HourCap) → last_word (order_on_hour a h) I.orders ≡ Some cap → (dep_cap I a h ≡ Some (max cap.deps (frozen_departures I a h))) × (arr_cap I a h ≡ Some (max cap.arrs (frozen_arrivals I a h)))
unfolding dep_cap arr_cap hour_cap
hour_last I a h cap is = (rw is refl, rw is refl)

pub obeys_of_hour : (I : Situation) (a h : ℕ) → ObeysOfHour I a h
obeys_of_hour I a h = record {
  last = λ before after from to deps arrs is minute others.
      let order : Order = Field (record { 0 = a }) from to deps arrs in
      let cap : HourCap = record { deps = deps; arrs = arrs } in
      let says : order_on_hour a h order ≡ Some cap = rw (eqb-refl a, touches_minute h from.0 to.0 minute) refl in
      hour_last I a h cap (ap (last_word (order_on_hour a h)) is ∙ word_last (order_on_hour a h) before after order cap says (silent_on_hours a h after others));
}

-- ---- what a batch adds

leg_same : (I J : Situation) (x : ℕ) → J.parts ≡ I.parts → last_order_on_leg x J.orders ≡ last_order_on_leg x I.orders → (called_off J x ≡ called_off I x) × (ordered J x ≡ ordered I x)
unfolding called_off ordered
leg_same I J x parts is = (ap is_off is, rw (parts, is) refl)

hour_same : (I J : Situation) (a h : ℕ) → J.parts ≡ I.parts → last_word (order_on_hour a h) J.orders ≡ last_word (order_on_hour a h) I.orders → hour_cap J a h ≡ hour_cap I a h
unfolding hour_cap
hour_same I J a h parts is = rw (parts, is) refl

spans_more : (I : Situation) (P : PlanRows) (B : Batch) (p : ℕ) → ordered_spans (with_batch I P B) p ≡ ordered_spans I p ++ filter_map (span_of p) B.orders
unfolding ordered_spans
spans_more I P B p = filter_map-append (span_of p) I.orders B.orders

pub adds_orders : (I : Situation) (P : PlanRows) (B : Batch) → AddsOrders I P B
adds_orders I P B = record {
  leg = λ x others. leg_same I (with_batch I P B) x refl (leg_word x (I.orders ++ B.orders) ∙ word_same (order_on_leg x) I.orders B.orders (silent_on_legs x B.orders others) ∙ sym (leg_word x I.orders));
  hour = λ a h others. hour_same I (with_batch I P B) a h refl (word_same (order_on_hour a h) I.orders B.orders (silent_on_hours a h B.orders others));
  plane = λ p. spans_more I P B p;
}
