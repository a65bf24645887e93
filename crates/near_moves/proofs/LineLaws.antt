-- Which group of an airport's line decides of an hour.
use Rattle.std.proofs.Common.{◌≡◌, ℕ, ◌+◌, ◌*◌, ◌%◌, ◌<◌, ◌≤◌, inl, inr, Bool, true, false, ◌&&◌, ◌||◌, eqb, leb, List, [], ◌∷◌, ◌++◌, max, refl, sym, ap, ◌∙◌, arith}
use Rattle.std.specs.Prelude.{None, Some}
use Rattle.std.specs.List.{All}
use Rattle.std.proofs.lemmas.Bool.{cases_Bool, cases_lt, eqb-true, eqb-false, eq-eqb, lt-ltb, le-ltb, le-leb, lt-leb}
use Rattle.std.proofs.lemmas.List.Elements.{All-weaker}
use Rattle.day_orders.specs.declared.hours.HourCap.{HourCap}
use Rattle.day_orders.specs.declared.orders.Batch.{Batch}
use Rattle.day_orders.specs.LastOrders.{last_word, order_on_hour}
use Rattle.day_orders.proofs.LastLemmas.{last_word-append, last_word-nil, last_word_none}
use Rattle.desk_data.specs.declared.info.Cap.{Cap}
use Rattle.desk_data.specs.Hours.{arr_cap, cap_on_minute, covers, dep_cap, end_of, frozen_arrivals, frozen_departures, hour_cap}
use Rattle.desk_data.specs.LaterOrders.{AddsOrders, IsOfHour}
use Rattle.desk_data.specs.PlanRows.{PlanRows}
use Rattle.desk_data.specs.Situation.{Situation, airport_at, latest, ordered}
use Rattle.near_moves.specs.LineWords.{CoversHour, CoversMinute, EndsAt, ObeysLine, from_midnight, up_to_midnight, within_the_day}

or_true : (b : Bool) → (b || true) ≡ true
or_true true = refl
or_true false = refl

and_false : (b : Bool) → (b && false) ≡ false
and_false true = refl
and_false false = refl

-- what `later_orders_decide` says of batches
abbrev pub AreAdded : Type 0
AreAdded = (I : Situation) (P : PlanRows) (B : Batch) → AddsOrders I P B

-- ---- which minutes a group covers

ends_at : (group : Cap) → EndsAt group (end_of group)
ends_at group =
    elim (cases_Bool (eqb group.to 0)) [
      | inl midnight ↦ inl (eqb-true group.to 0 midnight, rw midnight refl)
      | inr named ↦ inr (eqb-false group.to 0 named, rw named refl)
    ]

one_end : (group : Cap) (end : ℕ) → EndsAt group end → end ≡ end_of group
one_end group end (inl midnight) = let named = midnight.0 in midnight.1 ∙ sym (rw (eq-eqb group.to 0 named) refl)
one_end group end (inr named) =
    elim (cases_Bool (eqb group.to 0)) [
      | inl midnight ↦ absurd (named.0 (eqb-true group.to 0 midnight))
      | inr other ↦ named.1 ∙ sym (rw other refl)
    ]

covers-from : (group : Cap) (m : ℕ) → CoversMinute group m → covers group m ≡ true
unfolding covers
covers-from group m (within_the_day end ends later from to) =
    let same = one_end group end ends in
    let longer : group.from < end_of group = omega (arith, same, later) in
    let before : m < end_of group = omega (arith, same, to) in
    rw (lt-ltb group.from (end_of group) longer, le-leb group.from m from, lt-ltb m (end_of group) before) refl
covers-from group m (up_to_midnight end ends over from) =
    let same = one_end group end ends in
    let longer : end_of group ≤ group.from = omega (arith, same, over) in
    rw (le-ltb group.from (end_of group) longer, le-leb group.from m from) refl
covers-from group m (from_midnight end ends over to) =
    let same = one_end group end ends in
    let longer : end_of group ≤ group.from = omega (arith, same, over) in
    let before : m < end_of group = omega (arith, same, to) in
    rw (le-ltb group.from (end_of group) longer, lt-ltb m (end_of group) before) (or_true (leb group.from m))

covers-not : (group : Cap) (m : ℕ) → (CoversMinute group m → ⊥) → covers group m ≡ false
unfolding covers
covers-not group m none =
    let ends = ends_at group in
    elim (cases_lt group.from (end_of group)) [
      | inl longer ↦ elim (cases_lt m group.from) [
        | inl early ↦ rw (lt-ltb group.from (end_of group) longer, lt-leb group.from m early) refl
        | inr from ↦ elim (cases_lt m (end_of group)) [
          | inl before ↦ absurd (none (within_the_day (end_of group) ends longer from before))
          | inr late ↦ rw (lt-ltb group.from (end_of group) longer, le-ltb m (end_of group) late) (and_false (leb group.from m))
        ]
      ]
      | inr over ↦ elim (cases_lt m group.from) [
        | inr from ↦ absurd (none (up_to_midnight (end_of group) ends over from))
        | inl early ↦ elim (cases_lt m (end_of group)) [
          | inl before ↦ absurd (none (from_midnight (end_of group) ends over before))
          | inr late ↦ rw (le-ltb group.from (end_of group) over, lt-leb group.from m early, le-ltb m (end_of group) late) refl
        ]
      ]
    ]

-- ---- the last group that covers an hour

silent_on_minute : (h : ℕ) (groups : List Cap) → All (λ group. CoversHour group h → ⊥) groups → All (λ group. cap_on_minute (60 * (h % 24)) group ≡ None) groups
silent_on_minute h groups others =
    All-weaker (λ (group : Cap). CoversHour group h → ⊥) (λ (group : Cap). cap_on_minute (60 * (h % 24)) group ≡ None)
    (λ group none. rw (covers-not group (60 * (h % 24)) none) refl) groups others

line_last : (h : ℕ) (before after : List Cap) (group : Cap) → CoversHour group h → All (λ other. CoversHour other h → ⊥) after → last_word (cap_on_minute (60 * (h % 24))) (before ++ group ∷ after) ≡ Some (record { deps = group.deps; arrs = group.arrs })
unfolding last_word
line_last h before after group own others =
    last_word-append (cap_on_minute (60 * (h % 24))) before (group ∷ after)
    ∙ rw (last_word_none (cap_on_minute (60 * (h % 24))) after (silent_on_minute h after others), covers-from group (60 * (h % 24)) own) refl

caps_of : (I : Situation) (a h : ℕ) (cap : HourCap) → hour_cap I a h ≡ Some cap → (dep_cap I a h ≡ Some (max cap.deps (frozen_departures I a h))) × (arr_cap I a h ≡ Some (max cap.arrs (frozen_arrivals I a h)))
unfolding dep_cap arr_cap
caps_of I a h cap is = (rw is refl, rw is refl)

no_caps : (I : Situation) (a h : ℕ) → hour_cap I a h ≡ None → (dep_cap I a h ≡ None) × (arr_cap I a h ≡ None)
unfolding dep_cap arr_cap
no_caps I a h is = (rw is refl, rw is refl)

-- a day takes its orders as a batch of the day without them would
hour_silent : AreAdded → (I : Situation) (a h : ℕ) → All (λ order. IsOfHour a h order → ⊥) I.orders → hour_cap I a h ≡ last_word (cap_on_minute (60 * (h % 24))) (airport_at I a).caps
unfolding hour_cap
hour_silent added I a h others =
    let bare : Situation = record I { orders = [] } in
    let batch : Batch = record { at = None; orders = I.orders } in
    let adds = (added bare (record { rows = []; groups = [] }) batch).hour a h others in
    adds ∙ rw (last_word-nil (order_on_hour a h)) refl

pub obeys_line : AreAdded → (I : Situation) (a h : ℕ) → ObeysLine I a h
obeys_line added I a h = record {
  last = λ before after group others is own later. caps_of I a h (record { deps = group.deps; arrs = group.arrs }) (hour_silent added I a h others ∙ ap (last_word (cap_on_minute (60 * (h % 24)))) is ∙ line_last h before after group own later);
  none = λ others none. no_caps I a h (hour_silent added I a h others ∙ last_word_none (cap_on_minute (60 * (h % 24))) (airport_at I a).caps (silent_on_minute h (airport_at I a).caps none));
}

-- ---- latest departures

pub latest-order : (I : Situation) (x : ℕ) → latest I x ≡ ordered I x + 2880
unfolding latest
latest-order I x = refl

pub latest-same : (I J : Situation) (x : ℕ) → ordered J x ≡ ordered I x → latest J x ≡ latest I x
unfolding latest
latest-same I J x is = ap (λ (at : ℕ). at + 2880) is
