-- What is left of spans out of service.
use Rattle.std.proofs.Common.{◌≡◌, ℕ, ◌<◌, ◌≤◌, ◌↔◌, inl, inr, List, [], ◌∷◌, max, refl, sym, ap, subst, ◌∙◌, arith}
use Rattle.std.specs.Prelude.{Option, None, Some, if◌then◌else◌, filter}
use Rattle.std.specs.List.{All, Contains, cons_option, filter_map}
use Rattle.std.proofs.lemmas.Bool.{cases_Bool, cases_lt, lt-ltb, le-ltb}
use Rattle.desk_units.specs.declared.numbers.Minute.{Minute}
use Rattle.day_orders.specs.LastOrders.{span_after}
use Rattle.desk_data.specs.Situation.{Situation, landed, legs_of, ordered_spans, spans}
use Rattle.desk_data.specs.Valid.{IsValid}
use Rattle.desk_rules.specs.Words.{MeetsSpan}
use Rattle.near_moves.specs.WhatLeft.{HasFlown, HasLanded, IsInSpan, has_minute}
use Rattle.near_moves.proofs.Landings.{flown-landed, landed-from, landed-holds}
use Rattle.near_moves.proofs.ListLaws.{All_from_contains, contains_cases, contains_head, contains_none, contains_tail}

-- ---- one span after a moment

abbrev Span : Type 0
Span = Minute × Minute

-- a minute of what is left is a minute of the span, and not before the moment
after-holds : (start : ℕ) (span left : Span) → span_after start span ≡ Some left → (span.0.0 ≤ left.0.0) × (start ≤ left.0.0) × (left.1.0 ≡ span.1.0)
after-holds start span left is =
    elim (cases_lt (max span.0.0 start) span.1.0) [
      | inl some ↦
          let here : Some (let s : Span = (record { 0 = max span.0.0 start }, span.1) in s) ≡ Some left = sym (rw (lt-ltb (max span.0.0 start) span.1.0 some) refl) ∙ is in
          let same : (let s : Span = (record { 0 = max span.0.0 start }, span.1) in s) ≡ left = cc in
          subst (λ (s : Span). (span.0.0 ≤ s.0.0) × (start ≤ s.0.0) × (s.1.0 ≡ span.1.0)) same (omega arith, omega arith, refl)
      | inr none ↦
          let here : None ≡ Some left = sym (rw (le-ltb (max span.0.0 start) span.1.0 none) refl) ∙ is in
          absurd cc
    ]

-- ---- all of them

first_of : {R : Type 0} (left : Option Span) (rest : List Span) (s : Span) → Contains (cons_option left rest) s → ((l : Span) → left ≡ Some l → l ≡ s → R) → (Contains rest s → R) → R
first_of None rest s has here more = more has
first_of (Some l) rest s has here more =
    elim (contains_cases l s rest has) [
      | inl same ↦ here l refl same
      | inr later ↦ more later
    ]

-- where a span that is left comes from
record IsCut (start : ℕ) (spans : List Span) (s : Span) : Type 0 where
  whole : Span
  among : Contains spans whole
  begun : whole.0.0 ≤ s.0.0
  start_first : start ≤ s.0.0
  ends : s.1.0 ≡ whole.1.0

cut_more : (start : ℕ) (o : Span) (spans : List Span) (s : Span) → IsCut start spans s → IsCut start (o ∷ spans) s
cut_more start o spans s h = record { whole = h.whole; among = contains_tail o h.whole spans h.among; begun = h.begun; start_first = h.start_first; ends = h.ends }

cut_here : (start : ℕ) (o : Span) (spans : List Span) (s : Span) → span_after start o ≡ Some s → IsCut start (o ∷ spans) s
cut_here start o spans s is =
    let own = after-holds start o s is in
    record { whole = o; among = contains_head o spans; begun = own.0; start_first = own.1; ends = own.2 }

after-cuts : (start : ℕ) (spans : List Span) (s : Span) → Contains (filter_map (span_after start) spans) s → IsCut start spans s
after-cuts start [] s has = absurd (contains_none s has)
after-cuts start (o ∷ spans) s has =
    first_of (span_after start o) (filter_map (span_after start) spans) s has
    (λ l is same. cut_here start o spans s (is ∙ ap (λ (z : Span). let some : Option Span = Some z in some) same))
    (λ later. cut_more start o spans s (after-cuts start spans s later))

in_more : (left : Option Span) (rest : List Span) (m : ℕ) → IsInSpan rest m → IsInSpan (cons_option left rest) m
in_more None rest m h = h
in_more (Some l) rest m h = record { span = h.span; among = contains_tail l h.span rest h.among; begun = h.begun; unended = h.unended }

in_first : (left : Option Span) (rest : List Span) (m : ℕ) (s : Span) → left ≡ Some s → s.0.0 ≤ m → m < s.1.0 → IsInSpan (cons_option left rest) m
in_first left rest m s is begun unended = rw is (let there : IsInSpan (s ∷ rest) m = record { span = s; among = contains_head s rest; begun = begun; unended = unended } in there)

after-keeps : (start m : ℕ) (spans : List Span) (s : Span) → Contains spans s → s.0.0 ≤ m → m < s.1.0 → start ≤ m → IsInSpan (filter_map (span_after start) spans) m
after-keeps start m [] s has begun unended later = absurd (contains_none s has)
after-keeps start m (o ∷ spans) s has begun unended later =
    elim (contains_cases o s spans has) [
      | inl same ↦
          let from : o.0.0 ≤ m = subst (λ (z : Span). z.0.0 ≤ m) (sym same) begun in
          let to : m < o.1.0 = subst (λ (z : Span). m < z.1.0) (sym same) unended in
          let some : max o.0.0 start < o.1.0 = omega (arith, from, to, later) in
          in_first (span_after start o) (filter_map (span_after start) spans) m (record { 0 = max o.0.0 start }, o.1)
          (rw (lt-ltb (max o.0.0 start) o.1.0 some) refl) (omega (arith, from, later)) to
      | inr more ↦ in_more (span_after start o) (filter_map (span_after start) spans) m (after-keeps start m spans s more begun unended later)
    ]

-- ---- of an aircraft

pub out-minutes : (I : Situation) (p at : ℕ) → IsValid I → IsInSpan (spans I p) at ↔ (IsInSpan (ordered_spans I p) at × HasLanded I p at)
unfolding spans
out-minutes I p at valid = (
  (λ out.
      let cut = after-cuts (landed I p) (ordered_spans I p) out.span out.among in (
        record { span = cut.whole; among = cut.among; begun = (let h = out.begun in let g = cut.begun in omega (arith, h, g)); unended = (let h = out.unended in let g = cut.ends in omega (arith, h, g)) },
        landed-holds I p at valid (let h = out.begun in let g = cut.start_first in omega (arith, h, g)),
      )),
  (λ ordered. after-keeps (landed I p) at (ordered_spans I p) ordered.0.span ordered.0.among ordered.0.begun ordered.0.unended (landed-from I p at ordered.1)),
)

pub out-meets : (I : Situation) (p x d : ℕ) → IsValid I → x < legs_of I → HasFlown I p x d → All (λ span. MeetsSpan I x d span.0 span.1 → ⊥) (spans I p)
unfolding spans
out-meets I p x d valid within flown =
    All_from_contains (λ (span : Span). MeetsSpan I x d span.0 span.1 → ⊥) (filter_map (span_after (landed I p)) (ordered_spans I p))
    (λ s has meets.
    let cut = after-cuts (landed I p) (ordered_spans I p) s has in
    let early = flown-landed I p x d valid within flown in
    let start = cut.start_first in
    let late = meets.after_start in
    omega (arith, early, start, late))

whole_span : (o : Span) → span_after 0 o ≡ (if has_minute o then Some o else None)
whole_span o =
    let same : max o.0.0 0 ≡ o.0.0 = omega arith in
    rw same refl

uncut : (spans : List Span) → filter_map (span_after 0) spans ≡ filter has_minute spans
uncut [] = refl
uncut (o ∷ spans) =
    elim (cases_Bool (has_minute o)) [
      | inl some ↦ rw (whole_span o, some) (ap (λ (z : List Span). o ∷ z) (uncut spans))
      | inr none ↦ rw (whole_span o, none) (uncut spans)
    ]

pub out-whole : (I : Situation) (p : ℕ) → IsValid I → ((x d : ℕ) → x < legs_of I → HasFlown I p x d → ⊥) → spans I p ≡ filter has_minute (ordered_spans I p)
unfolding spans
out-whole I p valid flew =
    let early = landed-from I p 0 (λ x d within flown. absurd (flew x d within flown)) in
    let none : landed I p ≡ 0 = omega (arith, early) in
    rw none (uncut (ordered_spans I p))
