-- What rules a departure out does so until the span, the maintenance or the hour ends.
use Rattle.std.proofs.Common.{◌≡◌, ℕ, ltb, leb, ◌+◌, ◌-◌, ◌*◌, ◌/◌, ◌<◌, ◌≤◌, Bool, true, false, ◌&&◌, not, cond, List, [], ◌∷◌, refl, sym, ap, subst, ◌∙◌, arith}
use Rattle.std.specs.Prelude.{Option, Some, None, find}
use Rattle.std.specs.List.{list_any}
use Rattle.std.proofs.lemmas.Bool.{and_left, and_right, and_from, or_left, or_right, le-ltb, lt-ltb}
use Rattle.std.proofs.lemmas.Bool.Decides.{nat_tests}
use Rattle.std.proofs.lemmas.List.Folds.{list_any-append}
use Rattle.desk_units.specs.declared.numbers.Minute.{Minute}
use Rattle.desk_data.specs.declared.info.Maint.{Maint}
use Rattle.desk_data.specs.Situation.{Situation, spans}
use Rattle.desk_data.specs.PlanRows.{PlanRows}
use Rattle.desk_rules.specs.Rules.{meets_span}
use Rattle.desk_rules.specs.Maintenance.{minutes_before}
use Rattle.desk_rules.proofs.FindLaws.{Found, found, none-cons}
use Rattle.hour_counts.specs.declared.slot.Movement.TheVariants.{Departure, Arrival}
use Rattle.added_legs.specs.declared.added.Added.{Added}
use Rattle.ferry_legs.specs.declared.way.Way.{Way}
use Rattle.ferry_legs.specs.Departs.{is_in_service, serves, keeps_maint, has_room, has_slot}
use Rattle.ferry_legs.specs.RuledOut.{IsRuledOutUntil, HoldsOrIsRuledOut}

-- ---- one of several tests

pub first_out : (a b : ℕ → Bool) (at next : ℕ) → IsRuledOutUntil a at next → IsRuledOutUntil (λ s. a s && b s) at next
first_out a b at next h = record { later = h.later; none = λ s from to. and_left (a s) (b s) (h.none s from to) }

pub second_out : (a b : ℕ → Bool) (at next : ℕ) → IsRuledOutUntil b at next → IsRuledOutUntil (λ s. a s && b s) at next
second_out a b at next h = record { later = h.later; none = λ s from to. and_right (a s) (b s) (h.none s from to) }

pub second_said : (a b : ℕ → Bool) (at : ℕ) (said : Option ℕ) → a at ≡ true → HoldsOrIsRuledOut b at said → HoldsOrIsRuledOut (λ s. a s && b s) at said
second_said a b at None holds h = and_from (a at) (b at) holds h
second_said a b at (Some next) holds h = second_out a b at next h

-- ---- spans

found_any : {X : Type 0} (p q : X → Bool) (xs : List X) (x : X) → find p xs ≡ Some x → q x ≡ true → list_any q xs ≡ true
found_any p q xs x h holds =
    let at : Found p xs x = found p xs x h in
    ap (list_any q) at.place ∙ list_any-append q at.before (x ∷ at.after)
    ∙ or_right (list_any q at.before) (list_any q (x ∷ at.after)) (or_left (q x) (list_any q at.after) holds)

none_any : {X : Type 0} (p : X → Bool) (xs : List X) → find p xs ≡ None → list_any p xs ≡ false
none_any p [] h = refl
none_any p (x ∷ xs) h =
    let parts = none-cons p x xs h in
    rw (parts.0, none_any p xs parts.1) refl

-- a leg that meets a span meets it, where it departs later, until the span ends
meets_numbers : (t s minutes from to : ℕ) → (ltb t to && ltb from (t + minutes)) ≡ true → t ≤ s → s < to → (ltb s to && ltb from (s + minutes)) ≡ true
meets_numbers t s minutes from to h later within = grind (arith, nat_tests)

meets_on : (t s minutes : ℕ) (from to : Minute) → meets_span t (t + minutes) from to ≡ true → t ≤ s → s < to.0 → meets_span s (s + minutes) from to ≡ true
meets_on t s minutes from to h later within = meets_numbers t s minutes from.0 to.0 h later within

below_end : (t arrives from to : ℕ) → (ltb t to && ltb from arrives) ≡ true → t < to
below_end t arrives from to h = grind (arith, nat_tests)

pub span_out : (I : Situation) (way : Way) (t : ℕ) (span : Minute × Minute) → find (λ (s : Minute × Minute). meets_span t (t + way.minutes) s.0 s.1) (spans I way.plane.0) ≡ Some span → IsRuledOutUntil (is_in_service I way) t span.1.0
span_out I way t span h =
    let met = (found (λ (s : Minute × Minute). meets_span t (t + way.minutes) s.0 s.1) (spans I way.plane.0) span h).holds in
    record {
      later = below_end t (t + way.minutes) span.0.0 span.1.0 met;
      none = λ s from to.
          ap not (found_any (λ (s : Minute × Minute). meets_span t (t + way.minutes) s.0 s.1) (λ (other : Minute × Minute). meets_span s (s + way.minutes) other.0 other.1) (spans I way.plane.0) span h (meets_on t s way.minutes span.0 span.1 met from to));
    }

pub no_span : (I : Situation) (way : Way) (t : ℕ) → find (λ (s : Minute × Minute). meets_span t (t + way.minutes) s.0 s.1) (spans I way.plane.0) ≡ None → is_in_service I way t ≡ true
no_span I way t h = ap not (none_any (λ (s : Minute × Minute). meets_span t (t + way.minutes) s.0 s.1) (spans I way.plane.0) h)

-- ---- the maintenance

module _ (I : Situation) (P : PlanRows) (way : Way) (maint : Maint) where
  before_is : (s : ℕ) → s < maint.from.0 → keeps_maint I P way (Some maint) s ≡ leb (minutes_before I P way.plane.0 maint.from.0 + way.minutes) maint.minutes
  before_is s lt = ap (λ (b : Bool). cond b (leb (minutes_before I P way.plane.0 maint.from.0 + way.minutes) maint.minutes) (serves I P way.plane.0 maint && not (meets_span s (s + way.minutes) maint.from maint.to))) (lt-ltb s maint.from.0 lt)

  from_is : (s : ℕ) → maint.from.0 ≤ s → keeps_maint I P way (Some maint) s ≡ (serves I P way.plane.0 maint && not (meets_span s (s + way.minutes) maint.from maint.to))
  from_is s le = ap (λ (b : Bool). cond b (leb (minutes_before I P way.plane.0 maint.from.0 + way.minutes) maint.minutes) (serves I P way.plane.0 maint && not (meets_span s (s + way.minutes) maint.from maint.to))) (le-ltb s maint.from.0 le)

  pub too_many : (t : ℕ) → t < maint.from.0 → leb (minutes_before I P way.plane.0 maint.from.0 + way.minutes) maint.minutes ≡ false → IsRuledOutUntil (keeps_maint I P way (Some maint)) t maint.from.0
  too_many t lt off = record { later = lt; none = λ s from to. before_is s to ∙ off }

  pub enough : (t : ℕ) → t < maint.from.0 → leb (minutes_before I P way.plane.0 maint.from.0 + way.minutes) maint.minutes ≡ true → keeps_maint I P way (Some maint) t ≡ true
  enough t lt on = before_is t lt ∙ on

  pub never : (t next : ℕ) → maint.from.0 ≤ t → t < next → serves I P way.plane.0 maint ≡ false → IsRuledOutUntil (keeps_maint I P way (Some maint)) t next
  never t next le lt off = record {
    later = lt;
    none = λ s from to.
        from_is s (omega (arith, le, from))
        ∙ and_left (serves I P way.plane.0 maint) (not (meets_span s (s + way.minutes) maint.from maint.to)) off;
  }

  pub met : (t : ℕ) → maint.from.0 ≤ t → meets_span t (t + way.minutes) maint.from maint.to ≡ true → IsRuledOutUntil (keeps_maint I P way (Some maint)) t maint.to.0
  met t le on = record {
    later = below_end t (t + way.minutes) maint.from.0 maint.to.0 on;
    none = λ s from to.
        from_is s (omega (arith, le, from))
        ∙ and_right (serves I P way.plane.0 maint) (not (meets_span s (s + way.minutes) maint.from maint.to)) (ap not (meets_on t s way.minutes maint.from maint.to on from to));
  }

  pub not_met : (t : ℕ) → maint.from.0 ≤ t → serves I P way.plane.0 maint ≡ true → meets_span t (t + way.minutes) maint.from maint.to ≡ false → keeps_maint I P way (Some maint) t ≡ true
  not_met t le on off =
      from_is t le
      ∙ and_from (serves I P way.plane.0 maint) (not (meets_span t (t + way.minutes) maint.from maint.to)) on (ap not off)

-- ---- hours

same_hour : (t s : ℕ) → t ≤ s → s < 60 * (t / 60 + 1) → s / 60 ≡ t / 60
same_hour t s from to = omega arith

next_hour : (t : ℕ) → t < 60 * (t / 60 + 1)
next_hour t = omega arith

pub full_leaves : (I : Situation) (P : PlanRows) (A : List Added) (way : Way) (t : ℕ) → has_room I P A Departure way.origin.0 (t / 60) ≡ false → IsRuledOutUntil (has_slot I P A Departure way) t (60 * (t / 60 + 1))
full_leaves I P A way t full = record {
  later = next_hour t;
  none = λ s from to. subst (λ (h : ℕ). has_room I P A Departure way.origin.0 h ≡ false) (sym (same_hour t s from to)) full;
}

pub full_lands : (I : Situation) (P : PlanRows) (A : List Added) (way : Way) (t : ℕ) → has_room I P A Arrival way.dest.0 ((t + way.minutes) / 60) ≡ false → IsRuledOutUntil (has_slot I P A Arrival way) t (60 * ((t + way.minutes) / 60 + 1) - way.minutes)
full_lands I P A way t full =
    let lands = t + way.minutes in
    record {
      later = (let next = next_hour lands in omega (arith, next));
      none = λ s from to.
          let later : lands ≤ s + way.minutes = omega (arith, from) in
          let within : s + way.minutes < 60 * (lands / 60 + 1) = omega (arith, to) in
          subst (λ (h : ℕ). has_room I P A Arrival way.dest.0 h ≡ false) (sym (same_hour lands (s + way.minutes) later within)) full;
    }
