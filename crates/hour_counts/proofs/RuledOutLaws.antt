-- What rules a departure out does so until the span, the maintenance or the hour ends.
use Rattle.std.proofs.Common.{◌≡◌, ℕ, ltb, ◌+◌, ◌-◌, ◌*◌, ◌/◌, ◌<◌, ◌≤◌, Bool, true, false, ◌&&◌, not, cond, List, [], ◌∷◌, refl, sym, ap, subst, ◌∙◌, arith}
use Rattle.std.specs.Prelude.{Option, Some, None, find}
use Rattle.std.specs.List.{list_any}
use Rattle.std.proofs.lemmas.Bool.{and_left, and_right, or_left, or_right}
use Rattle.std.proofs.lemmas.Bool.Decides.{nat_tests}
use Rattle.std.proofs.lemmas.List.Folds.{list_any-append}
use Rattle.std.proofs.lemmas.Option.{cond_some}
use Rattle.desk_units.specs.declared.numbers.Minute.{Minute}
use Rattle.desk_data.specs.declared.info.Maint.{Maint}
use Rattle.desk_data.specs.Situation.{Situation, leg_at, plane_at, spans}
use Rattle.desk_data.specs.PlanRows.{PlanRows}
use Rattle.desk_rules.specs.Rules.{meets_span}
use Rattle.desk_rules.proofs.FindLaws.{Found, found, none-cons}
use Rattle.desk_model.specs.Push.{has_slots, is_free, meets_maintenance}
use Rattle.hour_counts.specs.RuledOut.{IsRuledOutUntil, end_of_first, end_of_maintenance, end_of_first_met}
use Rattle.hour_counts.specs.Room.{has_room}
use Rattle.hour_counts.specs.declared.slot.Movement.TheVariants.{Departure, Arrival}

-- ---- spans

found_any : {X : Type 0} (p q : X → Bool) (xs : List X) (x : X) → find p xs ≡ Some x → q x ≡ true → list_any q xs ≡ true
found_any p q xs x h holds =
    let at : Found p xs x = found p xs x h in
    ap (list_any q) at.place ∙ list_any-append q at.before (x ∷ at.after)
    ∙ or_right (list_any q at.before) (list_any q (x ∷ at.after)) (or_left (q x) (list_any q at.after) holds)

none_any : {X : Type 0} (p : X → Bool) (xs : List X) → find p xs ≡ None → list_any p xs ≡ false
none_any p [] h = refl
none_any p (x ∷ xs) h =
    let parts = none-cons p x xs h in
    rw (parts.0, none_any p xs parts.1) refl

-- a leg that meets a span meets it, where it departs later, until the span ends
meets_numbers : (t s block from to : ℕ) → (ltb t to && ltb from (t + block)) ≡ true → t ≤ s → s < to → (ltb s to && ltb from (s + block)) ≡ true
meets_numbers t s block from to h later within = grind (arith, nat_tests)

meets_on : (t s block : ℕ) (from to : Minute) → meets_span t (t + block) from to ≡ true → t ≤ s → s < to.0 → meets_span s (s + block) from to ≡ true
meets_on t s block from to h later within = meets_numbers t s block from.0 to.0 h later within

below_end : (t arrives from to : ℕ) → (ltb t to && ltb from arrives) ≡ true → t < to
below_end t arrives from to h = grind (arith, nat_tests)

span_rules_out : (I : Situation) (p x t : ℕ) (span : Minute × Minute) → find (λ (s : Minute × Minute). meets_span t (t + (leg_at I x).block) s.0 s.1) (spans I p) ≡ Some span → IsRuledOutUntil (is_free I p x) t span.1.0
unfolding is_free
span_rules_out I p x t span h =
    let block = (leg_at I x).block in
    let met = (found (λ (s : Minute × Minute). meets_span t (t + block) s.0 s.1) (spans I p) span h).holds in
    record {
      later = below_end t (t + block) span.0.0 span.1.0 met;
      none = λ s from to.
          let any : list_any (λ (other : Minute × Minute). meets_span s (s + block) other.0 other.1) (spans I p) ≡ true =
          found_any (λ (s : Minute × Minute). meets_span t (t + block) s.0 s.1) (λ (other : Minute × Minute). meets_span s (s + block) other.0 other.1) (spans I p) span h (meets_on t s block span.0 span.1 met from to) in
          rw any refl;
    }

maintenance_rules_out : (I : Situation) (p x t : ℕ) (maint : Maint) → (plane_at I p).maint ≡ Some maint → meets_span t (t + (leg_at I x).block) maint.from maint.to ≡ true → IsRuledOutUntil (is_free I p x) t maint.to.0
unfolding is_free
maintenance_rules_out I p x t maint is met =
    let block = (leg_at I x).block in
    record {
      later = below_end t (t + block) maint.from.0 maint.to.0 met;
      none = λ s from to.
          let meets : meets_maintenance s (s + block) (plane_at I p).maint ≡ true = ap (meets_maintenance s (s + block)) is ∙ meets_on t s block maint.from maint.to met from to in
          and_right (not (list_any (λ (other : Minute × Minute). meets_span s (s + block) other.0 other.1) (spans I p))) (not (meets_maintenance s (s + block) (plane_at I p).maint)) (ap not meets);
    }

ends_some : (I : Situation) (p x t : ℕ) (span : Option (Minute × Minute)) (o : Option Maint) (end : Minute) → find (λ (s : Minute × Minute). meets_span t (t + (leg_at I x).block) s.0 s.1) (spans I p) ≡ span → (plane_at I p).maint ≡ o → end_of_first span o t (t + (leg_at I x).block) ≡ Some end → IsRuledOutUntil (is_free I p x) t end.0
ends_some I p x t (Some span) o end first is h =
    let same : span.1 ≡ end = cc in
    subst (λ (m : Minute). IsRuledOutUntil (is_free I p x) t m.0) same (span_rules_out I p x t span first)
ends_some I p x t None (Some maint) end first is h =
    let met = cond_some (meets_span t (t + (leg_at I x).block) maint.from maint.to) maint.to end h in
    subst (λ (m : Minute). IsRuledOutUntil (is_free I p x) t m.0) met.1 (maintenance_rules_out I p x t maint is met.0)
ends_some I p x t None None end first is h = absurd cc

pub kept-some : (I : Situation) (p x t : ℕ) (end : Minute) → end_of_first_met (spans I p) (plane_at I p).maint t (t + (leg_at I x).block) ≡ Some end → IsRuledOutUntil (is_free I p x) t end.0
kept-some I p x t end h = ends_some I p x t (find (λ (s : Minute × Minute). meets_span t (t + (leg_at I x).block) s.0 s.1) (spans I p)) (plane_at I p).maint end refl refl h

cond_none : (b : Bool) (m : Minute) → cond b (Some m) None ≡ None → b ≡ false
cond_none true m h = absurd cc
cond_none false m h = refl

maintenance_none : (o : Option Maint) (t arrives : ℕ) → end_of_maintenance o t arrives ≡ None → meets_maintenance t arrives o ≡ false
maintenance_none None t arrives h = refl
maintenance_none (Some maint) t arrives h = cond_none (meets_span t arrives maint.from maint.to) maint.to h

ends_none : (I : Situation) (p x t : ℕ) (span : Option (Minute × Minute)) → find (λ (s : Minute × Minute). meets_span t (t + (leg_at I x).block) s.0 s.1) (spans I p) ≡ span → end_of_first span (plane_at I p).maint t (t + (leg_at I x).block) ≡ None → is_free I p x t ≡ true
unfolding is_free
ends_none I p x t (Some span) first h = absurd cc
ends_none I p x t None first h =
    rw (none_any (λ (s : Minute × Minute). meets_span t (t + (leg_at I x).block) s.0 s.1) (spans I p) first, maintenance_none (plane_at I p).maint t (t + (leg_at I x).block) h) refl

pub kept-none : (I : Situation) (p x t : ℕ) → end_of_first_met (spans I p) (plane_at I p).maint t (t + (leg_at I x).block) ≡ None → is_free I p x t ≡ true
kept-none I p x t h = ends_none I p x t (find (λ (s : Minute × Minute). meets_span t (t + (leg_at I x).block) s.0 s.1) (spans I p)) refl h

-- ---- hours

same_hour : (t s : ℕ) → t ≤ s → s < 60 * (t / 60 + 1) → s / 60 ≡ t / 60
same_hour t s from to = omega arith

next_hour : (t : ℕ) → t < 60 * (t / 60 + 1)
next_hour t = omega arith

-- the two tests of the hours
pub slots-rooms : (I : Situation) (Q : PlanRows) (x t : ℕ) → has_slots I Q x t ≡ (has_room I Q Departure x (t / 60) && has_room I Q Arrival x ((t + (leg_at I x).block) / 60))
unfolding has_slots
slots-rooms I Q x t = refl

pub full-leaves : (I : Situation) (Q : PlanRows) (x t : ℕ) → has_room I Q Departure x (t / 60) ≡ false → IsRuledOutUntil (has_slots I Q x) t (60 * (t / 60 + 1))
full-leaves I Q x t full = record {
  later = next_hour t;
  none = λ s from to.
      slots-rooms I Q x s
      ∙ and_left (has_room I Q Departure x (s / 60)) (has_room I Q Arrival x ((s + (leg_at I x).block) / 60))
      (subst (λ (h : ℕ). has_room I Q Departure x h ≡ false) (sym (same_hour t s from to)) full);
}

pub full-lands : (I : Situation) (Q : PlanRows) (x t : ℕ) → has_room I Q Arrival x ((t + (leg_at I x).block) / 60) ≡ false → IsRuledOutUntil (has_slots I Q x) t (60 * ((t + (leg_at I x).block) / 60 + 1) - (leg_at I x).block)
full-lands I Q x t full =
    let block = (leg_at I x).block in
    let lands = t + block in
    record {
      later = (let next = next_hour lands in omega (arith, next));
      none = λ s from to.
          let later : lands ≤ s + block = omega (arith, from) in
          let within : s + block < 60 * (lands / 60 + 1) = omega (arith, to) in
          slots-rooms I Q x s
          ∙ and_right (has_room I Q Departure x (s / 60)) (has_room I Q Arrival x ((s + block) / 60))
          (subst (λ (h : ℕ). has_room I Q Arrival x h ≡ false) (sym (same_hour lands (s + block) later within)) full);
    }
