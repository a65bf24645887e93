-- A list with one more added leg, of an aircraft that has none.
use Rattle.std.proofs.Common.{◌≡◌, ◌≢◌, ℕ, ◌+◌, ◌<◌, inl, inr, eqb, List, [], ◌∷◌, length, get_or, sym, subst, arith, All, length-append}
use Rattle.std.specs.Prelude.{None}
use Rattle.std.proofs.lemmas.Bool.{cases_lt, eq-eqb}
use Rattle.std.proofs.lemmas.List.{get_or_append_left, get_or_push}
use Rattle.std.proofs.lemmas.List.Elements.{All-cons}
use Rattle.desk_data.specs.PlanRows.{PlanRows}
use Rattle.desk_data.specs.Situation.{Situation, planes_of}
use Rattle.desk_rules.proofs.FindLaws.{none-cons}
use Rattle.plan_reads.proofs.OrderLaws.{not_both}
use Rattle.added_legs.specs.declared.added.Added.{Added}
use Rattle.added_legs.specs.Merged.{IsAdded, AreAdded, added_for}
use Rattle.added_legs.specs.Ferried.{with_added}
use Rattle.ferry_legs.proofs.CountLaws.{few_added}

long : (A : List Added) (a : Added) → length (with_added A a) ≡ length A + 1
long A a = length-append A (a ∷ [])

-- the aircraft of a list in which one has none
none_flies : (A : List Added) (q : ℕ) → added_for A q ≡ None → All (λ (b : Added). b.plane.0 ≢ q) A
unfolding added_for
none_flies [] q none = λ k d lt. absurd (omega (arith, lt))
none_flies (b ∷ A) q none =
    let parts = none-cons (λ (c : Added). eqb c.plane.0 q) b A none in
    All-cons (λ (b : Added). b.plane.0 ≢ q) b A (λ same. not_both (eqb b.plane.0 q) (eq-eqb b.plane.0 q same) parts.0) (none_flies A q parts.1)

old_at : (A : List Added) (a d : Added) (k : ℕ) → k < length A → get_or (with_added A a) k d ≡ get_or A k d
old_at A a d k lt = get_or_append_left A (a ∷ []) d k lt

new_at : (A : List Added) (a d : Added) (k : ℕ) → length A ≡ k → get_or (with_added A a) k d ≡ a
new_at A a d k is = get_or_push A a d k is

pub more_added : (I : Situation) (P : PlanRows) (A : List Added) (a : Added) → AreAdded I P A → IsAdded I P a → added_for A a.plane.0 ≡ None → AreAdded I P (with_added A a)
more_added I P A a added is none = record {
  each = λ k d lt. elim (cases_lt k (length A)) [
    | inl old ↦ subst (IsAdded I P) (sym (old_at A a d k old)) (added.each k d old)
    | inr past ↦ subst (IsAdded I P) (sym (new_at A a d k (omega (arith, past, lt, long A a)))) is
  ];
  apart = λ i j d lt below. elim (cases_lt j (length A)) [
    | inl old ↦
        subst (λ (b : Added). b.plane.0 ≢ (get_or (with_added A a) j d).plane.0) (sym (old_at A a d i (omega (arith, lt, old))))
        (subst (λ (c : Added). (get_or A i d).plane.0 ≢ c.plane.0) (sym (old_at A a d j old)) (added.apart i j d lt old))
    | inr past ↦
        let end : length A ≡ j = omega (arith, past, below, long A a) in
        subst (λ (b : Added). b.plane.0 ≢ (get_or (with_added A a) j d).plane.0) (sym (old_at A a d i (omega (arith, lt, end))))
        (subst (λ (c : Added). (get_or A i d).plane.0 ≢ c.plane.0) (sym (new_at A a d j end)) (none_flies A a.plane.0 none i d (omega (arith, lt, end))))
  ];
}

-- there is room for one more
pub has_place : (I : Situation) (P : PlanRows) (A : List Added) (a : Added) → AreAdded I P (with_added A a) → length A < planes_of I
has_place I P A a added =
    let few = few_added (planes_of I) (with_added A a) (λ k d lt. (added.each k d lt).aircraft) added.apart in
    omega (arith, few, long A a)
