-- One more leg of an aircraft, and what the last leg before a moment says of where it leaves the aircraft.
use Rattle.std.proofs.Common.{◌≡◌, ◌≢◌, ℕ, suc, ◌+◌, ◌<◌, ◌⊎◌, inl, inr, Bool, true, false, ◌&&◌, eqb, ltb, List, length, get_or, set, refl, sym, ap, subst, ◌∙◌, arith, add-one}
use Rattle.std.specs.Prelude.{Option, Some, None}
use Rattle.std.specs.Option.{ForSome}
use Rattle.std.proofs.lemmas.Bool.{cases_Bool, true≢false, and_parts, and_from, eq-eqb}
use Rattle.std.proofs.lemmas.Bool.Decides.{nat_tests}
use Rattle.std.proofs.lemmas.List.{get_or-set_same, get_or-set_other, length-set}
use Rattle.desk_units.specs.declared.numbers.Leg.{Leg}
use Rattle.desk_units.specs.declared.numbers.Minute.{Minute}
use Rattle.desk_units.specs.declared.numbers.Plane.{Plane}
use Rattle.desk_data.specs.declared.row.Row.{Row}
use Rattle.desk_data.specs.declared.row.Row.TheVariants.{Flown, Cancelled}
use Rattle.desk_data.specs.Situation.{Situation, legs_of, planes_of, leg_at, plane_at}
use Rattle.desk_data.specs.PlanRows.{PlanRows, row_at}
use Rattle.desk_rules.specs.Numbers.{each_below, none_below, implies}
use Rattle.desk_rules.specs.Rotations.{comes_before, dep, precedes}
use Rattle.desk_rules.specs.Maintenance.{is_flown_by, flies, departs_before, is_last_before, is_left_at}
use Rattle.desk_rules.proofs.Tests.{each_below-holds, each_below-from, none_below-holds, none_below-from, implies-holds, implies-from}
use Rattle.plan_reads.specs.Last.{IsLast, IsLastOf, AreLasts, stand}
use Rattle.plan_reads.proofs.OrderLaws.{not_both, same_tests, and_true}

below_cases : (k n : ℕ) → k < suc n → (k < n) ⊎ (k ≡ n)
below_cases k n h = grind arith

nat_eq_cases : (p q : ℕ) → (p ≡ q) ⊎ (p ≢ q)
nat_eq_cases p q = grind (arith, nat_tests)

-- ---- one more leg

other_plane : (p q : ℕ) (row : Row) → is_flown_by q row ≡ true → p ≢ q → is_flown_by p row ≡ false
other_plane p q (Flown a d) h apart = grind (arith, nat_tests)
other_plane p q Cancelled h apart = refl

-- the aircraft does not fly leg n
skipped : (P : PlanRows) (p at n : ℕ) (last : Option Leg) → flies P p n ≡ false → IsLastOf P p at n last → IsLastOf P p at (n + 1) last
skipped P p at n None off h =
    let before : departs_before P p at n ≡ false = ap (λ (b : Bool). b && ltb (dep P n) at) off in
    λ x lt. elim (below_cases x n (subst (λ (k : ℕ). x < k) (add-one n) lt)) [
      | inl less ↦ h x less
      | inr same ↦ subst (λ (k : ℕ). departs_before P p at k ≡ false) (sym same) before
    ]
skipped P p at n (Some leg) off h =
    let before : departs_before P p at n ≡ false = ap (λ (b : Bool). b && ltb (dep P n) at) off in
    record {
      within = omega (arith, h.within);
      before = h.before;
      last = λ z lt departs. elim (below_cases z n (subst (λ (k : ℕ). z < k) (add-one n) lt)) [
        | inl less ↦ h.last z less departs
        | inr same ↦ absurd (not_both (departs_before P p at z) departs (subst (λ (k : ℕ). departs_before P p at k ≡ false) (sym same) before))
      ];
    }

pub none-flown : (I : Situation) (P : PlanRows) (moment : ℕ → ℕ) (n : ℕ) (lasts : List (Option Leg)) → row_at P n ≡ Cancelled → AreLasts I P moment n lasts → AreLasts I P moment (n + 1) lasts
none-flown I P moment n lasts off h = record {
  planes = h.planes;
  each = λ p lt. skipped P p (moment p) n (get_or lasts p None) (ap (is_flown_by p) off) (h.each p lt);
}

one_at : (I : Situation) (P : PlanRows) (moment : ℕ → ℕ) (q n : ℕ) (lasts : List (Option Leg)) (last : Option Leg) → q < planes_of I → flies P q n ≡ true → AreLasts I P moment n lasts → IsLastOf P q (moment q) (n + 1) last → (p : ℕ) → p < planes_of I → (p ≡ q) ⊎ (p ≢ q) → IsLastOf P p (moment p) (n + 1) (get_or (set lasts q last) p None)
one_at I P moment q n lasts last within on h new p lt (inl same) =
    let there : q < length lasts = omega (arith, h.planes) in
    subst (λ (k : ℕ). IsLastOf P k (moment k) (n + 1) (get_or (set lasts q last) k None)) (sym same)
    (subst (λ (l : Option Leg). IsLastOf P q (moment q) (n + 1) l) (sym (get_or-set_same lasts q last None there)) new)
one_at I P moment q n lasts last within on h new p lt (inr apart) =
    subst (λ (l : Option Leg). IsLastOf P p (moment p) (n + 1) l) (sym (get_or-set_other lasts q p last None apart))
    (skipped P p (moment p) n (get_or lasts p None) (other_plane p q (row_at P n) on apart) (h.each p lt))

-- aircraft q flies leg n
pub one-flown : (I : Situation) (P : PlanRows) (moment : ℕ → ℕ) (q n : ℕ) (lasts : List (Option Leg)) (last : Option Leg) → q < planes_of I → flies P q n ≡ true → AreLasts I P moment n lasts → IsLastOf P q (moment q) (n + 1) last → AreLasts I P moment (n + 1) (set lasts q last)
one-flown I P moment q n lasts last within on h new = record {
  planes = length-set lasts q last ∙ h.planes;
  each = λ p lt. one_at I P moment q n lasts last within on h new p lt (nat_eq_cases p q);
}

pub flown_by : (P : PlanRows) (n : ℕ) (plane : Plane) (at : Minute) → row_at P n ≡ Flown plane at → flies P plane.0 n ≡ true
flown_by P n plane at is = ap (is_flown_by plane.0) is ∙ eq-eqb plane.0 plane.0 refl

-- ---- all legs

-- of two legs of an aircraft one comes before the other
same_leg : (p x z : ℕ) (r s : Row) → is_flown_by p r ≡ true → is_flown_by p s ≡ true → comes_before x r z s ≡ false → comes_before z s x r ≡ false → x ≡ z
same_leg p x z (Flown a d) (Flown b e) h k off neither = grind (arith, nat_tests)
same_leg p x z (Flown a d) Cancelled h k off neither = absurd (true≢false (sym k))
same_leg p x z Cancelled s h k off neither = absurd (true≢false (sym h))

flies_of : (P : PlanRows) (p at x : ℕ) → departs_before P p at x ≡ true → flies P p x ≡ true
flies_of P p at x h = (and_parts (flies P p x) (ltb (dep P x) at) h).0

-- the last leg is a leg
pub last_in : (I : Situation) (P : PlanRows) (p at : ℕ) (last : Option Leg) → IsLastOf P p at (legs_of I) last → ForSome last (λ leg. leg.0 < legs_of I)
last_in I P p at None h = λ leg is. absurd cc
last_in I P p at (Some x) h = λ leg is.
    let same : x ≡ leg = cc in
    subst (λ (leg : Leg). leg.0 < legs_of I) same h.within

-- whether leg z departs before the moment, and after leg x
abbrev is_later : PlanRows → ℕ → ℕ → ℕ → ℕ → Bool
is_later P p at x z = departs_before P p at z && precedes P x z

pub no_leg : (I : Situation) (P : PlanRows) (p at : ℕ) → IsLastOf P p at (legs_of I) None → none_below (legs_of I) (departs_before P p at) ≡ true
no_leg I P p at h = none_below-from (legs_of I) (departs_before P p at) (λ x lt before. not_both (departs_before P p at x) before (h x lt))

pub is_last : (I : Situation) (P : PlanRows) (p at x : ℕ) → IsLast P p at (legs_of I) x → is_last_before I P p at x ≡ true
is_last I P p at x h =
    and_from (departs_before P p at x) (none_below (legs_of I) (is_later P p at x)) h.before
    (none_below-from (legs_of I) (is_later P p at x) (λ z lt both.
    let parts = and_parts (departs_before P p at z) (precedes P x z) both in
    not_both (precedes P x z) parts.1 (h.last z lt parts.0)))

only_last : (I : Situation) (P : PlanRows) (p at x z : ℕ) → IsLast P p at (legs_of I) x → z < legs_of I → is_last_before I P p at z ≡ true → x ≡ z
only_last I P p at x z h lt last =
    let parts = and_parts (departs_before P p at z) (none_below (legs_of I) (is_later P p at z)) last in
    let none : is_later P p at z x ≡ false = none_below-holds (legs_of I) (is_later P p at z) parts.1 x h.within in
    let later : precedes P z x ≡ false = sym (ap (λ (b : Bool). b && precedes P z x) h.before) ∙ none in
    same_leg p x z (row_at P x) (row_at P z) (flies_of P p at x h.before) (flies_of P p at z parts.0) (h.last z lt parts.0) later

-- what is asked of the last leg before a moment is asked of the one that is kept
last_asked : (I : Situation) (P : PlanRows) (p at x : ℕ) (test : ℕ → Bool) → IsLast P p at (legs_of I) x → each_below (legs_of I) (λ z. implies (is_last_before I P p at z) (test z)) ≡ test x
last_asked I P p at x test h =
    same_tests (each_below (legs_of I) (λ z. implies (is_last_before I P p at z) (test z))) (test x)
    (λ each. implies-holds (is_last_before I P p at x) (test x) (each_below-holds (legs_of I) (λ z. implies (is_last_before I P p at z) (test z)) each x h.within) (is_last I P p at x h))
    (λ met. each_below-from (legs_of I) (λ z. implies (is_last_before I P p at z) (test z)) (λ z lt.
    implies-from (is_last_before I P p at z) (test z) (λ last. subst (λ (k : ℕ). test k ≡ true) (only_last I P p at x z h lt last) met)))

-- the aircraft is left where it stands after its last leg
pub left_asked : (I : Situation) (P : PlanRows) (p at airport : ℕ) (last : Option Leg) → IsLastOf P p at (legs_of I) last → is_left_at I P p at airport ≡ eqb (stand I p last).0 airport
left_asked I P p at airport None h =
    let no_last : each_below (legs_of I) (λ x. implies (is_last_before I P p at x) (eqb (leg_at I x).dest.0 airport)) ≡ true =
    each_below-from (legs_of I) (λ x. implies (is_last_before I P p at x) (eqb (leg_at I x).dest.0 airport)) (λ x lt.
    implies-from (is_last_before I P p at x) (eqb (leg_at I x).dest.0 airport) (λ last.
    absurd (not_both (departs_before P p at x) (and_parts (departs_before P p at x) (none_below (legs_of I) (is_later P p at x)) last).0 (h x lt)))) in
    rw (no_leg I P p at h, no_last) (and_true (eqb (plane_at I p).origin.0 airport))
left_asked I P p at airport (Some leg) h =
    let some : none_below (legs_of I) (departs_before P p at) ≡ false = elim (cases_Bool (none_below (legs_of I) (departs_before P p at))) [
      | inl none ↦ absurd (not_both (departs_before P p at leg.0) h.before (none_below-holds (legs_of I) (departs_before P p at) none leg.0 h.within))
      | inr other ↦ other
    ] in
    rw (some, last_asked I P p at leg.0 (λ x. eqb (leg_at I x).dest.0 airport) h) refl
