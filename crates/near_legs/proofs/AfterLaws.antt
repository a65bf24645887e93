-- The leg after a leg, from the leg before each.
use Rattle.std.proofs.Common.{◌≡◌, ◌≢◌, ℕ, zero, suc, ◌+◌, ◌<◌, ◌≤◌, ◌⊎◌, inl, inr, true, false, List, [], ◌∷◌, length, get_or, set, refl, sym, ap, subst, ◌∙◌, arith}
use Rattle.std.specs.Prelude.{Option, Some, None, filter, replicate}
use Rattle.std.specs.Option.{ForSome}
use Rattle.std.specs.List.{All, AllPairs, Contains}
use Rattle.std.proofs.lemmas.Bool.{cases_eq, true≢false}
use Rattle.std.proofs.lemmas.List.{get_or-set_same, get_or-set_other, length-replicate, length-set, get_or_past}
use Rattle.std.proofs.lemmas.List.Elements.{All-nil, All-head, All-contains}
use Rattle.std.proofs.lemmas.List.Kept.{AllPairs-cons, AllPairs-filter}
use Rattle.desk_units.specs.declared.numbers.Leg.{Leg}
use Rattle.desk_data.specs.declared.row.Row.{Row}
use Rattle.desk_data.specs.declared.row.Row.TheVariants.{Flown, Cancelled}
use Rattle.desk_data.specs.Situation.{Situation, legs_of}
use Rattle.desk_data.specs.PlanRows.{PlanRows, row_at}
use Rattle.desk_data.specs.Valid.{IsPlanFor}
use Rattle.desk_rules.specs.Rotations.{precedes, comes_before}
use Rattle.desk_rules.specs.Passengers.{is_flown}
use Rattle.desk_rules.specs.Words.{Flies, Precedes}
use Rattle.desk_rules.proofs.RotationLaws.{precedes-holds, precedes-from}
use Rattle.desk_data.proofs.PathOrder.{pairs_head, pairs_nil}
use Rattle.desk_model.proofs.RotationOrder.{flown_once, precedes-trans, precedes-itself, precedes-total}
use Rattle.plan_reads.specs.Before.{IsNearest, IsLegBefore, AreBefore}
use Rattle.plan_reads.proofs.OrderLaws.{comes_before-total, not_both}
use Rattle.near_moves.specs.MoveParts.{legs_from}
use Rattle.near_moves.specs.Words.{IsFrom}
use Rattle.near_moves.proofs.ListLaws.{contains_cases, contains_head, contains_tail, contains_none, contains_filter, filter_contains, All_from_contains, for_none, for_some, same_ordered}
use Rattle.near_moves.proofs.FromLaws.{from-ordered, from-holds, from-each}
use Rattle.near_moves.proofs.UnitLaws.{row_flown}
use Rattle.near_legs.specs.LegTables.{IsInverse, AreAfter, from_next}

-- ---- for each leg the one that has it before it

below_cases : (x n : ℕ) → x < n + 1 → (x < n) ⊎ (x ≡ n)
below_cases x n h = grind arith

blank : (n x : ℕ) → get_or (replicate n (let o : Option Leg = None in o)) x None ≡ None
blank zero x = refl
blank (suc n) zero = refl
blank (suc n) (suc x) = blank n x

pub inverse_none : (before after : List (Option Leg)) (n : ℕ) → n ≡ length before → after ≡ replicate n None → IsInverse 0 before after
inverse_none before after n long is = subst (IsInverse 0 before) (sym is) (record {
  legs = length-replicate n None ∙ long;
  found = λ x. subst (λ o. ForSome o (λ next. (next.0 < length before) × (get_or before next.0 None ≡ Some (record { 0 = x })))) (sym (blank n x)) (for_none (λ next. (next.0 < length before) × (get_or before next.0 None ≡ Some (record { 0 = x }))));
  all = λ x y lt was now. omega (arith, lt);
})

pub inverse_same : (before after : List (Option Leg)) (n : ℕ) → ((leg : Leg) → get_or before n None ≡ Some leg → ⊥) → IsInverse n before after → IsInverse (n + 1) before after
inverse_same before after n off is = record {
  legs = is.legs;
  found = is.found;
  all = λ x y lt was now. elim (below_cases y n lt) [
    | inl less ↦ is.all x y less was now
    | inr last ↦ off (record { 0 = x }) (subst (λ (k : ℕ). get_or before k None ≡ Some (record { 0 = x })) last was)
  ];
}

written : (after : List (Option Leg)) (x : ℕ) (next : Leg) → x < length after → get_or (set after x (Some next)) x None ≡ None → ⊥
written after x next lt now = let e : get_or (set after x (Some next)) x None ≡ Some next = get_or-set_same after x (Some next) None lt in cc

inverse_found : (before after : List (Option Leg)) (n : ℕ) (leg next : Leg) (x : ℕ) → n < length before → next.0 ≡ n → get_or before n None ≡ Some leg → leg.0 < length after → (x ≡ leg.0) ⊎ (x ≢ leg.0) → ForSome (get_or after x None) (λ k. (k.0 < length before) × (get_or before k.0 None ≡ Some (record { 0 = x }))) → ForSome (get_or (set after leg.0 (Some next)) x None) (λ k. (k.0 < length before) × (get_or before k.0 None ≡ Some (record { 0 = x })))
inverse_found before after n leg next x lt same was within (inl here) old =
    let at : get_or (set after leg.0 (Some next)) x None ≡ Some next = ap (λ (k : ℕ). get_or (set after leg.0 (Some next)) k None) here ∙ get_or-set_same after leg.0 (Some next) None within in
    let back : get_or before next.0 None ≡ Some (record { 0 = x }) = ap (λ (k : ℕ). get_or before k None) same ∙ was ∙ ap (λ (k : ℕ). let l : Leg = record { 0 = k } in Some l) (sym here) in
    subst (λ o. ForSome o (λ k. (k.0 < length before) × (get_or before k.0 None ≡ Some (record { 0 = x })))) (sym at)
    (for_some (λ k. (k.0 < length before) × (get_or before k.0 None ≡ Some (record { 0 = x }))) next (omega (arith, same, lt), back))
inverse_found before after n leg next x lt same was within (inr apart) old =
    subst (λ o. ForSome o (λ k. (k.0 < length before) × (get_or before k.0 None ≡ Some (record { 0 = x })))) (sym (get_or-set_other after leg.0 x (Some next) None apart)) old

inverse_all : (before after : List (Option Leg)) (n : ℕ) (leg next : Leg) (x y : ℕ) → get_or before n None ≡ Some leg → leg.0 < length after → IsInverse n before after → (y < n) ⊎ (y ≡ n) → (x ≡ leg.0) ⊎ (x ≢ leg.0) → get_or before y None ≡ Some (record { 0 = x }) → get_or (set after leg.0 (Some next)) x None ≡ None → ⊥
inverse_all before after n leg next x y was within is place (inl here) had now =
    written after leg.0 next within (subst (λ (k : ℕ). get_or (set after leg.0 (Some next)) k None ≡ None) here now)
inverse_all before after n leg next x y was within is (inl less) (inr apart) had now =
    is.all x y less had (sym (get_or-set_other after leg.0 x (Some next) None apart) ∙ now)
inverse_all before after n leg next x y was within is (inr last) (inr apart) had now =
    let at : get_or before n None ≡ Some (record { 0 = x }) = subst (λ (k : ℕ). get_or before k None ≡ Some (record { 0 = x })) last had in
    let same : leg ≡ record { 0 = x } = cc in
    apart (sym (ap (λ (l : Leg). l.0) same))

pub inverse_more : (before after : List (Option Leg)) (n : ℕ) (leg next : Leg) → n < length before → next.0 ≡ n → get_or before n None ≡ Some leg → leg.0 < length before → IsInverse n before after → IsInverse (n + 1) before (set after leg.0 (Some next))
inverse_more before after n leg next lt same was within is =
    let inside : leg.0 < length after = omega (arith, is.legs, within) in
    record {
      legs = length-set after leg.0 (Some next) ∙ is.legs;
      found = λ x. inverse_found before after n leg next x lt same was inside (cases_eq x leg.0) (is.found x);
      all = λ x y below had now. inverse_all before after n leg next x y was inside is (below_cases y n below) (cases_eq x leg.0) had now;
    }

-- ---- the legs from a leg on are the leg, and those from the leg after it on

later_flown : (x y : ℕ) (r s : Row) → comes_before x r y s ≡ true → is_flown s ≡ true
later_flown x y (Flown p d) (Flown q e) h = refl
later_flown x y (Flown p d) Cancelled h = absurd (true≢false (sym h))
later_flown x y Cancelled s h = absurd (true≢false (sym h))

-- x is the leg before the one that is after it
next-nearest : (rows : List Row) (before after : List (Option Leg)) (x : ℕ) (next : Leg) → AreBefore rows before → IsInverse (length before) before after → get_or after x None ≡ Some next → IsNearest rows (length rows) next.0 x
next-nearest rows before after x next are is at =
    let own = is.found x next at in
    let lt = own.0 in
    subst (λ o. IsLegBefore rows (length rows) next.0 o) own.1 (are.each next.0 (omega (arith, are.legs, lt)))

from-next : (I : Situation) (P : PlanRows) (x y z : ℕ) → Precedes P x y → IsFrom I P y z → Precedes P x z
from-next I P x y z first is =
    elim is.place [
      | inl same ↦ subst (Precedes P x) (sym same) first
      | inr after ↦ precedes-trans P x y z first after
    ]

-- a leg after x is the next one, or after that
after-next : (I : Situation) (P : PlanRows) (x y z : ℕ) → IsNearest P.rows (legs_of I) y x → Precedes P x y → y < legs_of I → z < legs_of I → Precedes P x z → IsFrom I P y z
after-next I P x y z nearest first inside within before =
    let plane : before.plane ≡ first.plane = flown_once P x before.plane first.plane before.dep first.dep before.first first.first in
    let own : Flies P z first.plane before.later = subst (λ (p : ℕ). Flies P z p before.later) plane before.second in
    let place : (z ≡ y) ⊎ Precedes P y z =
    elim (cases_eq z y) [
      | inl same ↦ inl same
      | inr apart ↦ elim (precedes-total P first.plane z y before.later first.later own first.second apart) [
        | inl earlier ↦ absurd (not_both (precedes P x z) (precedes-from P x z before) (nearest.nearest z within (precedes-from P z y earlier)))
        | inr later ↦ inr later
      ]
    ] in
    record { within = within; plane = first.plane; dep = first.later; flown = first.second; place = place }

-- the leg itself
from-itself : (I : Situation) (P : PlanRows) (x : ℕ) → x < legs_of I → is_flown (row_at P x) ≡ true → IsFrom I P x x
from-itself I P x within flown =
    let row = row_flown (row_at P x) flown in
    record { within = within; plane = row.plane; dep = row.dep; flown = row.is; place = inl refl }

from-after : (I : Situation) (P : PlanRows) (x z : ℕ) → z < legs_of I → Precedes P x z → IsFrom I P x z
from-after I P x z within before = record { within = within; plane = before.plane; dep = before.dep; flown = before.first; place = inr before }

from-some : (I : Situation) (P : PlanRows) (x y : ℕ) → x < legs_of I → is_flown (row_at P x) ≡ true → y < legs_of I → IsNearest P.rows (legs_of I) y x → legs_from I P x ≡ x ∷ legs_from I P y
from-some I P x y within flown inside nearest =
    let first : Precedes P x y = precedes-holds P x y nearest.before in
    let after : All (Precedes P x) (legs_from I P y) = All_from_contains (Precedes P x) (legs_from I P y) (λ z has. from-next I P x y z first (from-holds I P y z has)) in
    same_ordered (Precedes P) (precedes-trans P) (precedes-itself P) (legs_from I P x) (x ∷ legs_from I P y) (from-ordered I P x)
    (AllPairs-cons (Precedes P) x (legs_from I P y) after (from-ordered I P y))
    (λ z has.
    let is = from-holds I P x z has in
    elim is.place [
      | inl same ↦ subst (Contains (x ∷ legs_from I P y)) (sym same) (contains_head x (legs_from I P y))
      | inr before ↦ contains_tail x z (legs_from I P y) (from-each I P y z (after-next I P x y z nearest first inside is.within before))
    ])
    (λ z has.
    elim (contains_cases x z (legs_from I P y) has) [
      | inl same ↦ subst (Contains (legs_from I P x)) same (from-each I P x x (from-itself I P x within flown))
      | inr there ↦
          let is = from-holds I P y z there in
          from-each I P x z (from-after I P x z is.within (from-next I P x y z first is))
    ])

All-contains-at : (P : PlanRows) (y w : ℕ) (ys : List ℕ) → All (Precedes P y) ys → Contains ys w → Precedes P y w
All-contains-at P y w ys all has = All-contains (Precedes P y) ys w all has

-- where no leg has x before it, none is after x: the first of those after it would
before_first : (I : Situation) (P : PlanRows) (before after : List (Option Leg)) (x y : ℕ) (ys : List ℕ) (o : Option Leg) → get_or before y None ≡ o → length P.rows ≡ legs_of I → AreBefore P.rows before → IsInverse (length before) before after → x < legs_of I → get_or after x None ≡ None
    → All (Precedes P y) ys → y < legs_of I → precedes P x y ≡ true → ((w : ℕ) → w < legs_of I → precedes P x w ≡ true → Contains (y ∷ ys) w) → IsLegBefore P.rows (length P.rows) y o → ⊥
before_first I P before after x y ys None at long are is within none head inside first each nothing =
    not_both (precedes P x y) first (nothing x (omega (arith, long, within)))
before_first I P before after x y ys (Some w) at long are is within none head inside first each nearest =
    let apart : precedes P w.0 x ≡ false = nearest.nearest x (omega (arith, long, within)) first in
    elim (comes_before-total w.0 x y (row_at P w.0) (row_at P x) (row_at P y) nearest.before first apart) [
      | inl same ↦ is.all x y (omega (arith, are.legs, long, inside)) (at ∙ ap (λ (k : ℕ). let l : Leg = record { 0 = k } in Some l) same) none
      | inr later ↦
          let lt = nearest.within in
          let ahead = precedes-holds P w.0 y nearest.before in
          elim (contains_cases y w.0 ys (each w.0 (omega (arith, long, lt)) later)) [
            | inl here ↦ precedes-itself P w.0 (subst (Precedes P w.0) here ahead)
            | inr there ↦ precedes-itself P y (precedes-trans P y w.0 y (All-contains-at P y w.0 ys head there) ahead)
          ]
    ]

first_after : (I : Situation) (P : PlanRows) (before after : List (Option Leg)) (x z : ℕ) (ys : List ℕ) → length P.rows ≡ legs_of I → AreBefore P.rows before → IsInverse (length before) before after → x < legs_of I → get_or after x None ≡ None
    → AllPairs (Precedes P) ys → All (λ y. (y < legs_of I) × (precedes P x y ≡ true)) ys → ((w : ℕ) → w < legs_of I → precedes P x w ≡ true → Contains ys w) → Contains ys z → ⊥
first_after I P before after x z [] long are is within none ordered sound each has = contains_none z has
first_after I P before after x z (y ∷ ys) long are is within none ordered sound each has =
    let own = All-head (λ k. (k < legs_of I) × (precedes P x k ≡ true)) y ys sound in
    let inside = own.0 in
    let placed : y < length P.rows = omega (arith, long, inside) in
    before_first I P before after x y ys (get_or before y None) refl long are is within none (pairs_head (Precedes P) y ys ordered) inside own.1 each (are.each y placed)

from-none : (I : Situation) (P : PlanRows) (before after : List (Option Leg)) (x : ℕ) → length P.rows ≡ legs_of I → AreBefore P.rows before → IsInverse (length before) before after → x < legs_of I → is_flown (row_at P x) ≡ true → get_or after x None ≡ None → legs_from I P x ≡ x ∷ []
from-none I P before after x long are is within flown none =
    let later = filter (precedes P x) (legs_from I P x) in
    let nothing : (z : ℕ) → z < legs_of I → Precedes P x z → ⊥ = λ z lt ahead.
    first_after I P before after x z later long are is within none
    (AllPairs-filter (Precedes P) (precedes P x) (legs_from I P x) (from-ordered I P x))
    (All_from_contains (λ y. (y < legs_of I) × (precedes P x y ≡ true)) later (λ y has.
    let parts = filter_contains (precedes P x) (legs_from I P x) y has in
    ((from-holds I P x y parts.0).within, parts.1)))
    (λ w inside test. contains_filter (precedes P x) (legs_from I P x) w (from-each I P x w (from-after I P x w inside (precedes-holds P x w test))) test)
    (contains_filter (precedes P x) (legs_from I P x) z (from-each I P x z (from-after I P x z lt ahead)) (precedes-from P x z ahead)) in
    same_ordered (Precedes P) (precedes-trans P) (precedes-itself P) (legs_from I P x) (x ∷ []) (from-ordered I P x)
    (AllPairs-cons (Precedes P) x [] (All-nil (Precedes P x)) (pairs_nil (Precedes P)))
    (λ z has.
    let own = from-holds I P x z has in
    elim own.place [
      | inl same ↦ subst (Contains (x ∷ [])) (sym same) (contains_head x [])
      | inr ahead ↦ absurd (nothing z own.within ahead)
    ])
    (λ z has.
    elim (contains_cases x z [] has) [
      | inl same ↦ subst (Contains (legs_from I P x)) same (from-each I P x x (from-itself I P x within flown))
      | inr there ↦ absurd (contains_none z there)
    ])

from-after-of : (I : Situation) (P : PlanRows) (before after : List (Option Leg)) (x : ℕ) (o : Option Leg) → get_or after x None ≡ o → length P.rows ≡ legs_of I → AreBefore P.rows before → IsInverse (length before) before after → x < legs_of I → is_flown (row_at P x) ≡ true → legs_from I P x ≡ x ∷ from_next I P o
from-after-of I P before after x None at long are is within flown = from-none I P before after x long are is within flown at
from-after-of I P before after x (Some next) at long are is within flown =
    let lt = (is.found x next at).0 in
    let nearest : IsNearest P.rows (legs_of I) next.0 x = subst (λ (n : ℕ). IsNearest P.rows n next.0 x) long (next-nearest P.rows before after x next are is at) in
    from-some I P x next.0 within flown (omega (arith, are.legs, long, lt)) nearest

pub after-are : (I : Situation) (P : PlanRows) (before after : List (Option Leg)) → IsPlanFor I P → AreBefore P.rows before → IsInverse (length before) before after → AreAfter I P after
after-are I P before after plan are is =
    let long = plan.legs in
    record {
      legs = is.legs ∙ are.legs ∙ plan.legs;
      within = λ x next at. let lt = (is.found x next at).0 in omega (arith, are.legs, long, lt);
      flown = λ x next at. later_flown x next.0 (row_at P x) (row_at P next.0) (next-nearest P.rows before after x next are is at).before;
      each = λ x lt flown. from-after-of I P before after x (get_or after x None) refl plan.legs are is lt flown;
    }

-- the legs before are in range
below_or : (y n : ℕ) → (y < n) ⊎ (n ≤ y)
below_or y n = grind arith

before-in : (rows : List Row) (before : List (Option Leg)) (y : ℕ) (o : Option Leg) → AreBefore rows before → IsLegBefore rows (length rows) y o → ForSome o (λ leg. leg.0 < length before)
before-in rows before y None are none = for_none (λ leg. leg.0 < length before)
before-in rows before y (Some leg) are nearest = for_some (λ l. l.0 < length before) leg (let lt = nearest.within in omega (arith, are.legs, lt))

pub before-within : (rows : List Row) (before : List (Option Leg)) → AreBefore rows before → (y : ℕ) → ForSome (get_or before y None) (λ leg. leg.0 < length before)
before-within rows before are y =
    elim (below_or y (length before)) [
      | inl lt ↦ before-in rows before y (get_or before y None) are (are.each y (omega (arith, are.legs, lt)))
      | inr past ↦ subst (λ o. ForSome o (λ (leg : Leg). leg.0 < length before)) (sym (get_or_past before y None past)) (for_none (λ leg. leg.0 < length before))
    ]
