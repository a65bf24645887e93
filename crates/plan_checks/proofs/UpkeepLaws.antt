-- What one more leg says of an aircraft's maintenance, and what all legs say of the rules C8 and C9.
use Rattle.std.proofs.Common.{◌≡◌, ◌≢◌, ℕ, suc, ◌+◌, ◌*◌, ◌<◌, ◌≤◌, ◌⊎◌, inl, inr, Bool, true, false, not, ◌&&◌, ◌||◌, ltb, leb, List, [], ◌∷◌, length, get_or, set, refl, sym, ap, subst, ◌∙◌, arith, add-one}
use Rattle.std.specs.Prelude.{Option, Some, None, if◌then◌else◌, map}
use Rattle.std.specs.Option.{ForSome}
use Rattle.std.proofs.lemmas.Bool.Decides.{nat_tests}
use Rattle.std.proofs.lemmas.List.{get_or-map, length-map, get_or-set_same, get_or-set_other, length-set}
use Rattle.std.proofs.lemmas.List.Sums.{sum_by-append, sum_by-cons}
use Rattle.desk_units.specs.declared.numbers.Leg.{Leg}
use Rattle.desk_data.specs.declared.info.Maint.{Maint}
use Rattle.desk_data.specs.declared.row.Row.{Row}
use Rattle.desk_data.specs.declared.row.Row.TheVariants.{Flown, Cancelled}
use Rattle.desk_data.specs.Situation.{Situation, legs_of, planes_of, leg_at, plane_at}
use Rattle.desk_data.specs.PlanRows.{PlanRows, row_at}
use Rattle.desk_rules.specs.Numbers.{numbers, none_below}
use Rattle.desk_rules.specs.Rotations.{dep, arr}
use Rattle.desk_rules.specs.Rules.{meets_span}
use Rattle.desk_rules.specs.Maintenance.{is_flown_by, flies, departs_before, departs_from, makes_maintenance, is_within_minutes, keeps_c8, keeps_c9}
use Rattle.plan_reads.specs.Last.{IsLastOf, AreLasts}
use Rattle.plan_reads.proofs.OrderLaws.{and_true}
use Rattle.plan_reads.proofs.LastLaws.{last_in, left_asked}
use Rattle.plan_checks.specs.declared.upkeep.Upkeep.{Upkeep}
use Rattle.plan_checks.specs.Upkeep.{no_upkeep, meets_maint, minutes_of, blank, start_of, IsUpkeep, AreUpkeeps, makes_it, is_within}

-- ---- one more number

below_cases : (k n : ℕ) → k < suc n → (k < n) ⊎ (k ≡ n)
below_cases k n h = grind arith

none_below-same : (n : ℕ) (test : ℕ → Bool) → test n ≡ false → none_below (suc n) test ≡ none_below n test
none_below-same n test off = ap (λ (b : Bool). none_below n test && not b) off ∙ and_true (none_below n test)

none_below-more : (n : ℕ) (test : ℕ → Bool) (b : Bool) → test n ≡ b → none_below (suc n) test ≡ (none_below n test && not b)
none_below-more n test b is = ap (λ (b : Bool). none_below n test && not b) is

minutes-more : (I : Situation) (P : PlanRows) (p at n : ℕ) → minutes_of I P p at (suc n) ≡ minutes_of I P p at n + (if departs_before P p at n then (leg_at I n).block else 0)
minutes-more I P p at n =
    let minutes : ℕ → ℕ = λ x. if departs_before P p at x then (leg_at I x).block else 0 in
    sum_by-append minutes (numbers n) (n ∷ []) ∙ omega (arith, sum_by-cons minutes n [])

-- ---- one more leg

-- the aircraft does not fly leg n
skipped : (I : Situation) (P : PlanRows) (p : ℕ) (maint : Maint) (n : ℕ) (upkeep : Upkeep) → flies P p n ≡ false → IsUpkeep I P p maint n upkeep → IsUpkeep I P p maint (suc n) upkeep
skipped I P p maint n upkeep off h =
    let at = maint.from.0 in
    let before : departs_before P p at n ≡ false = ap (λ (b : Bool). b && ltb (dep P n) at) off in
    record {
      stops = h.stops ∙ sym (none_below-same n (departs_from P p at) (ap (λ (b : Bool). b && leb at (dep P n)) off));
      free = h.free ∙ sym (none_below-same n (meets_maint I P p maint) (ap (λ (b : Bool). b && meets_span (dep P n) (arr I P n) maint.from maint.to) off));
      last = h.last;
      minutes = h.minutes ∙ sym (minutes-more I P p at n ∙ ap (λ (b : Bool). minutes_of I P p at n + (if b then (leg_at I n).block else 0)) before ∙ omega arith);
      few = omega (arith, h.few);
    }

-- the aircraft flies leg n
pub flown : (I : Situation) (P : PlanRows) (p : ℕ) (maint : Maint) (n : ℕ) (upkeep more : Upkeep) → flies P p n ≡ true → IsUpkeep I P p maint n upkeep
    → more.stops ≡ (upkeep.stops && not (leb maint.from.0 (dep P n)))
    → more.free ≡ (upkeep.free && not (meets_span (dep P n) (arr I P n) maint.from maint.to))
    → more.last ≡ upkeep.last
    → more.minutes ≡ upkeep.minutes + (if ltb (dep P n) maint.from.0 then (leg_at I n).block else 0)
    → more.minutes ≤ 2880 * (n + 1)
    → IsUpkeep I P p maint (n + 1) more
flown I P p maint n upkeep more on h stops free last minutes few =
    let at = maint.from.0 in
    subst (λ (k : ℕ). IsUpkeep I P p maint k more) (sym (add-one n))
    (let before : departs_before P p at n ≡ ltb (dep P n) at = ap (λ (b : Bool). b && ltb (dep P n) at) on in
    record {
      stops = stops ∙ ap (λ (b : Bool). b && not (leb at (dep P n))) h.stops
          ∙ sym (none_below-more n (departs_from P p at) (leb at (dep P n)) (ap (λ (b : Bool). b && leb at (dep P n)) on));
      free = free ∙ ap (λ (b : Bool). b && not (meets_span (dep P n) (arr I P n) maint.from maint.to)) h.free
          ∙ sym (none_below-more n (meets_maint I P p maint) (meets_span (dep P n) (arr I P n) maint.from maint.to) (ap (λ (b : Bool). b && meets_span (dep P n) (arr I P n) maint.from maint.to) on));
      last = subst (λ (l : Option Leg). IsLastOf P p at (legs_of I) l) (sym last) h.last;
      minutes = minutes ∙ ap (λ (k : ℕ). k + (if ltb (dep P n) at then (leg_at I n).block else 0)) h.minutes
          ∙ sym (minutes-more I P p at n ∙ ap (λ (b : Bool). minutes_of I P p at n + (if b then (leg_at I n).block else 0)) before);
      few = omega (arith, few);
    })

-- ---- no legs

pub no_legs : (I : Situation) (P : PlanRows) (lasts : List (Option Leg)) → AreLasts I P (λ p. start_of (plane_at I p).maint) (legs_of I) lasts → AreUpkeeps I P 0 (map blank lasts)
no_legs I P lasts h = record {
  planes = length-map lasts blank ∙ h.planes;
  each = λ p lt maint is.
      let there : p < length lasts = omega (arith, h.planes, lt) in
      let at : get_or (map blank lasts) p no_upkeep ≡ blank (get_or lasts p None) = get_or-map blank lasts p None no_upkeep there in
      let last : IsLastOf P p maint.from.0 (legs_of I) (get_or lasts p None) =
      subst (λ (planned : Option Maint). IsLastOf P p (start_of planned) (legs_of I) (get_or lasts p None)) is (h.each p lt) in
      subst (λ (u : Upkeep). IsUpkeep I P p maint 0 u) (sym at) (record { stops = refl; free = refl; last = last; minutes = refl; few = omega arith });
}

-- ---- all aircraft

other_plane : (p q : ℕ) (row : Row) → is_flown_by q row ≡ true → p ≢ q → is_flown_by p row ≡ false
other_plane p q (Flown a d) h apart = grind (arith, nat_tests)
other_plane p q Cancelled h apart = refl

nat_eq_cases : (p q : ℕ) → (p ≡ q) ⊎ (p ≢ q)
nat_eq_cases p q = grind (arith, nat_tests)

-- no aircraft with a maintenance flies leg n
all-skipped : (I : Situation) (P : PlanRows) (n : ℕ) (upkeeps : List Upkeep) → ((p : ℕ) → p < planes_of I → ForSome (plane_at I p).maint (λ maint. flies P p n ≡ false)) → AreUpkeeps I P n upkeeps → AreUpkeeps I P (n + 1) upkeeps
all-skipped I P n upkeeps off h = record {
  planes = h.planes;
  each = λ p lt maint is. subst (λ (k : ℕ). IsUpkeep I P p maint k (get_or upkeeps p no_upkeep)) (sym (add-one n))
      (skipped I P p maint n (get_or upkeeps p no_upkeep) (off p lt maint is) (h.each p lt maint is));
}

pub none-flown : (I : Situation) (P : PlanRows) (n : ℕ) (upkeeps : List Upkeep) → row_at P n ≡ Cancelled → AreUpkeeps I P n upkeeps → AreUpkeeps I P (n + 1) upkeeps
none-flown I P n upkeeps off h = all-skipped I P n upkeeps (λ p lt maint is. ap (is_flown_by p) off) h

-- an aircraft with no maintenance flies leg n
pub free-flown : (I : Situation) (P : PlanRows) (q n : ℕ) (upkeeps : List Upkeep) → flies P q n ≡ true → (plane_at I q).maint ≡ None → AreUpkeeps I P n upkeeps → AreUpkeeps I P (n + 1) upkeeps
free-flown I P q n upkeeps on free h = all-skipped I P n upkeeps (λ p lt maint is.
    elim (nat_eq_cases p q) [
      | inl same ↦ let here : (plane_at I q).maint ≡ Some maint = ap (λ (k : ℕ). (plane_at I k).maint) (sym same) ∙ is in absurd cc
      | inr apart ↦ other_plane p q (row_at P n) on apart
    ]) h

one-at : (I : Situation) (P : PlanRows) (q n : ℕ) (upkeeps : List Upkeep) (more : Upkeep) → q < planes_of I → flies P q n ≡ true → AreUpkeeps I P n upkeeps → ForSome (plane_at I q).maint (λ maint. IsUpkeep I P q maint (n + 1) more) → (p : ℕ) → p < planes_of I → (maint : Maint) → (plane_at I p).maint ≡ Some maint → (p ≡ q) ⊎ (p ≢ q) → IsUpkeep I P p maint (n + 1) (get_or (set upkeeps q more) p no_upkeep)
one-at I P q n upkeeps more within on h new p lt maint is (inl same) =
    let there : q < length upkeeps = omega (arith, h.planes) in
    let at : get_or (set upkeeps q more) q no_upkeep ≡ more = get_or-set_same upkeeps q more no_upkeep there in
    let here : (plane_at I q).maint ≡ Some maint = ap (λ (k : ℕ). (plane_at I k).maint) (sym same) ∙ is in
    subst (λ (k : ℕ). IsUpkeep I P k maint (n + 1) (get_or (set upkeeps q more) k no_upkeep)) (sym same)
    (subst (λ (u : Upkeep). IsUpkeep I P q maint (n + 1) u) (sym at) (new maint here))
one-at I P q n upkeeps more within on h new p lt maint is (inr apart) =
    subst (λ (u : Upkeep). IsUpkeep I P p maint (n + 1) u) (sym (get_or-set_other upkeeps q p more no_upkeep apart))
    (subst (λ (k : ℕ). IsUpkeep I P p maint k (get_or upkeeps p no_upkeep)) (sym (add-one n))
    (skipped I P p maint n (get_or upkeeps p no_upkeep) (other_plane p q (row_at P n) on apart) (h.each p lt maint is)))

-- aircraft q flies leg n
pub one-flown : (I : Situation) (P : PlanRows) (q n : ℕ) (upkeeps : List Upkeep) (more : Upkeep) → q < planes_of I → flies P q n ≡ true → AreUpkeeps I P n upkeeps → ForSome (plane_at I q).maint (λ maint. IsUpkeep I P q maint (n + 1) more) → AreUpkeeps I P (n + 1) (set upkeeps q more)
one-flown I P q n upkeeps more within on h new = record {
  planes = length-set upkeeps q more ∙ h.planes;
  each = λ p lt maint is. one-at I P q n upkeeps more within on h new p lt maint is (nat_eq_cases p q);
}

-- ---- the rules

-- what all legs say of a maintenance, if there is one
abbrev pub IsWhole : Situation → PlanRows → ℕ → Upkeep → Option Maint → Type 0
IsWhole I P p upkeep planned = ForSome planned (λ maint. IsUpkeep I P p maint (legs_of I) upkeep)

makes-made : (I : Situation) (P : PlanRows) (p : ℕ) (upkeep : Upkeep) (planned : Option Maint) → IsWhole I P p upkeep planned → makes_maintenance I P p planned ≡ makes_it I p upkeep planned
makes-made I P p upkeep None h = refl
makes-made I P p upkeep (Some maint) h =
    let said = h maint refl in
    rw (said.stops, said.free, left_asked I P p maint.from.0 maint.airport.0 upkeep.last said.last) refl

pub keeps_c8-made : (I : Situation) (P : PlanRows) (p : ℕ) (upkeep : Upkeep) → IsWhole I P p upkeep (plane_at I p).maint → keeps_c8 I P p ≡ ((plane_at I p).surface || makes_it I p upkeep (plane_at I p).maint)
unfolding keeps_c8
keeps_c8-made I P p upkeep h = ap (λ (b : Bool). (plane_at I p).surface || b) (makes-made I P p upkeep (plane_at I p).maint h)

within-counted : (I : Situation) (P : PlanRows) (p : ℕ) (upkeep : Upkeep) (planned : Option Maint) → IsWhole I P p upkeep planned → is_within_minutes I P p planned ≡ is_within upkeep planned
within-counted I P p upkeep None h = refl
within-counted I P p upkeep (Some maint) h =
    let said = h maint refl in
    ap (λ (k : ℕ). leb k maint.minutes) (sym said.minutes)

pub keeps_c9-counted : (I : Situation) (P : PlanRows) (p : ℕ) (upkeep : Upkeep) → IsWhole I P p upkeep (plane_at I p).maint → keeps_c9 I P p ≡ ((plane_at I p).surface || is_within upkeep (plane_at I p).maint)
unfolding keeps_c9
keeps_c9-counted I P p upkeep h = ap (λ (b : Bool). (plane_at I p).surface || b) (within-counted I P p upkeep (plane_at I p).maint h)

-- the last leg is a leg
pub last-within : (I : Situation) (P : PlanRows) (p : ℕ) (upkeep : Upkeep) (planned : Option Maint) → IsWhole I P p upkeep planned → ForSome planned (λ maint. ForSome upkeep.last (λ leg. leg.0 < legs_of I))
last-within I P p upkeep planned h = λ maint is. last_in I P p maint.from.0 upkeep.last (h maint is).last
