-- Where aircraft end, before one more leg is added and after it.
use Rattle.std.proofs.Common.{◌≡◌, ◌≢◌, ℕ, zero, suc, ◌<◌, ◌≤◌, ◌⊎◌, inl, inr, Bool, true, false, not, ◌&&◌, cond, eqb, ltb, List, [], ◌∷◌, map, refl, sym, ap, subst, ◌∙◌, arith}
use Rattle.std.specs.Prelude.{Option, Some, None}
use Rattle.std.specs.Option.{option_map, option_or}
use Rattle.std.proofs.lemmas.Bool.{cases_Bool, true≢false, and_parts, and_from, and_left, and_cases, eq-eqb, ne_eqb, lt-ltb, le-leb, ltb-false}
use Rattle.std.proofs.lemmas.Bool.Decides.{nat_tests}
use Rattle.std.proofs.lemmas.List.{length-map}
use Rattle.std.proofs.lemmas.List.Folds.{find-append}
use Rattle.desk_units.specs.declared.numbers.Airport.{Airport}
use Rattle.desk_units.specs.declared.numbers.Leg.{Leg}
use Rattle.desk_data.specs.declared.row.Row.{Row}
use Rattle.desk_data.specs.declared.row.Row.TheVariants.{Flown, Cancelled}
use Rattle.desk_data.specs.Situation.{Situation, legs_of, planes_of, plane_at}
use Rattle.desk_data.specs.PlanRows.{PlanRows, row_at}
use Rattle.desk_data.specs.Valid.{IsPlanFor}
use Rattle.desk_rules.specs.Numbers.{numbers}
use Rattle.desk_rules.specs.Rotations.{comes_before, precedes, dep}
use Rattle.desk_rules.specs.Maintenance.{is_flown_by, flies, departs_before}
use Rattle.desk_rules.specs.Least.{leg}
use Rattle.desk_rules.specs.Cost.{ends_at}
use Rattle.desk_rules.proofs.HourLaws.{length-numbers, dep-lt}
use Rattle.plan_reads.specs.Last.{IsLastOf, AreLasts, stand}
use Rattle.plan_reads.proofs.LastLaws.{last_in, left_asked}
use Rattle.plan_reads.proofs.OrderLaws.{not_both}
use Rattle.added_legs.specs.declared.added.Added.{Added}
use Rattle.added_legs.specs.Merged.{last_leg, plane_end, added_for, merged_day, merged_plan}
use Rattle.added_legs.specs.Ferried.{ready_after, with_added}
use Rattle.added_legs.proofs.MergedLaws.{merged_legs, number_said}
use Rattle.added_legs.specs.Flights.{flight_of}
use Rattle.added_legs.specs.Stands.{is_after, stand_with}
use Rattle.added_legs.proofs.FlightLaws.{are_last}
use Rattle.added_legs.proofs.LastLaws.{later, last_before}
use Rattle.added_legs.proofs.EndLaws.{later_stand}
use Rattle.ferry_legs.specs.Prices.{IsInTime}

-- ---- the added legs of a longer list

or_none : {X : Type 0} (o : Option X) → option_or o None ≡ o
or_none None = refl
or_none (Some x) = refl

for_more : (A : List Added) (a : Added) (q : ℕ) → added_for (with_added A a) q ≡ option_or (added_for A q) (cond (eqb a.plane.0 q) (Some a) None)
unfolding added_for
for_more A a q = find-append (λ (b : Added). eqb b.plane.0 q) A (a ∷ [])

-- another aircraft has the added leg that it had
pub for_other : (A : List Added) (a : Added) (q : ℕ) → q ≢ a.plane.0 → added_for (with_added A a) q ≡ added_for A q
for_other A a q apart =
    for_more A a q
    ∙ ap (λ (b : Bool). option_or (added_for A q) (cond b (Some a) None)) (ne_eqb a.plane.0 q (λ same. apart (sym same)))
    ∙ or_none (added_for A q)

-- the aircraft has it
pub for_new : (A : List Added) (a : Added) → added_for A a.plane.0 ≡ None → added_for (with_added A a) a.plane.0 ≡ Some a
for_new A a none =
    for_more A a a.plane.0
    ∙ ap (λ (o : Option Added). option_or o (cond (eqb a.plane.0 a.plane.0) (Some a) None)) none
    ∙ ap (λ (b : Bool). cond b (Some a) None) (eq-eqb a.plane.0 a.plane.0 refl)

-- ---- there is a last leg before a moment, or none at all

record HasLast (P : PlanRows) (p at n : ℕ) : Type 0 where
  last : Option Leg
  is : IsLastOf P p at n last

below_cases : (k n : ℕ) → k < suc n → (k < n) ⊎ (k ≡ n)
below_cases k n h = grind arith

-- legs of one aircraft are in a strict order
behind : (p x n z : ℕ) (r s t : Row) → is_flown_by p r ≡ true → is_flown_by p s ≡ true → is_flown_by p t ≡ true → comes_before x r n s ≡ true → comes_before x r z t ≡ false → comes_before n s z t ≡ false
behind p x n z (Flown a d) (Flown b e) (Flown c f) hr hs ht on off = grind (arith, nat_tests)
behind p x n z (Flown a d) (Flown b e) Cancelled hr hs ht on off = refl
behind p x n z (Flown a d) Cancelled t hr hs ht on off = absurd (true≢false (sym hs))
behind p x n z Cancelled s t hr hs ht on off = absurd (true≢false (sym hr))

not_itself : (n : ℕ) (r : Row) → comes_before n r n r ≡ false
not_itself n (Flown p d) = grind (arith, nat_tests)
not_itself n Cancelled = refl

own : (P : PlanRows) (p at x : ℕ) → departs_before P p at x ≡ true → flies P p x ≡ true
own P p at x h = (and_parts (flies P p x) (ltb (dep P x) at) h).0

-- leg n does not depart before the moment
same_last : (P : PlanRows) (p at n : ℕ) (last : Option Leg) → departs_before P p at n ≡ false → IsLastOf P p at n last → IsLastOf P p at (suc n) last
same_last P p at n None off h = λ x lt. elim (below_cases x n lt) [
  | inl less ↦ h x less
  | inr same ↦ subst (λ (k : ℕ). departs_before P p at k ≡ false) (sym same) off
]
same_last P p at n (Some l) off h = record {
  within = omega (arith, h.within);
  before = h.before;
  last = λ z lt departs. elim (below_cases z n lt) [
    | inl less ↦ h.last z less departs
    | inr same ↦ absurd (not_both (departs_before P p at z) departs (subst (λ (k : ℕ). departs_before P p at k ≡ false) (sym same) off))
  ];
}

-- leg n departs before the moment, and after those before it
new_last : (P : PlanRows) (p at n : ℕ) → departs_before P p at n ≡ true → ((z : ℕ) → z < n → departs_before P p at z ≡ true → precedes P n z ≡ false) → IsLastOf P p at (suc n) (Some (leg n))
new_last P p at n on after = record {
  within = omega arith;
  before = on;
  last = λ z lt departs. elim (below_cases z n lt) [
    | inl less ↦ after z less departs
    | inr same ↦ subst (λ (k : ℕ). precedes P n k ≡ false) (sym same) (not_itself n (row_at P n))
  ];
}

one_more : (P : PlanRows) (p at n : ℕ) (last : Option Leg) → departs_before P p at n ≡ true → IsLastOf P p at n last → HasLast P p at (suc n)
one_more P p at n None on h = record {
  last = Some (leg n);
  is = new_last P p at n on (λ z lt departs. absurd (not_both (departs_before P p at z) departs (h z lt)));
}
one_more P p at n (Some l) on h = elim (cases_Bool (precedes P l.0 n)) [
  | inl first ↦ record {
    last = Some (leg n);
    is = new_last P p at n on (λ z lt departs.
        behind p l.0 n z (row_at P l.0) (row_at P n) (row_at P z) (own P p at l.0 h.before) (own P p at n on) (own P p at z departs) first (h.last z lt departs));
  }
  | inr off ↦ record {
    last = Some l;
    is = record {
      within = omega (arith, h.within);
      before = h.before;
      last = λ z lt departs. elim (below_cases z n lt) [
        | inl less ↦ h.last z less departs
        | inr same ↦ subst (λ (k : ℕ). precedes P l.0 k ≡ false) (sym same) off
      ];
    };
  }
]

has_last : (P : PlanRows) (p at n : ℕ) → HasLast P p at n
has_last P p at zero = record { last = None; is = λ x lt. absurd (omega arith) }
has_last P p at (suc n) =
    let before = has_last P p at n in
    elim (cases_Bool (departs_before P p at n)) [
      | inl on ↦ one_more P p at n before.last on before.is
      | inr off ↦ record { last = before.last; is = same_last P p at n before.last off before.is }
    ]

-- ---- the last leg of an aircraft

lasts_at : Situation → PlanRows → ℕ → List (Option Leg)
lasts_at I P at = map (λ (p : ℕ). (has_last P p at (legs_of I)).last) (numbers (planes_of I))

are_lasts : (I : Situation) (P : PlanRows) (at : ℕ) → AreLasts I P (λ p. at) (legs_of I) (lasts_at I P at)
unfolding lasts_at
are_lasts I P at = record {
  planes = length-map (numbers (planes_of I)) (λ (p : ℕ). (has_last P p at (legs_of I)).last) ∙ length-numbers (planes_of I);
  each = λ p lt. subst (IsLastOf P p at (legs_of I)) (sym (number_said (λ (p : ℕ). (has_last P p at (legs_of I)).last) (planes_of I) p None lt)) (has_last P p at (legs_of I)).is;
}

pub last_leg_is : (I : Situation) (P : PlanRows) (p : ℕ) → IsPlanFor I P → p < planes_of I → IsLastOf P p 52500000 (legs_of I) (last_leg I P p)
last_leg_is I P p plan lt =
    let are = are_lasts I P 52500000 in
    subst (IsLastOf P p 52500000 (legs_of I)) (sym ((are_last I P (lasts_at I P 52500000) plan are).each p lt)) (are.each p lt)

-- no leg departs after the last moment
flies_not : (I : Situation) (P : PlanRows) (p x : ℕ) → IsPlanFor I P → departs_before P p 52500000 x ≡ false → flies P p x ≡ false
flies_not I P p x plan not_early =
    elim (and_cases (flies P p x) (ltb (dep P x) 52500000) not_early) [
      | inl off ↦ off
      | inr late ↦ let le = ltb-false (dep P x) 52500000 late in absurd (omega (arith, le, dep-lt I P x plan))
    ]

always : (I : Situation) (P : PlanRows) (p at x : ℕ) → IsPlanFor I P → departs_before P p at x ≡ true → departs_before P p 52500000 x ≡ true
always I P p at x plan departs =
    and_from (flies P p x) (ltb (dep P x) 52500000) (own P p at x departs) (lt-ltb (dep P x) 52500000 (dep-lt I P x plan))

-- where the aircraft is ready before a moment, its last leg is the last before it, and an added leg comes after it
record IsReady (I : Situation) (P : PlanRows) (p at end : ℕ) (last : Option Leg) : Type 0 where
  found : IsLastOf P p end (legs_of I) last
  after : is_after P last at ≡ true

soon : (I : Situation) (P : PlanRows) (p at end : ℕ) (last : Option Leg) → IsPlanFor I P → IsLastOf P p 52500000 (legs_of I) last → ready_after I P p last ≤ at → at < end → IsReady I P p at end last
soon I P p at end None plan h le lt = record {
  found = λ x within. and_left (flies P p x) (ltb (dep P x) end) (flies_not I P p x plan (h x within));
  after = refl;
}
soon I P p at end (Some l) plan h le lt =
    let early : dep P l.0 ≤ at = omega (arith, le) in
    record {
      found = record {
        within = h.within;
        before = and_from (flies P p l.0) (ltb (dep P l.0) end) (own P p 52500000 l.0 h.before) (lt-ltb (dep P l.0) end (omega (arith, early, lt)));
        last = λ z within departs. h.last z within (always I P p end z plan departs);
      };
      after = le-leb (dep P l.0) at early;
    }

-- ---- where aircraft end

module _ (I : Situation) (P : PlanRows) (plan : IsPlanFor I P) where
  ends_are : (A : List Added) (q airport : ℕ) (last : Option Leg) → q < planes_of I → IsLastOf P q I.parts.to.0 (legs_of I) last → ends_at (merged_day I P A) (merged_plan I P A) q airport ≡ (not (plane_at I q).surface && eqb (stand_with I P q I.parts.to.0 last (option_map (flight_of I P q) (added_for A q))).0 airport)
  ends_are A q airport last lt h =
      let M = merged_day I P A in
      let Q = merged_plan I P A in
      let at = I.parts.to.0 in
      let now = later I P q at last (added_for A q) in
      let is_last : IsLastOf Q q at (legs_of M) now = subst (λ (n : ℕ). IsLastOf Q q at n now) (sym (merged_legs I P A)) (last_before I P A plan.legs q at last lt h) in
      ap (λ (b : Bool). not (plane_at I q).surface && b) (left_asked M Q q at airport now is_last)
      ∙ ap (λ (there : Airport). not (plane_at I q).surface && eqb there.0 airport) (later_stand I P A q at last (option_map (flight_of I P q) (added_for A q)) lt refl (last_in I P q at last h))

  -- with no added leg an aircraft ends as in the plan
  pub ends_first : (q airport : ℕ) → q < planes_of I → ends_at (merged_day I P []) (merged_plan I P []) q airport ≡ ends_at I P q airport
  unfolding added_for
  ends_first q airport lt =
      let has = has_last P q I.parts.to.0 (legs_of I) in
      ends_are [] q airport has.last lt has.is
      ∙ ap (λ (b : Bool). not (plane_at I q).surface && b) (sym (left_asked I P q I.parts.to.0 airport has.last has.is))

  -- an aircraft whose added leg is another one ends where it ended
  pub ends_other : (A : List Added) (a : Added) (q airport : ℕ) → q < planes_of I → q ≢ a.plane.0 → ends_at (merged_day I P (with_added A a)) (merged_plan I P (with_added A a)) q airport ≡ ends_at (merged_day I P A) (merged_plan I P A) q airport
  ends_other A a q airport lt apart =
      let has = has_last P q I.parts.to.0 (legs_of I) in
      ends_are (with_added A a) q airport has.last lt has.is
      ∙ ap (λ (o : Option Added). not (plane_at I q).surface && eqb (stand_with I P q I.parts.to.0 has.last (option_map (flight_of I P q) o)).0 airport) (for_other A a q apart)
      ∙ sym (ends_are A q airport has.last lt has.is)

  -- with no added leg, where its last leg leaves it
  pub ends_before : (A : List Added) (p at airport : ℕ) → p < planes_of I → (plane_at I p).surface ≡ false → added_for A p ≡ None → IsInTime I P p at → ends_at (merged_day I P A) (merged_plan I P A) p airport ≡ eqb (plane_end I P p).0 airport
  unfolding plane_end
  ends_before A p at airport lt air none time =
      let last = last_leg I P p in
      let is = soon I P p at I.parts.to.0 last plan (last_leg_is I P p plan lt) time.after time.before in
      ends_are A p airport last lt is.found
      ∙ ap (λ (o : Option Added). not (plane_at I p).surface && eqb (stand_with I P p I.parts.to.0 last (option_map (flight_of I P p) o)).0 airport) none
      ∙ ap (λ (b : Bool). not b && eqb (stand I p last).0 airport) air

  -- and with one, where this arrives
  pub ends_after : (A : List Added) (a : Added) (airport : ℕ) → a.plane.0 < planes_of I → (plane_at I a.plane.0).surface ≡ false → added_for A a.plane.0 ≡ None → IsInTime I P a.plane.0 a.dep.0 → ends_at (merged_day I P (with_added A a)) (merged_plan I P (with_added A a)) a.plane.0 airport ≡ eqb a.dest.0 airport
  ends_after A a airport lt air none time =
      let p = a.plane.0 in
      let last = last_leg I P p in
      let is = soon I P p a.dep.0 I.parts.to.0 last plan (last_leg_is I P p plan lt) time.after time.before in
      ends_are (with_added A a) p airport last lt is.found
      ∙ ap (λ (o : Option Added). not (plane_at I p).surface && eqb (stand_with I P p I.parts.to.0 last (option_map (flight_of I P p) o)).0 airport) (for_new A a none)
      ∙ ap (λ (b : Bool). not b && eqb (cond (ltb a.dep.0 I.parts.to.0 && is_after P last a.dep.0) a.dest (stand I p last)).0 airport) air
      ∙ ap (λ (b : Bool). eqb (cond b a.dest (stand I p last)).0 airport) (and_from (ltb a.dep.0 I.parts.to.0) (is_after P last a.dep.0) (lt-ltb a.dep.0 I.parts.to.0 time.before) is.after)
