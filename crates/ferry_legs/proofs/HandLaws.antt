-- How many aircraft are at hand, and how many are missing, as one more leg is added.
use Rattle.std.proofs.Common.{◌≡◌, ◌≢◌, ℕ, ◌+◌, ◌-◌, ◌<◌, ◌≤◌, inl, inr, Bool, true, false, ◌&&◌, not, cond, eqb, ltb, leb, List, [], ◌∷◌, length, length-append, add-one, refl, sym, ap, ◌∙◌, arith}
use Rattle.std.specs.Prelude.{Option, None, filter, count_by}
use Rattle.std.proofs.lemmas.Bool.{cases_Bool, true≢false, leb-true, leb-false, ltb-true, ltb-false}
use Rattle.std.proofs.lemmas.Bool.Decides.{nat_tests}
use Rattle.std.proofs.lemmas.List.Sums.{length-filter, count_by-le-length}
use Rattle.desk_units.specs.declared.numbers.Leg.{Leg}
use Rattle.desk_data.specs.declared.info.PositionInfo.{PositionInfo}
use Rattle.desk_data.specs.Situation.{Situation, legs_of, planes_of, plane_at}
use Rattle.desk_data.specs.PlanRows.{PlanRows}
use Rattle.desk_data.specs.Valid.{IsPlanFor}
use Rattle.desk_rules.specs.Numbers.{numbers}
use Rattle.desk_rules.specs.Cost.{is_wanted, ends_at}
use Rattle.desk_rules.specs.Maintenance.{is_left_at}
use Rattle.desk_rules.proofs.HourLaws.{length-numbers}
use Rattle.plan_reads.specs.Last.{IsLastOf, stand}
use Rattle.plan_reads.proofs.LastLaws.{left_asked}
use Rattle.added_legs.specs.declared.added.Added.{Added}
use Rattle.added_legs.specs.Merged.{plane_end, added_for, merged_day, merged_plan}
use Rattle.added_legs.specs.Ferried.{with_added}
use Rattle.added_legs.proofs.SumLaws.{filter_more, filter_same}
use Rattle.ferry_legs.specs.Positions.{hand_of_first}
use Rattle.ferry_legs.specs.Prices.{at_hand_with, IsInTime}
use Rattle.ferry_legs.proofs.SumLaws.{one_if, count_change, counted}
use Rattle.ferry_legs.proofs.EndLaws.{ends_first, ends_other, ends_before, ends_after}

-- whether aircraft p is one that a position wants, at an airport
abbrev pub is_at : Situation → PositionInfo → ℕ → ℕ → Bool
is_at I position p there = is_wanted position (plane_at I p) && eqb there position.airport.0

-- whether it is at hand with added legs
abbrev is_hand : Situation → PlanRows → List Added → PositionInfo → ℕ → Bool
is_hand I P A position q = is_wanted position (plane_at I q) && ends_at (merged_day I P A) (merged_plan I P A) q position.airport.0

module _ (I : Situation) (P : PlanRows) (plan : IsPlanFor I P) (A : List Added) (a : Added) (lt : a.plane.0 < planes_of I) (air : (plane_at I a.plane.0).surface ≡ false) (none : added_for A a.plane.0 ≡ None) (time : IsInTime I P a.plane.0 a.dep.0) where
  was_there : (position : PositionInfo) → is_hand I P A position a.plane.0 ≡ is_at I position a.plane.0 (plane_end I P a.plane.0).0
  was_there position = ap (λ (b : Bool). is_wanted position (plane_at I a.plane.0) && b) (ends_before I P plan A a.plane.0 a.dep.0 position.airport.0 lt air none time)

  now_there : (position : PositionInfo) → is_hand I P (with_added A a) position a.plane.0 ≡ is_at I position a.plane.0 a.dest.0
  now_there position = ap (λ (b : Bool). is_wanted position (plane_at I a.plane.0) && b) (ends_after I P plan A a position.airport.0 lt air none time)

  -- one aircraft ends elsewhere
  pub hand_changes : (position : PositionInfo) → at_hand_with I P (with_added A a) position + one_if (is_at I position a.plane.0 (plane_end I P a.plane.0).0) ≡ at_hand_with I P A position + one_if (is_at I position a.plane.0 a.dest.0)
  hand_changes position =
      let change : at_hand_with I P (with_added A a) position + one_if (is_hand I P A position a.plane.0) ≡ at_hand_with I P A position + one_if (is_hand I P (with_added A a) position a.plane.0) =
      count_change (is_hand I P (with_added A a) position) (is_hand I P A position) (planes_of I) a.plane.0 lt (λ q below apart.
      ap (λ (b : Bool). is_wanted position (plane_at I q) && b) (ends_other I P plan A a q position.airport.0 below apart)) in
      omega (arith, change, ap one_if (was_there position), ap one_if (now_there position))

  -- it was at hand where it was
  pub hand_held : (position : PositionInfo) → one_if (is_at I position a.plane.0 (plane_end I P a.plane.0).0) ≤ at_hand_with I P A position
  hand_held position =
      let held : one_if (is_hand I P A position a.plane.0) ≤ at_hand_with I P A position = counted (is_hand I P A position) (planes_of I) a.plane.0 lt in
      omega (arith, held, ap one_if (was_there position))

-- ---- what is missing

-- a position has its aircraft in one place at most
not_both_places : (there here airport : ℕ) → there ≢ here → (eqb there airport && eqb here airport) ≡ false
not_both_places there here airport apart = grind (arith, nat_tests)

flip : (a b : ℕ) → eqb a b ≡ eqb b a
flip a b = grind (arith, nat_tests)

gap_left : (count hand now : ℕ) → now + 1 ≡ hand → count - now ≡ (count - hand) + one_if (leb hand count)
gap_left count hand now is = elim (cases_Bool (leb hand count)) [
  | inl on ↦ omega (arith, is, leb-true hand count on, ap one_if on)
  | inr off ↦ omega (arith, is, leb-false hand count off, ap one_if off)
]

gap_filled : (count hand now : ℕ) → now ≡ hand + 1 → (count - now) + one_if (ltb hand count) ≡ count - hand
gap_filled count hand now is = elim (cases_Bool (ltb hand count)) [
  | inl on ↦ omega (arith, is, ltb-true hand count on, ap one_if on)
  | inr off ↦ omega (arith, is, ltb-false hand count off, ap one_if off)
]

gap_changes : (wanted from dest : Bool) (count hand now : ℕ) → (from && dest) ≡ false → now + one_if (wanted && from) ≡ hand + one_if (wanted && dest) → (count - now) + one_if (dest && (wanted && ltb hand count)) ≡ (count - hand) + one_if (from && (wanted && leb hand count))
gap_changes true true true count hand now apart is = absurd (true≢false apart)
gap_changes true true false count hand now apart is = omega (arith, gap_left count hand now (omega (arith, is)))
gap_changes true false true count hand now apart is = omega (arith, gap_filled count hand now (omega (arith, is)))
gap_changes true false false count hand now apart is = omega (arith, is)
gap_changes false true true count hand now apart is = absurd (true≢false apart)
gap_changes false true false count hand now apart is = omega (arith, is)
gap_changes false false true count hand now apart is = omega (arith, is)
gap_changes false false false count hand now apart is = omega (arith, is)

-- the aircraft that are missing at a position, as an aircraft goes from one airport to another
pub missing_changes : (position : PositionInfo) (wanted : Bool) (from dest hand now : ℕ) → from ≢ dest → now + one_if (wanted && eqb from position.airport.0) ≡ hand + one_if (wanted && eqb dest position.airport.0) → (position.count - now) + one_if (eqb position.airport.0 dest && (wanted && ltb hand position.count)) ≡ (position.count - hand) + one_if (eqb position.airport.0 from && (wanted && leb hand position.count))
missing_changes position wanted from dest hand now apart is =
    ap (λ (b : Bool). (position.count - now) + one_if (b && (wanted && ltb hand position.count))) (flip position.airport.0 dest)
    ∙ gap_changes wanted (eqb from position.airport.0) (eqb dest position.airport.0) position.count hand now (not_both_places from dest position.airport.0 apart) is
    ∙ ap (λ (b : Bool). (position.count - hand) + one_if (b && (wanted && leb hand position.count))) (flip from position.airport.0)

-- ---- at first

pub hand_at_first : (I : Situation) (P : PlanRows) (position : PositionInfo) → IsPlanFor I P → hand_of_first (planes_of I) I P position ≡ at_hand_with I P [] position
hand_at_first I P position plan =
    ap length (filter_same (λ q. is_wanted position (plane_at I q) && ends_at I P q position.airport.0) (is_hand I P [] position) (planes_of I)
    (λ q lt. ap (λ (b : Bool). is_wanted position (plane_at I q) && b) (sym (ends_first I P plan q position.airport.0 lt))))

one_long : (n : ℕ) (b : Bool) → length (cond b (n ∷ []) []) ≡ one_if b
one_long n true = refl
one_long n false = refl

hand_more : (I : Situation) (P : PlanRows) (position : PositionInfo) (n : ℕ) (b : Bool) → (is_wanted position (plane_at I n) && ends_at I P n position.airport.0) ≡ b → hand_of_first (n + 1) I P position ≡ hand_of_first n I P position + one_if b
hand_more I P position n b is =
    let test : ℕ → Bool = λ p. is_wanted position (plane_at I p) && ends_at I P p position.airport.0 in
    ap (λ (k : ℕ). length (filter test (numbers k))) (add-one n)
    ∙ ap length (filter_more test n)
    ∙ length-append (filter test (numbers n)) (cond (test n) (n ∷ []) [])
    ∙ ap (λ (c : Bool). length (filter test (numbers n)) + length (cond c (n ∷ []) [])) is
    ∙ ap (λ (k : ℕ). length (filter test (numbers n)) + k) (one_long n b)

wanted_not : (wanted : Bool) → (wanted && false) ≡ false
wanted_not true = refl
wanted_not false = refl

-- surface transport is nowhere at hand
pub hand_surface : (I : Situation) (P : PlanRows) (position : PositionInfo) (p : ℕ) → (plane_at I p).surface ≡ true → hand_of_first (p + 1) I P position ≡ hand_of_first p I P position
hand_surface I P position p surface =
    let wanted = is_wanted position (plane_at I p) in
    let off : (wanted && ends_at I P p position.airport.0) ≡ false = ap (λ (b : Bool). wanted && (not b && is_left_at I P p I.parts.to.0 position.airport.0)) surface ∙ wanted_not wanted in
    hand_more I P position p false off ∙ omega arith

-- another aircraft is at hand where its last leg before the window's end leaves it
pub hand_air : (I : Situation) (P : PlanRows) (position : PositionInfo) (p : ℕ) (last : Option Leg) → (plane_at I p).surface ≡ false → IsLastOf P p I.parts.to.0 (legs_of I) last → hand_of_first (p + 1) I P position ≡ hand_of_first p I P position + one_if (is_at I position p (stand I p last).0)
hand_air I P position p last air h =
    let wanted = is_wanted position (plane_at I p) in
    hand_more I P position p (is_at I position p (stand I p last).0)
    (ap (λ (b : Bool). wanted && (not b && is_left_at I P p I.parts.to.0 position.airport.0)) air
    ∙ ap (λ (b : Bool). wanted && b) (left_asked I P p I.parts.to.0 position.airport.0 last h))

-- there are no more than aircraft
pub hand_few : (n : ℕ) (I : Situation) (P : PlanRows) (position : PositionInfo) → hand_of_first n I P position ≤ n
hand_few n I P position =
    let test : ℕ → Bool = λ p. is_wanted position (plane_at I p) && ends_at I P p position.airport.0 in
    let all : hand_of_first n I P position ≡ count_by test (numbers n) = length-filter test (numbers n) in
    omega (arith, all, count_by-le-length test (numbers n), length-numbers n)

pub at_hand_few : (I : Situation) (P : PlanRows) (A : List Added) (position : PositionInfo) → at_hand_with I P A position ≤ planes_of I
at_hand_few I P A position =
    let all : at_hand_with I P A position ≡ count_by (is_hand I P A position) (numbers (planes_of I)) = length-filter (is_hand I P A position) (numbers (planes_of I)) in
    omega (arith, all, count_by-le-length (is_hand I P A position) (numbers (planes_of I)), length-numbers (planes_of I))
