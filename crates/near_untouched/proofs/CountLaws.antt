-- How many legs of each aircraft leave an airport, or reach it, counted leg by leg.
use Rattle.std.proofs.Common.{◌≡◌, ℕ, zero, suc, ◌+◌, ◌*◌, ◌<◌, ◌≤◌, inl, inr, Bool, true, false, eqb, List, length, get_or, set, replicate, refl, sym, ap, subst, ◌∙◌, arith, add-one}
use Rattle.std.specs.Prelude.{count_by}
use Rattle.std.proofs.lemmas.Bool.{true≢false, false≢true, cases_eq, cases_lt, and_left, and_right, and_parts, eqb-true, ne_eqb, false_from_ne_true}
use Rattle.std.proofs.lemmas.List.{get_or-set_same, get_or-set_other, length-replicate, length-set}
use Rattle.std.proofs.lemmas.List.Elements.{All-replicate, All-set}
use Rattle.std.proofs.lemmas.List.Sums.{sum_by_push}
use Rattle.std.proofs.lemmas.Nat.{mul-add-lt}
use Rattle.desk_data.specs.declared.row.Row.{Row}
use Rattle.desk_data.specs.declared.row.Row.TheVariants.{Flown, Cancelled}
use Rattle.desk_data.specs.Situation.{Situation, airports_of, legs_of, planes_of, leg_at, no_leg}
use Rattle.desk_data.specs.PlanRows.{PlanRows, row_at}
use Rattle.desk_data.specs.Valid.{IsLeg, IsValid}
use Rattle.desk_rules.specs.Maintenance.{flies, is_flown_by}
use Rattle.desk_rules.specs.Numbers.{numbers}
use Rattle.hour_counts.specs.Counts.{one_if}
use Rattle.hour_counts.specs.declared.slot.Movement.{Movement}
use Rattle.hour_counts.specs.declared.slot.Movement.TheVariants.{Departure, Arrival}
use Rattle.std.proofs.lemmas.List.Elements.{All-get_or}
use Rattle.near_untouched.specs.Marks.{is_marked, HoldsOf}
use Rattle.near_untouched.specs.Hours.{half_margin, place_of, is_at, HasFew}
use Rattle.near_untouched.specs.Counts.{place_number, AreCounted}
use Rattle.near_untouched.proofs.MarkLaws.{mark-kept}

-- ---- counts

one_more : (f : ℕ → Bool) (n : ℕ) → count_by f (numbers (n + 1)) ≡ count_by f (numbers n) + one_if (f n)
one_more f n = rw add-one (sum_by_push (λ y. one_if (f y)) (numbers n) n)

-- a leg that does not pass changes no count, and one that may adds at most one
pub count-off : (f : ℕ → Bool) (n : ℕ) → f n ≡ false → count_by f (numbers (n + 1)) ≡ count_by f (numbers n)
count-off f n off =
    let none : one_if (f n) ≡ 0 = ap one_if off in
    omega (arith, one_more f n, none)

pub one_if-few : (b : Bool) → one_if b ≤ 1
one_if-few true = omega arith
one_if-few false = omega arith

pub count-on : (f : ℕ → Bool) (n : ℕ) → count_by f (numbers (n + 1)) ≤ count_by f (numbers n) + 1
count-on f n = omega (arith, one_more f n, one_if-few (f n))

pub count-none : (f : ℕ → Bool) (n : ℕ) → ((y : ℕ) → y < n → f y ≡ false) → count_by f (numbers n) ≡ 0
count-none f zero none = refl
count-none f (suc n) none =
    let here : one_if (f n) ≡ 0 = ap one_if (none n (omega arith)) in
    omega (arith, sum_by_push (λ y. one_if (f y)) (numbers n) n, here, count-none f n (λ y lt. none y (omega (arith, lt))))

-- ---- the airport of a leg

pub leg-is : (I : Situation) (y : ℕ) → IsValid I → y < legs_of I → IsLeg (airports_of I) (planes_of I) (legs_of I) (leg_at I y)
leg-is I y valid lt = All-get_or (IsLeg (airports_of I) (planes_of I) (legs_of I)) I.parts.legs y no_leg lt valid.parts.legs

place-there : (m : Movement) (I : Situation) (y : ℕ) → IsValid I → y < legs_of I → place_of m I y < airports_of I
place-there Departure I y valid lt = (leg-is I y valid lt).origin
place-there Arrival I y valid lt = (leg-is I y valid lt).dest

-- the place of an aircraft and an airport of the day is one of the table
pub place-within : (I : Situation) (p a : ℕ) (counts : List ℕ) → length counts ≡ airports_of I * planes_of I → p < planes_of I → a < airports_of I → place_number (airports_of I) p a < length counts
place-within I p a counts places lt within =
    subst (λ (n : ℕ). place_number (airports_of I) p a < n) (sym places) (mul-add-lt p (airports_of I) a (planes_of I) lt within)

-- ---- one leg more

pub counted-first : (m : Movement) (I : Situation) (R : PlanRows) (touched : List Bool) → length touched ≡ planes_of I → AreCounted 0 m I R (replicate (airports_of I * planes_of I) 0) touched
counted-first m I R touched planes = record {
  places = length-replicate (airports_of I * planes_of I) 0;
  planes = planes;
  few = All-replicate (λ (count : ℕ). count ≤ half_margin) (airports_of I * planes_of I) 0 (omega arith);
  each = λ p a lt within. inr (omega arith);
}

pub counted-off : (m : Movement) (I : Situation) (R : PlanRows) (n : ℕ) (counts : List ℕ) (touched : List Bool) → AreCounted n m I R counts touched → row_at R n ≡ Cancelled → AreCounted (n + 1) m I R counts touched
counted-off m I R n counts touched are off = record {
  places = are.places;
  planes = are.planes;
  few = are.few;
  each = λ p a lt within.
      (let none : is_at m I R p a n ≡ false = and_left (flies R p n) (eqb (place_of m I n) a) (ap (is_flown_by p) off) in
      elim (are.each p a lt within) [
        | inl on ↦ inl on
        | inr le ↦ inr (omega (arith, le, count-off (is_at m I R p a) n none))
      ]);
}

one-flier : (p q : ℕ) (row : Row) → is_flown_by p row ≡ true → is_flown_by q row ≡ true → p ≡ q
one-flier p q (Flown plane dep) one two = sym (eqb-true plane.0 p one) ∙ eqb-true plane.0 q two
one-flier p q Cancelled one two = absurd (false≢true one)

-- a leg of aircraft q is at no other place
other-off : (m : Movement) (I : Situation) (R : PlanRows) (n p a q : ℕ) → flies R q n ≡ true → (p ≡ q → a ≡ place_of m I n → ⊥) → is_at m I R p a n ≡ false
other-off m I R n p a q flown other =
    false_from_ne_true (is_at m I R p a n)
    (λ on.
    let parts = and_parts (flies R p n) (eqb (place_of m I n) a) on in
    other (one-flier p q (row_at R n) parts.0 flown) (sym (eqb-true (place_of m I n) a parts.1)))

pub counted-more : (m : Movement) (I : Situation) (R : PlanRows) (n count q b : ℕ) (counts : List ℕ) (touched : List Bool) → AreCounted n m I R counts touched → flies R q n ≡ true → q < planes_of I → b ≡ place_of m I n → b < airports_of I → count ≡ get_or counts (place_number (airports_of I) q b) 0 → count < half_margin → AreCounted (n + 1) m I R (set counts (place_number (airports_of I) q b) (count + 1)) touched
counted-more m I R n count q b counts touched are flown by at below is less =
    let airports = airports_of I in
    let place = place_number airports q b in
    let there : place < length counts = place-within I q b counts are.places by below in
    record {
      places = length-set counts place (count + 1) ∙ are.places;
      planes = are.planes;
      few = All-set (λ (c : ℕ). c ≤ half_margin) counts place (count + 1) (omega (arith, less)) are.few;
      each = λ p a lt within.
          (elim (are.each p a lt within) [
            | inl on ↦ inl on
            | inr le ↦ elim (cases_eq (place_number airports p a) place) [
              | inl same ↦
                  let now : get_or (set counts place (count + 1)) (place_number airports p a) 0 ≡ count + 1 =
                  ap (λ (k : ℕ). get_or (set counts place (count + 1)) k 0) same ∙ get_or-set_same counts place (count + 1) 0 there in
                  let was : get_or counts (place_number airports p a) 0 ≡ count = ap (λ (k : ℕ). get_or counts k 0) same ∙ sym is in
                  inr (omega (arith, le, now, was, count-on (is_at m I R p a) n))
              | inr other ↦
                  let now : get_or (set counts place (count + 1)) (place_number airports p a) 0 ≡ get_or counts (place_number airports p a) 0 = get_or-set_other counts place (place_number airports p a) (count + 1) 0 other in
                  let none : is_at m I R p a n ≡ false = other-off m I R n p a q flown (λ one two. other (ap (λ (k : ℕ). place_number airports k a) one ∙ ap (place_number airports q) (two ∙ sym at))) in
                  inr (omega (arith, le, now, count-off (is_at m I R p a) n none))
            ]
          ]);
    }

pub counted-full : (m : Movement) (I : Situation) (R : PlanRows) (n q : ℕ) (counts : List ℕ) (touched : List Bool) → AreCounted n m I R counts touched → flies R q n ≡ true → q < planes_of I → AreCounted (n + 1) m I R counts (set touched q true)
counted-full m I R n q counts touched are flown by = record {
  places = are.places;
  planes = length-set touched q true ∙ are.planes;
  few = are.few;
  each = λ p a lt within.
      (let planes = are.planes in
      elim (cases_eq p q) [
        | inl same ↦ inl (subst (λ (k : ℕ). is_marked (set touched q true) k ≡ true) (sym same) (get_or-set_same touched q true false (omega (arith, planes, by))))
        | inr other ↦ elim (are.each p a lt within) [
          | inl on ↦ inl (mark-kept touched q p on)
          | inr le ↦
              let none : is_at m I R p a n ≡ false = other-off m I R n p a q flown (λ one two. other one) in
              inr (omega (arith, le, count-off (is_at m I R p a) n none))
        ]
      ]);
}

-- all legs are counted
pub few-told : (m : Movement) (I : Situation) (R : PlanRows) (counts : List ℕ) (touched : List Bool) → IsValid I → AreCounted (legs_of I) m I R counts touched → HoldsOf (planes_of I) touched (HasFew m I R)
few-told m I R counts touched valid are p lt off a =
    elim (cases_lt a (airports_of I)) [
      | inl within ↦ elim (are.each p a lt within) [
        | inl on ↦ absurd (true≢false (sym on ∙ off))
        | inr le ↦
            let place = place_number (airports_of I) p a in
            let few : get_or counts place 0 ≤ half_margin = are.few place 0 (place-within I p a counts are.places lt within) in
            omega (arith, le, few)
      ]
      | inr past ↦
          let none = count-none (is_at m I R p a) (legs_of I)
          (λ y there. and_right (flies R p y) (eqb (place_of m I y) a)
          (ne_eqb (place_of m I y) a (λ same. (let place = place-there m I y valid there in omega (arith, place, same, past))))) in
          omega (arith, none)
    ]
