-- How many legs of the merged plan depart from an airport in an hour, or arrive there: those of the plan, and the added ones.
use Rattle.std.proofs.Common.{◌≡◌, ◌≢◌, ℕ, zero, suc, ◌+◌, ◌<◌, ◌≤◌, Bool, true, false, not, ◌&&◌, cond, eqb, List, [], ◌∷◌, ◌++◌, length, get_or, take, refl, sym, ap, subst, ◌∙◌, arith, All}
use Rattle.std.specs.Prelude.{Option, Some, None, find, sum_by, count_by}
use Rattle.std.specs.List.{AllPairs}
use Rattle.std.proofs.lemmas.Bool.{eqb-true, eq-eqb, ne_eqb}
use Rattle.std.proofs.lemmas.List.{take_more}
use Rattle.std.proofs.lemmas.List.Elements.{All-tail, All-head}
use Rattle.std.proofs.lemmas.List.Sums.{length-filter, sum_by-append, sum_by-cons, count_by-le-length}
use Rattle.desk_data.specs.declared.info.LegInfo.{LegInfo}
use Rattle.desk_data.specs.declared.row.Row.{Row}
use Rattle.desk_data.specs.PlanRows.{PlanRows, row_at}
use Rattle.desk_data.specs.Situation.{Situation, legs_of, planes_of, leg_at}
use Rattle.desk_rules.specs.Numbers.{numbers}
use Rattle.desk_rules.specs.Rotations.{departure}
use Rattle.desk_rules.specs.Slots.{is_in_the_air, hour_of, departs_in, arrives_in}
use Rattle.desk_rules.proofs.HourLaws.{length-numbers}
use Rattle.hour_counts.specs.declared.slot.Movement.{Movement}
use Rattle.hour_counts.specs.declared.slot.Movement.TheVariants.{Departure, Arrival}
use Rattle.hour_counts.specs.Counts.{one_if}
use Rattle.hour_counts.proofs.CountLaws.{count_change}
use Rattle.added_legs.specs.declared.added.Added.{Added}
use Rattle.added_legs.specs.Merged.{IsAdded, AreAdded, added_for, leg_for, row_for, merged_day, merged_plan}
use Rattle.added_legs.proofs.MergedLaws.{old_leg, new_leg, old_row, new_row, merged_legs}
use Rattle.added_legs.proofs.FerriedLaws.{found_passes}
use Rattle.added_legs.proofs.SumLaws.{sum_split, sum_same}
use Rattle.ferry_legs.specs.Departs.{count_of}
use Rattle.ferry_legs.specs.Taken.{takes, added_taken}

-- ---- added legs by aircraft, and in their list

abbrev pub is_that : (Added → Bool) → Option Added → Bool
is_that test None = false
is_that test (Some a) = test a

none_of : (A : List Added) (q : ℕ) → All (λ (b : Added). b.plane.0 ≢ q) A → added_for A q ≡ None
unfolding added_for
none_of [] q apart = refl
none_of (b ∷ A) q apart =
    ap (λ (c : Bool). cond c (Some b) (find (λ a. eqb a.plane.0 q) A)) (ne_eqb b.plane.0 q (All-head (λ (b : Added). b.plane.0 ≢ q) b A apart))
    ∙ none_of A q (All-tail (λ (b : Added). b.plane.0 ≢ q) b A apart)

none_of_none : (n : ℕ) (test : Added → Bool) → count_by (λ k. is_that test (added_for [] k)) (numbers n) ≡ 0
unfolding added_for
none_of_none zero test = refl
none_of_none (suc n) test = omega (arith, sum_by-append (λ (k : ℕ). one_if false) (numbers n) (n ∷ []), none_of_none n test)

find_cons : (b : Added) (A : List Added) (q : ℕ) → added_for (b ∷ A) q ≡ cond (eqb b.plane.0 q) (Some b) (added_for A q)
unfolding added_for
find_cons b A q = refl

one_that : (test : Added → Bool) (b : Added) (A : List Added) → count_by test (b ∷ A) ≡ one_if (test b) + count_by test A
one_that test b A = sum_by-cons (λ (c : Added). one_if (test c)) b A

-- of the aircraft, so many have an added leg that passes a test as there are such legs in the list
pub by_aircraft : (n : ℕ) (A : List Added) (test : Added → Bool) → All (λ (b : Added). b.plane.0 < n) A → AllPairs (λ (b c : Added). b.plane.0 ≢ c.plane.0) A → count_by (λ k. is_that test (added_for A k)) (numbers n) ≡ count_by test A
by_aircraft n [] test within apart = none_of_none n test
by_aircraft n (b ∷ A) test within apart =
    let rest = by_aircraft n A test (All-tail (λ (b : Added). b.plane.0 < n) b A within) (λ i j d lt below. apart (suc i) (suc j) d (omega (arith, lt)) (omega (arith, below))) in
    let first : b.plane.0 < n = All-head (λ (b : Added). b.plane.0 < n) b A within in
    let free : added_for A b.plane.0 ≡ None = none_of A b.plane.0 (λ k d below. λ same. apart 0 (suc k) d (omega arith) (omega (arith, below)) (sym same)) in
    let was : one_if (is_that test (added_for A b.plane.0)) ≡ 0 = ap (λ (o : Option Added). one_if (is_that test o)) free in
    let is : one_if (is_that test (added_for (b ∷ A) b.plane.0)) ≡ one_if (test b) = ap (λ (o : Option Added). one_if (is_that test o)) (find_cons b A b.plane.0 ∙ ap (λ (c : Bool). cond c (Some b) (added_for A b.plane.0)) (eq-eqb b.plane.0 b.plane.0 refl)) in
    omega (
      arith,
      rest,
      was,
      is,
      one_that test b A,
      count_change (λ k. is_that test (added_for (b ∷ A) k)) (λ k. is_that test (added_for A k)) n b.plane.0 first (λ k other. ap (is_that test) (find_cons b A k ∙ ap (λ (c : Bool). cond c (Some b) (added_for A k)) (ne_eqb b.plane.0 k (λ same. other (sym same))))),
    )

all_that : (A : List Added) → count_by (λ (b : Added). true) A ≡ length A
all_that [] = refl
all_that (b ∷ A) = omega (arith, one_that (λ (b : Added). true) b A, all_that A)

-- there are no more added legs than aircraft
pub few_added : (n : ℕ) (A : List Added) → All (λ (b : Added). b.plane.0 < n) A → AllPairs (λ (b c : Added). b.plane.0 ≢ c.plane.0) A → length A ≤ n
few_added n A within apart =
    omega (
      arith,
      all_that A,
      by_aircraft n A (λ (b : Added). true) within apart,
      count_by-le-length (λ k. is_that (λ (b : Added). true) (added_for A k)) (numbers n),
      length-numbers n,
    )

-- ---- the legs of the merged plan in an hour

-- whether leg x departs from airport a in hour h, or arrives there then
abbrev pub moves_in : Movement → Situation → PlanRows → ℕ → ℕ → ℕ → Bool
moves_in Departure I P a h x = departs_in I P a h x
moves_in Arrival I P a h x = arrives_in I P a h x

pub counted : (movement : Movement) (I : Situation) (P : PlanRows) (a h : ℕ) → count_of movement I P a h ≡ count_by (moves_in movement I P a h) (numbers (legs_of I))
counted Departure I P a h = length-filter (departs_in I P a h) (numbers (legs_of I))
counted Arrival I P a h = length-filter (arrives_in I P a h) (numbers (legs_of I))

module _ (I : Situation) (P : PlanRows) (A : List Added) (all : length P.rows ≡ legs_of I) (added : AreAdded I P A) where
  row_old : (x : ℕ) → x < legs_of I → row_at (merged_plan I P A) x ≡ row_at P x
  row_old x lt = old_row I P A x (omega (arith, all, lt))

  old_moves : (movement : Movement) (a h x : ℕ) → x < legs_of I → moves_in movement (merged_day I P A) (merged_plan I P A) a h x ≡ moves_in movement I P a h x
  old_moves Departure a h x lt =
      ap (λ (r : Row). is_in_the_air I r && (eqb (leg_at (merged_day I P A) x).origin.0 a && eqb (hour_of (departure r)) h)) (row_old x lt)
      ∙ ap (λ (info : LegInfo). is_in_the_air I (row_at P x) && (eqb info.origin.0 a && eqb (hour_of (departure (row_at P x))) h)) (old_leg I P A x lt)
  old_moves Arrival a h x lt =
      ap (λ (r : Row). is_in_the_air I r && (eqb (leg_at (merged_day I P A) x).dest.0 a && eqb (hour_of (departure r + (leg_at (merged_day I P A) x).block)) h)) (row_old x lt)
      ∙ ap (λ (info : LegInfo). is_in_the_air I (row_at P x) && (eqb info.dest.0 a && eqb (hour_of (departure (row_at P x) + info.block)) h)) (old_leg I P A x lt)

  -- the added leg of aircraft p as a leg
  by_leg : (movement : Movement) (a h p : ℕ) → LegInfo → Row → Bool
  by_leg Departure a h p info row = is_in_the_air I row && (eqb info.origin.0 a && eqb (hour_of (departure row)) h)
  by_leg Arrival a h p info row = is_in_the_air I row && (eqb info.dest.0 a && eqb (hour_of (departure row + info.block)) h)

  as_leg : (movement : Movement) (a h p : ℕ) → moves_in movement (merged_day I P A) (merged_plan I P A) a h (legs_of I + p) ≡ by_leg movement a h p (leg_at (merged_day I P A) (legs_of I + p)) (row_at (merged_plan I P A) (legs_of I + p))
  unfolding by_leg
  as_leg Departure a h p = refl
  as_leg Arrival a h p = refl

  its_own : (movement : Movement) (a h p : ℕ) (o : Option Added) → ((b : Added) → o ≡ Some b → (b.plane.0 ≡ p) × IsAdded I P b) → by_leg movement a h p (leg_for I P p o) (row_for p o) ≡ is_that (takes I P movement a h) o
  unfolding by_leg
  its_own Departure a h p None said = refl
  its_own Arrival a h p None said = refl
  its_own Departure a h p (Some b) said =
      let is = said b refl in
      subst (λ (k : ℕ). by_leg Departure a h k (leg_for I P k (Some b)) (row_for k (Some b)) ≡ takes I P Departure a h b) is.0
      (ap (λ (surface : Bool). not surface && takes I P Departure a h b) is.1.air)
  its_own Arrival a h p (Some b) said =
      let is = said b refl in
      subst (λ (k : ℕ). by_leg Arrival a h k (leg_for I P k (Some b)) (row_for k (Some b)) ≡ takes I P Arrival a h b) is.0
      (ap (λ (surface : Bool). not surface && takes I P Arrival a h b) is.1.air)

  of_list : (p : ℕ) (b : Added) → added_for A p ≡ Some b → (b.plane.0 ≡ p) × IsAdded I P b
  unfolding added_for
  of_list p b is =
      let found = found_passes (IsAdded I P) (λ (a : Added). eqb a.plane.0 p) A b added.each is in
      (eqb-true b.plane.0 p found.0, found.1)

  new_moves : (movement : Movement) (a h p : ℕ) → p < planes_of I → moves_in movement (merged_day I P A) (merged_plan I P A) a h (legs_of I + p) ≡ is_that (takes I P movement a h) (added_for A p)
  new_moves movement a h p lt =
      as_leg movement a h p
      ∙ ap (λ (info : LegInfo). by_leg movement a h p info (row_at (merged_plan I P A) (legs_of I + p))) (new_leg I P A p lt)
      ∙ ap (by_leg movement a h p (leg_for I P p (added_for A p))) (new_row I P A p all lt)
      ∙ its_own movement a h p (added_for A p) (of_list p)

  -- so many depart from an airport in an hour, or arrive there: of the plan, and of the list
  pub merged_count : (movement : Movement) (a h : ℕ) → count_of movement (merged_day I P A) (merged_plan I P A) a h ≡ count_of movement I P a h + added_taken I P movement a h A
  merged_count movement a h =
      let M = merged_day I P A in
      let Q = merged_plan I P A in
      let f : ℕ → ℕ = λ x. one_if (moves_in movement M Q a h x) in
      let parts : count_of movement M Q a h ≡ sum_by f (numbers (legs_of I + planes_of I)) = counted movement M Q a h ∙ ap (λ (n : ℕ). sum_by f (numbers n)) (merged_legs I P A) in
      let first : sum_by f (numbers (legs_of I)) ≡ count_of movement I P a h =
      sum_same f (λ x. one_if (moves_in movement I P a h x)) (legs_of I) (λ x lt. ap one_if (old_moves movement a h x lt)) ∙ sym (counted movement I P a h) in
      let second : sum_by (λ p. f (legs_of I + p)) (numbers (planes_of I)) ≡ added_taken I P movement a h A =
      sum_same (λ p. f (legs_of I + p)) (λ p. one_if (is_that (takes I P movement a h) (added_for A p))) (planes_of I) (λ p lt. ap one_if (new_moves movement a h p lt))
      ∙ by_aircraft (planes_of I) A (takes I P movement a h) (λ k d lt. (added.each k d lt).aircraft) added.apart in
      omega (arith, parts, first, second, sum_split f (legs_of I) (planes_of I))

-- one more of the list
pub taken_more : (I : Situation) (P : PlanRows) (movement : Movement) (a h : ℕ) (A : List Added) (b : Added) → added_taken I P movement a h (A ++ b ∷ []) ≡ added_taken I P movement a h A + one_if (takes I P movement a h b)
taken_more I P movement a h A b =
    let more = sum_by-append (λ (c : Added). one_if (takes I P movement a h c)) A (b ∷ []) in
    omega (arith, more, one_that (takes I P movement a h) b [])

-- one more leg of the list is looked at
pub taken_next : (I : Situation) (P : PlanRows) (movement : Movement) (a h i : ℕ) (A : List Added) (b : Added) → i < length A → added_taken I P movement a h (take (i + 1) A) ≡ added_taken I P movement a h (take i A) + one_if (takes I P movement a h (get_or A i b))
taken_next I P movement a h i A b lt =
    ap (added_taken I P movement a h) (take_more A i b lt) ∙ taken_more I P movement a h (take i A) (get_or A i b)
