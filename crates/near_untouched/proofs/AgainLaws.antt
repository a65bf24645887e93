-- Legs that may be flown again as before.
use Rattle.std.proofs.Common.{◌≡◌, ℕ, zero, suc, ◌+◌, ◌<◌, ◌≤◌, inl, inr, Bool, true, false, ◌&&◌, not, cond, eqb, leb, List, [], ◌∷◌, ◌++◌, map, length, get_or, take, refl, sym, ap, subst, ◌∙◌, arith, below_more}
use Rattle.std.specs.Prelude.{filter, sum_by, count_by}
use Rattle.std.specs.List.{All}
use Rattle.std.proofs.lemmas.Bool.{true≢false, cases_Bool, cases_eq, cases_lt, or_cases, and_parts, and_from, and_right, eqb-true, ne_eqb, leb-true, not-true}
use Rattle.std.proofs.lemmas.List.{get_or_append_left, get_or_past, get_or_push, length-map, map-append}
use Rattle.std.proofs.lemmas.List.Elements.{All-contains, All-map, All-more, All-push, All-weaker}
use Rattle.std.proofs.lemmas.List.Folds.{fold-map}
use Rattle.std.proofs.lemmas.List.Sums.{count_by-le-length, length-filter, sum_by-cons, sum_by_more, sum_by_push}
use Rattle.desk_units.specs.declared.numbers.Leg.{Leg}
use Rattle.desk_data.specs.declared.info.LegInfo.{LegInfo}
use Rattle.desk_data.specs.declared.row.Row.{Row}
use Rattle.desk_data.specs.declared.row.Row.TheVariants.{Flown, Cancelled}
use Rattle.desk_data.specs.Situation.{Situation, legs_of, leg_at, no_leg, fixed, called_off}
use Rattle.desk_data.specs.PlanRows.{PlanRows, row_at}
use Rattle.desk_data.specs.Valid.{IsValid}
use Rattle.desk_rules.specs.Numbers.{numbers}
use Rattle.desk_rules.specs.Passengers.{is_flown}
use Rattle.desk_rules.proofs.HourLaws.{length-numbers}
use Rattle.hour_counts.specs.Counts.{one_if}
use Rattle.near_moves.specs.MoveParts.{leg, is_restorable}
use Rattle.near_moves.specs.LegMoves.{brings_back, back_within}
use Rattle.near_moves.specs.Units.{restored}
use Rattle.near_moves.proofs.ListLaws.{contains_filter, numbers_each, filter_yes, filter_no}
use Rattle.near_moves.specs.Steps.{unit_restores}
use Rattle.near_moves.proofs.FrameLaws.{count-weaker, count-split}
use Rattle.near_untouched.specs.Planes.{IsUntouchedAgain}
use Rattle.near_untouched.specs.Marks.{is_marked, AreChanged, HoldsOf}
use Rattle.near_untouched.specs.Hours.{margin}
use Rattle.near_untouched.specs.Legs.{AreLegsTold, IsUntouchedLeg}
use Rattle.near_untouched.specs.Again.{leads_back, AreRestorableOfFirst, AreRestorable, AreFree, IsFree}
use Rattle.near_untouched.proofs.MarkLaws.{changed-at}
use Rattle.near_untouched.proofs.CountLaws.{count-none, leg-is, one_if-few}
use Rattle.near_untouched.proofs.LegLaws.{legs-together}

-- ---- one mark more

pub holds-more : (n : ℕ) (marks : List Bool) (mark : Bool) (Holds : ℕ → Type 0) → length marks ≡ n → HoldsOf n marks Holds → (mark ≡ false → Holds n) → HoldsOf (n + 1) (marks ++ mark ∷ []) Holds
holds-more n marks mark Holds many holds own =
    below_more (λ (k : ℕ). is_marked (marks ++ mark ∷ []) k ≡ false → Holds k) n
    (λ k lt off. holds k lt (sym (get_or_append_left marks (mark ∷ []) false k (omega (arith, lt, many))) ∙ off))
    (λ off. own (sym (get_or_push marks mark false n many) ∙ off))

-- ---- legs that may be flown again

pub restorable-skip : (I : Situation) (P : PlanRows) (n : ℕ) (legs : List Leg) → AreRestorableOfFirst n I P legs → is_restorable I P n ≡ false → AreRestorableOfFirst (n + 1) I P legs
restorable-skip I P n legs are off = record {
  each = are.each ∙ sym (filter_no (is_restorable I P) n off);
  within = All-weaker (λ (x : Leg). x.0 < n) (λ (x : Leg). x.0 < n + 1) (λ x lt. omega (arith, lt)) legs are.within;
}

pub restorable-more : (I : Situation) (P : PlanRows) (n : ℕ) (legs : List Leg) → AreRestorableOfFirst n I P legs → is_restorable I P n ≡ true → AreRestorableOfFirst (n + 1) I P (legs ++ leg n ∷ [])
restorable-more I P n legs are on = record {
  each =
      map-append (λ (x : Leg). x.0) legs (leg n ∷ [])
      ∙ ap (λ (xs : List ℕ). xs ++ n ∷ []) are.each
      ∙ sym (filter_yes (is_restorable I P) n on);
  within = All-push (λ (x : Leg). x.0 < n + 1) legs (leg n)
      (All-weaker (λ (x : Leg). x.0 < n) (λ (x : Leg). x.0 < n + 1) (λ x lt. omega (arith, lt)) legs are.within)
      (omega arith);
}

pub restorable-few : (I : Situation) (P : PlanRows) (legs : List Leg) → IsValid I → AreRestorable I P legs → length legs ≤ 20000
restorable-few I P legs valid are =
    let test : ℕ → Bool = is_restorable I P in
    let xs = numbers (legs_of I) in
    let same : length (map (λ (x : Leg). x.0) legs) ≡ length (filter test xs) = ap length are.each in
    let all = valid.parts.few.legs in
    omega (arith, length-map legs (λ (x : Leg). x.0), same, length-filter test xs, count_by-le-length test xs, length-numbers (legs_of I), all)

not-flown : (row : Row) → is_flown row ≡ false → row ≡ Cancelled
not-flown (Flown plane dep) off = absurd (true≢false off)
not-flown Cancelled off = refl

-- ---- counts

count-filter : (f g : ℕ → Bool) (xs : List ℕ) → count_by g (filter f xs) ≡ count_by (λ y. f y && g y) xs
count-filter f g [] = refl
count-filter f g (x ∷ xs) =
    let both : ℕ → ℕ = λ y. one_if (f y && g y) in
    let own : ℕ → ℕ = λ y. one_if (g y) in
    let rest : sum_by own (filter f xs) ≡ sum_by both xs = count-filter f g xs in
    elim (cases_Bool (f x)) [
      | inl on ↦
          let here : both x ≡ own x = ap (λ (b : Bool). one_if (b && g x)) on in
          let sums : sum_by own (x ∷ filter f xs) ≡ sum_by both (x ∷ xs) = omega (arith, sum_by-cons own x (filter f xs), sum_by-cons both x xs, here, rest) in
          ap (λ (b : Bool). sum_by own (cond b (x ∷ filter f xs) (filter f xs))) on ∙ sums
      | inr off ↦
          let none : ℕ = 0 in
          let here : both x ≡ none = ap (λ (b : Bool). one_if (b && g x)) off in
          let sums : sum_by own (filter f xs) ≡ sum_by both (x ∷ xs) = omega (arith, sum_by-cons both x xs, here, rest) in
          ap (λ (b : Bool). sum_by own (cond b (x ∷ filter f xs) (filter f xs))) off ∙ sums
    ]

count-one : (x n : ℕ) → count_by (λ y. eqb y x) (numbers n) ≤ 1
count-one x zero = omega arith
count-one x (suc n) =
    let last = sum_by_push (λ y. one_if (eqb y x)) (numbers n) n in
    elim (cases_eq n x) [
      | inl same ↦
          let none = count-none (λ y. eqb y x) n (λ y lt. ne_eqb y x (λ here. omega (arith, lt, here, same))) in
          omega (arith, last, none, one_if-few (eqb n x))
      | inr other ↦
          let none : one_if (eqb n x) ≡ 0 = ap one_if (ne_eqb n x other) in
          omega (arith, last, none, count-one x n)
    ]

-- how many legs lead back, of those that may be flown again
count-backs : (I : Situation) (P : PlanRows) (x : ℕ) (restorable : List Leg) → AreRestorable I P restorable → count_by (λ y. leads_back I x y.0) restorable ≡ count_by (λ y. is_restorable I P y && leads_back I x y) (numbers (legs_of I))
count-backs I P x restorable are =
    sym (fold-map (λ (n y : ℕ). n + cond (leads_back I x y) 1 0) (λ (y : Leg). y.0) 0 restorable)
    ∙ ap (count_by (leads_back I x)) are.each
    ∙ count-filter (is_restorable I P) (leads_back I x) (numbers (legs_of I))

-- ---- legs that lead back

restores-parts : (I : Situation) (P : PlanRows) (x y : ℕ) → brings_back I P x y ≡ true → (is_restorable I P y ≡ true) × (leads_back I x y ≡ true)
unfolding brings_back
restores-parts I P x y back = and_parts (is_restorable I P y) (leads_back I x y) back

restorable-off : (I : Situation) (P : PlanRows) (y : ℕ) → is_restorable I P y ≡ true → is_flown (row_at P y) ≡ false
restorable-off I P y on =
    let movable = and_parts (not (fixed I y)) (not (is_flown (row_at P y)) && not (called_off I y)) on in
    let cancelled = and_parts (not (is_flown (row_at P y))) (not (called_off I y)) movable.1 in
    not-true (is_flown (row_at P y)) cancelled.0

-- a leg that leads back is one of the day
leads-within : (I : Situation) (x y : ℕ) → IsValid I → x < legs_of I → leads_back I x y ≡ true → y < legs_of I
unfolding no_leg
leads-within I x y valid lt on =
    elim (cases_lt y (legs_of I)) [
      | inl within ↦ within
      | inr past ↦
          let there = leg_at I x in
          let back = leg_at I y in
          let some = (leg-is I x valid lt).some in
          let parts = and_parts (eqb back.origin.0 there.dest.0 && eqb back.dest.0 there.origin.0) (leb (there.sched.0 + there.block) back.sched.0 && leb back.sched.0 (there.sched.0 + there.block + back_within)) on in
          let times = and_parts (leb (there.sched.0 + there.block) back.sched.0) (leb back.sched.0 (there.sched.0 + there.block + back_within)) parts.1 in
          let late = leb-true (there.sched.0 + there.block) back.sched.0 times.0 in
          let none : back.sched.0 ≡ 0 = ap (λ (l : LegInfo). l.sched.0) (get_or_past I.parts.legs y no_leg past) in
          absurd (omega (arith, some, late, none))
    ]

module _ (I : Situation) (P Q : PlanRows) (marks : List Bool) (changed restorable : List Leg) (x count : ℕ) (valid : IsValid I) (lt : x < legs_of I) (own_on : is_restorable I P x ≡ true) (free : is_marked marks x ≡ false) (told : AreLegsTold I P Q marks) (are : AreChanged I P Q changed) (nowhere : All (λ (y : Leg). leads_back I x y.0 ≡ false) changed) (all : AreRestorable I P restorable) (backs : AreFree I marks x restorable count) (few : count < 8) (p : ℕ) where
  abbrev own : ℕ → Bool
  own = unit_restores I P (restored x p)

  -- a leg that leads back and may be flown again is untouched
  back-free : (y : ℕ) → y < legs_of I → is_restorable I P y ≡ true → leads_back I x y ≡ true → is_marked marks y ≡ false
  back-free y within may leads =
      let each : All (λ (k : ℕ). leads_back I x k ≡ true → is_marked marks k ≡ false) (map (λ (z : Leg). z.0) restorable) = All-map (λ (k : ℕ). leads_back I x k ≡ true → is_marked marks k ≡ false) (λ (z : Leg). z.0) restorable backs.free in
      All-contains (λ (k : ℕ). leads_back I x k ≡ true → is_marked marks k ≡ false) (filter (is_restorable I P) (numbers (legs_of I))) y
      (subst (All (λ (k : ℕ). leads_back I x k ≡ true → is_marked marks k ≡ false)) all.each each)
      (contains_filter (is_restorable I P) (numbers (legs_of I)) y (numbers_each (legs_of I) y within) may)
      leads

  -- each leg that may be flown again is cancelled and untouched
  own-cancelled : (y : ℕ) → own y ≡ true → is_flown (row_at P y) ≡ false
  own-cancelled y on =
      elim (or_cases (eqb y x) (brings_back I P x y) on) [
        | inl is ↦ ap (λ (k : ℕ). is_flown (row_at P k)) (eqb-true y x is) ∙ restorable-off I P x own_on
        | inr back ↦ restorable-off I P y (restores-parts I P x y back).0
      ]

  own-untouched : (y : ℕ) → own y ≡ true → IsUntouchedLeg I P Q y
  own-untouched y on =
      elim (or_cases (eqb y x) (brings_back I P x y) on) [
        | inl is ↦ subst (IsUntouchedLeg I P Q) (sym (eqb-true y x is)) (told.untouched x lt free)
        | inr back ↦
            let parts = restores-parts I P x y back in
            let within = leads-within I x y valid lt parts.1 in
            told.untouched y within (back-free y within parts.0 parts.1)
      ]

  -- the same legs lead back
  same-backs : (y : ℕ) → brings_back I P x y ≡ brings_back I Q x y
  unfolding brings_back
  same-backs y =
      elim (cases_Bool (leads_back I x y)) [
        | inr none ↦ and_right (is_restorable I P y) (leads_back I x y) none ∙ sym (and_right (is_restorable I Q y) (leads_back I x y) none)
        | inl leads ↦ elim (changed-at P Q (legs_of I) changed (λ (z : ℕ). leads_back I x z ≡ false) are nowhere y (leads-within I x y valid lt leads)) [
          | inl same ↦ ap (λ (row : Row). (not (fixed I y) && (not (is_flown row) && not (called_off I y))) && leads_back I x y) same
          | inr none ↦ absurd (true≢false (sym leads ∙ none))
        ]
      ]

  -- there are few
  own-few : count_by own (numbers (legs_of I)) ≤ 8
  own-few =
      let xs = numbers (legs_of I) in
      let split = count-split (λ y. eqb y x) own xs in
      let itself = count-weaker (λ y. eqb y x && own y) (λ y. eqb y x) xs (λ y on. (and_parts (eqb y x) (own y) on).0) in
      let others = count-weaker (λ y. not (eqb y x) && own y) (λ y. is_restorable I P y && leads_back I x y) xs
      (λ y on. (
      let parts = and_parts (not (eqb y x)) (own y) on in
      elim (or_cases (eqb y x) (brings_back I P x y) parts.1) [
        | inl is ↦ absurd (true≢false (sym is ∙ not-true (eqb y x) parts.0))
        | inr back ↦
            let own_parts = restores-parts I P x y back in
            and_from (is_restorable I P y) (leads_back I x y) own_parts.0 own_parts.1
      ])) in
      let one = count-one x (legs_of I) in
      let rest = count-backs I P x restorable all in
      let counted = backs.counted in
      omega (arith, split, itself, others, one, rest, counted, few)

  pub again-from : IsUntouchedAgain margin I P Q x p
  again-from = record {
    cancelled = λ y on. not-flown (row_at P y) (own-cancelled y on);
    later = λ y on. sym (own-untouched y on).row ∙ not-flown (row_at P y) (own-cancelled y on);
    backs = same-backs;
    legs = legs-together own I P Q own-untouched
        (λ a. (let all_own = count-weaker (λ y. own y && eqb (leg_at I y).origin.0 a) own (numbers (legs_of I)) (λ y on. (and_parts (own y) (eqb (leg_at I y).origin.0 a) on).0) in omega (arith, all_own, own-few)))
        (λ a. (let all_own = count-weaker (λ y. own y && eqb (leg_at I y).dest.0 a) own (numbers (legs_of I)) (λ y on. (and_parts (own y) (eqb (leg_at I y).dest.0 a) on).0) in omega (arith, all_own, own-few)));
  }

-- one leg more of those that are asked
pub free-more : (I : Situation) (marks : List Bool) (x count one i : ℕ) (legs : List Leg) (d : Leg) → i < length legs → AreFree I marks x (take i legs) count → IsFree I marks x (get_or legs i d).0 one → AreFree I marks x (take (i + 1) legs) (count + one)
free-more I marks x count one i legs d lt are own =
    let counted = are.counted in
    let here = own.counted in
    record {
      counted = omega (arith, sum_by_more (λ (y : Leg). cond (leads_back I x y.0) 1 0) legs i d lt, counted, here);
      free = All-more (λ (y : Leg). leads_back I x y.0 ≡ true → is_marked marks y.0 ≡ false) legs i d lt are.free own.free;
    }
