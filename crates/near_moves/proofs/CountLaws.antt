-- How many departures and arrivals of an hour have left.
use Rattle.std.proofs.Common.{◌≡◌, ℕ, zero, suc, ◌+◌, ◌<◌, ◌≤◌, inl, inr, Bool, cond, List, [], ◌∷◌, length, get_or, map, max, refl, sym, ap, ◌∙◌, arith}
use Rattle.std.specs.Prelude.{Option, None, Some, count_by, filter, unwrap_or, zip}
use Rattle.std.specs.Option.{option_map}
use Rattle.std.proofs.lemmas.Bool.{cases_Bool, cases_lt}
use Rattle.std.proofs.lemmas.List.{get_or-map, get_or_past, length-append, length-map}
use Rattle.std.proofs.lemmas.List.Elements.{filter-append}
use Rattle.std.proofs.lemmas.List.Sums.{sum_by-cons}
use Rattle.desk_data.specs.declared.info.LegInfo.{LegInfo}
use Rattle.desk_data.specs.declared.row.Row.{Row}
use Rattle.desk_data.specs.declared.row.Row.TheVariants.{Flown, Cancelled}
use Rattle.desk_data.specs.Hours.{arr_cap, arrives_by, dep_cap, departs_by, frozen_arrivals, frozen_departures, hour_cap, is_row_that}
use Rattle.desk_data.specs.PlanRows.{row_at}
use Rattle.desk_data.specs.Situation.{Situation, frozen_at, leg_at, legs_of, no_leg}
use Rattle.desk_data.specs.Valid.{IsValid}
use Rattle.day_orders.specs.declared.hours.HourCap.{HourCap}
use Rattle.desk_rules.specs.Numbers.{numbers}
use Rattle.desk_rules.specs.Slots.{arrivals, arrives_in, departs_in, departures}
use Rattle.near_moves.specs.WhatLeft.{frozen_alone}

-- ---- counting numbers

abbrev one_if : Bool → ℕ
one_if b = cond b 1 0

abbrev counted : (ℕ → Bool) → ℕ → ℕ
counted test n = length (filter test (numbers n))

counted-one : (test : ℕ → Bool) (n : ℕ) → length (filter test (n ∷ [])) ≡ one_if (test n)
counted-one test n =
    elim (cases_Bool (test n)) [
      | inl on ↦ rw on refl
      | inr off ↦ rw off refl
    ]

counted-more : (test : ℕ → Bool) (n : ℕ) → counted test (suc n) ≡ counted test n + one_if (test n)
counted-more test n =
    ap length (filter-append test (numbers n) (n ∷ []))
    ∙ length-append (filter test (numbers n)) (filter test (n ∷ []))
    ∙ ap (λ (k : ℕ). counted test n + k) (counted-one test n)

counted-first : (test : ℕ → Bool) (n : ℕ) → counted test (suc n) ≡ one_if (test 0) + counted (λ k. test (suc k)) n
counted-first test zero = let more = counted-more test 0 in omega (arith, more)
counted-first test (suc n) =
    let more = counted-more test (suc n) in
    let first = counted-first test n in
    let last = counted-more (λ k. test (suc k)) n in
    omega (arith, more, first, last)

counted-same : (test other : ℕ → Bool) (n : ℕ) → ((k : ℕ) → k < n → test k ≡ other k) → counted test n ≡ counted other n
counted-same test other zero same = refl
counted-same test other (suc n) same =
    let less = counted-same test other n (λ k lt. same k (omega (arith, lt))) in
    let last = ap one_if (same n (omega arith)) in
    omega (arith, counted-more test n, counted-more other n, less, last)

-- ---- counting pairs of two lists

counted-pairs : {X Y : Type 0} (test : X × Y → Bool) (xs : List X) (ys : List Y) (dx : X) (dy : Y) → length ys ≡ length xs → count_by test (zip xs ys) ≡ counted (λ k. test (get_or xs k dx, get_or ys k dy)) (length xs)
counted-pairs test [] ys dx dy same = refl
counted-pairs test (x ∷ xs) [] dx dy same = absurd (omega (arith, same))
counted-pairs {X} {Y} test (x ∷ xs) (y ∷ ys) dx dy same =
    let here = sum_by-cons (λ (pair : X × Y). one_if (test pair)) (x, y) (zip xs ys) in
    let more = counted-pairs test xs ys dx dy (omega (arith, same)) in
    let first = counted-first (λ k. test (get_or (x ∷ xs) k dx, get_or (y ∷ ys) k dy)) (length xs) in
    omega (arith, here, more, first)

-- ---- frozen rows

row-alone : (I : Situation) (x : ℕ) → row_at (frozen_alone I) x ≡ unwrap_or (frozen_at I x) Cancelled
row-alone I x =
    let frozen = I.progress.frozen in
    elim (cases_lt x (length frozen)) [
      | inl within ↦ get_or-map (λ (row : Option Row). unwrap_or row Cancelled) frozen x None Cancelled within
      | inr past ↦
          get_or_past (map (λ (row : Option Row). unwrap_or row Cancelled) frozen) x Cancelled (omega (arith, past, length-map frozen (λ (row : Option Row). unwrap_or row Cancelled)))
          ∙ sym (ap (λ (row : Option Row). unwrap_or row Cancelled) (get_or_past frozen x None past))
    ]

departs-alone : (I : Situation) (a h x : ℕ) (row : Option Row) → frozen_at I x ≡ row → is_row_that (departs_by I a h (leg_at I x)) row ≡ departs_in I (frozen_alone I) a h x
departs-alone I a h x None is = rw (row-alone I x, is) refl
departs-alone I a h x (Some Cancelled) is = rw (row-alone I x, is) refl
departs-alone I a h x (Some (Flown plane dep)) is = rw (row-alone I x, is) refl

arrives-alone : (I : Situation) (a h x : ℕ) (row : Option Row) → frozen_at I x ≡ row → is_row_that (arrives_by I a h (leg_at I x)) row ≡ arrives_in I (frozen_alone I) a h x
arrives-alone I a h x None is = rw (row-alone I x, is) refl
arrives-alone I a h x (Some Cancelled) is = rw (row-alone I x, is) refl
arrives-alone I a h x (Some (Flown plane dep)) is = rw (row-alone I x, is) refl

pub departing : (I : Situation) (a h : ℕ) → IsValid I → frozen_departures I a h ≡ departures I (frozen_alone I) a h
departing I a h valid =
    counted-pairs (λ (pair : LegInfo × Option Row). is_row_that (departs_by I a h pair.0) pair.1) I.parts.legs I.progress.frozen no_leg None valid.progress.legs
    ∙ counted-same _ (departs_in I (frozen_alone I) a h) (legs_of I) (λ x within. departs-alone I a h x (frozen_at I x) refl)

pub arriving : (I : Situation) (a h : ℕ) → IsValid I → frozen_arrivals I a h ≡ arrivals I (frozen_alone I) a h
arriving I a h valid =
    counted-pairs (λ (pair : LegInfo × Option Row). is_row_that (arrives_by I a h pair.0) pair.1) I.parts.legs I.progress.frozen no_leg None valid.progress.legs
    ∙ counted-same _ (arrives_in I (frozen_alone I) a h) (legs_of I) (λ x within. arrives-alone I a h x (frozen_at I x) refl)

-- ---- caps

floored : (caps : HourCap → ℕ) (n most : ℕ) (cap : Option HourCap) → option_map (λ c. max (caps c) n) cap ≡ Some most → n ≤ most
floored caps n most None is = absurd cc
floored caps n most (Some cap) is = let same : max (caps cap) n ≡ most = cc in omega (arith, same)

pub departures-fit : (I : Situation) (a h cap : ℕ) → dep_cap I a h ≡ Some cap → frozen_departures I a h ≤ cap
unfolding dep_cap
departures-fit I a h cap is = floored (λ cap. cap.deps) (frozen_departures I a h) cap (hour_cap I a h) is

pub arrivals-fit : (I : Situation) (a h cap : ℕ) → arr_cap I a h ≡ Some cap → frozen_arrivals I a h ≤ cap
unfolding arr_cap
arrivals-fit I a h cap is = floored (λ cap. cap.arrs) (frozen_arrivals I a h) cap (hour_cap I a h) is
