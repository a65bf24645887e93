-- What is kept of what has left agrees with the frozen rows.
use Rattle.std.proofs.Common.{◌≡◌, ℕ, ◌+◌, ◌/◌, ◌<◌, ◌≤◌, Bool, true, false, not, ◌&&◌, cond, eqb, List, [], ◌∷◌, length, get_or, take, max, refl, sym, ap, ◌++◌, ◌∙◌, arith}
use Rattle.std.specs.Prelude.{Option, None, Some, IfOk, Result, Ok, Err, count_by, map, replicate, zip, if◌then◌else◌}
use Rattle.std.specs.List.{cons_option, filter_map, range_with_len}
use Rattle.std.proofs.Math.Seq.{take-append_seam}
use Rattle.std.proofs.lemmas.Bool.{lt-ltb}
use Rattle.std.proofs.lemmas.List.{take_all}
use Rattle.std.proofs.lemmas.List.FromFn.{map-range_with_len_more}
use Rattle.std.proofs.lemmas.List.Sums.{sum_by-cons, fold_more}
use Rattle.std.proofs.lemmas.Slice.Zip.{get_or-zip, length-zip}
use Rattle.desk_units.specs.declared.numbers.Airport.{Airport}
use Rattle.desk_units.specs.declared.numbers.Minute.{Minute}
use Rattle.day_orders.specs.declared.slots.AirportHour.{AirportHour}
use Rattle.day_orders.specs.Slots.{slot_count}
use Rattle.desk_data.specs.declared.info.LegInfo.{LegInfo}
use Rattle.desk_data.specs.declared.parts.Parts.{Parts}
use Rattle.desk_data.specs.declared.row.Row.{Row}
use Rattle.desk_data.specs.declared.row.Row.TheVariants.{Flown, Cancelled}
use Rattle.desk_data.specs.Hours.{departs_by, arrives_by, is_row_that, frozen_departures, frozen_arrivals}
use Rattle.desk_data.specs.HoursTaken.{hour_taken, departs_in, arrives_in, last_landing}
use Rattle.desk_data.specs.Keeps.{KeepsLeft}
use Rattle.desk_data.specs.Situation.{PassengersGone, Progress, Situation, all_waiting, first_progress, planes_of, plane_at, now_of, legs_frozen, lands_frozen}
use Rattle.desk_data.specs.PlanRows.{PlanRows}
use Rattle.desk_data.specs.Progress.{frozen_by, tally_by, progress_at}

-- ---- counting what is kept of a list

abbrev one_if : Bool → ℕ
one_if b = cond b 1 0

abbrev passes : {Y : Type 0} → (Y → Bool) → Option Y → Bool
passes p None = false
passes p (Some y) = p y

count-first : {Y : Type 0} (p : Y → Bool) (first : Option Y) (ys : List Y) → count_by p (cons_option first ys) ≡ one_if (passes p first) + count_by p ys
count-first p None ys = omega arith
count-first p (Some y) ys = sum_by-cons (λ y. one_if (p y)) y ys

count-filter_map : {X Y : Type 0} (f : X → Option Y) (p : Y → Bool) (q : X → Bool) → ((x : X) → passes p (f x) ≡ q x) → (xs : List X) → count_by p (filter_map f xs) ≡ count_by q xs
count-filter_map f p q same [] = refl
count-filter_map f p q same (x ∷ xs) =
    let here : count_by p (filter_map f (x ∷ xs)) ≡ one_if (passes p (f x)) + count_by p (filter_map f xs) = count-first p (f x) (filter_map f xs) in
    let own : one_if (passes p (f x)) ≡ one_if (q x) = ap one_if (same x) in
    let sum : count_by q (x ∷ xs) ≡ one_if (q x) + count_by q xs = sum_by-cons (λ x. one_if (q x)) x xs in
    let rest = count-filter_map f p q same xs in
    omega (arith, here, own, sum, rest)

-- ---- the hours that frozen rows take

abbrev is_slot : ℕ → ℕ → AirportHour → Bool
is_slot a h slot = eqb slot.airport.0 a && eqb slot.hour h

taken-by : (surface : Bool) (airport : Airport) (hour a h : ℕ) → passes (is_slot a h) (if surface then None else Some (record { airport = airport; hour = hour })) ≡ (not surface && (eqb airport.0 a && eqb hour h))
taken-by true airport hour a h = refl
taken-by false airport hour a h = refl

departs-same : (I : Situation) (a h : ℕ) (leg : LegInfo) (row : Option Row) → passes (is_slot a h) (hour_taken I.parts leg.origin 0 row) ≡ is_row_that (departs_by I a h leg) row
departs-same I a h leg None = refl
departs-same I a h leg (Some Cancelled) = refl
departs-same I a h leg (Some (Flown plane dep)) = let at : dep.0 + 0 ≡ dep.0 = omega arith in rw at (taken-by (plane_at I plane.0).surface leg.origin (dep.0 / 60) a h)

arrives-same : (I : Situation) (a h : ℕ) (leg : LegInfo) (row : Option Row) → passes (is_slot a h) (hour_taken I.parts leg.dest leg.block row) ≡ is_row_that (arrives_by I a h leg) row
arrives-same I a h leg None = refl
arrives-same I a h leg (Some Cancelled) = refl
arrives-same I a h leg (Some (Flown plane dep)) = taken-by (plane_at I plane.0).surface leg.dest ((dep.0 + leg.block) / 60) a h

departures-counted : (I : Situation) (a h : ℕ) → slot_count a h (filter_map (departs_in I.parts) (legs_frozen I)) ≡ frozen_departures I a h
departures-counted I a h =
    count-filter_map (departs_in I.parts) (is_slot a h) (λ pair. is_row_that (departs_by I a h pair.0) pair.1) (λ pair. departs-same I a h pair.0 pair.1) (legs_frozen I)

arrivals-counted : (I : Situation) (a h : ℕ) → slot_count a h (filter_map (arrives_in I.parts) (legs_frozen I)) ≡ frozen_arrivals I a h
arrivals-counted I a h =
    count-filter_map (arrives_in I.parts) (is_slot a h) (λ pair. is_row_that (arrives_by I a h pair.0) pair.1) (λ pair. arrives-same I a h pair.0 pair.1) (legs_frozen I)

-- ---- all that is kept

pub keeps_left : (I : Situation) (departing arriving departures arrivals : List AirportHour) (landings : List Minute) → departures ≡ filter_map (departs_in I.parts) (legs_frozen I) → arrivals ≡ filter_map (arrives_in I.parts) (legs_frozen I) → ((a h : ℕ) → slot_count a h departing ≡ slot_count a h departures) → ((a h : ℕ) → slot_count a h arriving ≡ slot_count a h arrivals) → length landings ≡ planes_of I → ((p : ℕ) → p < planes_of I → (get_or landings p (record { 0 = 0 })).0 ≡ last_landing p (legs_frozen I)) → KeepsLeft I departing arriving landings
keeps_left I departing arriving departures arrivals landings departs arrives same_departures same_arrivals all landed = record {
  departures = λ a h. same_departures a h ∙ (ap (λ (hours : List AirportHour). slot_count a h hours) departs ∙ departures-counted I a h);
  arrivals = λ a h. same_arrivals a h ∙ (ap (λ (hours : List AirportHour). slot_count a h hours) arrives ∙ arrivals-counted I a h);
  all_planes = all;
  landed = landed;
}

-- ---- one leg at a time

-- a list that is worked out leg by leg
pub rows-more : {X : Type 0} (f : ℕ → X) (x : ℕ) (row : X) (rows new : List X) → new ≡ rows ++ row ∷ [] → rows ≡ map f (range_with_len 0 x) → row ≡ f x → new ≡ map f (range_with_len 0 (x + 1))
rows-more {X} f x row rows new pushed before own =
    let last : rows ++ row ∷ [] ≡ map f (range_with_len 0 x) ++ f x ∷ [] = rw (before, own) refl in
    pushed ∙ (last ∙ sym (map-range_with_len_more f 0 x x (omega arith)))

-- the last landing with one leg more
pub last_landing-more : (p x : ℕ) (legs : List LegInfo) (frozen : List (Option Row)) (leg : LegInfo) (was is : ℕ) → length frozen ≡ length legs → x < length legs → leg ≡ get_or legs x leg → was ≡ last_landing p (take x (zip legs frozen)) → is ≡ max was (lands_frozen p leg.block (get_or frozen x None)) → is ≡ last_landing p (take (x + 1) (zip legs frozen))
last_landing-more p x legs frozen leg was is all within own before now =
    let row : Option Row = None in
    let pair : LegInfo × Option Row = (leg, row) in
    let here : x < length (zip legs frozen) = omega (arith, length-zip legs frozen, all, within) in
    let at : get_or (zip legs frozen) x pair ≡ (leg, get_or frozen x None) = get_or-zip legs frozen x pair within (omega (arith, all, within)) ∙ ap (λ (l : LegInfo). (l, get_or frozen x row)) (sym own) in
    let more : last_landing p (take (x + 1) (zip legs frozen)) ≡ max (last_landing p (take x (zip legs frozen))) (lands_frozen p (get_or (zip legs frozen) x pair).0.block (get_or (zip legs frozen) x pair).1) =
    fold_more (λ (last : ℕ) (pair : LegInfo × Option Row). max last (lands_frozen p pair.0.block pair.1)) 0 (zip legs frozen) x pair here in
    now ∙ (ap (λ (n : ℕ). max n (lands_frozen p leg.block (get_or frozen x None))) before
    ∙ sym (more ∙ ap (λ (q : LegInfo × Option Row). max (last_landing p (take x (zip legs frozen))) (lands_frozen p q.0.block q.1)) at))

-- and with all legs
pub last_landing-all : (p x : ℕ) (legs : List LegInfo) (frozen : List (Option Row)) → length legs ≤ x → last_landing p (take x (zip legs frozen)) ≡ last_landing p (zip legs frozen)
last_landing-all p x legs frozen past =
    let all : take x (zip legs frozen) ≡ zip legs frozen = take_all x (zip legs frozen) (omega (arith, length-zip legs frozen, past)) in
    ap (last_landing p) all

-- a list that is written over as a whole
pub written-over : {X : Type 0} (n : ℕ) (new rest : List X) → n ≡ length new → take n (new ++ rest) ≡ new
written-over n new rest same = rw same (take-append_seam new rest)

-- ---- how many hours are taken

length-cons_option : {Y : Type 0} (first : Option Y) (ys : List Y) → length (cons_option first ys) ≤ 1 + length ys
length-cons_option None ys = omega arith
length-cons_option (Some y) ys = omega arith

length-filter_map : {X Y : Type 0} (f : X → Option Y) (xs : List X) → length (filter_map f xs) ≤ length xs
length-filter_map f [] = omega arith
length-filter_map f (x ∷ xs) = omega (arith, length-cons_option (f x) (filter_map f xs), length-filter_map f xs)

pub hours-few : (f : LegInfo × Option Row → Option AirportHour) (legs : List LegInfo) (frozen : List (Option Row)) (hours : List AirportHour) → hours ≡ filter_map f (zip legs frozen) → length legs ≤ 20000 → length hours ≤ 20000
hours-few f legs frozen hours is few =
    let long : length hours ≡ length (filter_map f (zip legs frozen)) = ap length is in
    omega (arith, long, length-filter_map f (zip legs frozen), length-zip legs frozen, few)

-- ---- how far the day has gone on

pub if_ok-both : {T E : Type 0} (r : Result T E) (P Q R : T → Type 0) → ((x : T) → P x → Q x → R x) → IfOk r P → IfOk r Q → IfOk r R
if_ok-both (Ok x) P Q R both p q = both x p q
if_ok-both (Err e) P Q R both p q = tt

pub progress-first : (parts : Parts) (frozen : List (Option Row)) (tally : List (List PassengersGone)) → frozen ≡ replicate (length parts.legs) None → tally ≡ map all_waiting parts.res → let progress : Progress = record { now = parts.from; frozen = frozen; tally = tally } in progress ≡ first_progress parts
unfolding first_progress
progress-first parts frozen tally nothing waiting = rw (nothing, waiting) refl

pub progress-later : (I : Situation) (P : PlanRows) (at : Minute) (frozen : List (Option Row)) (tally : List (List PassengersGone)) → now_of I < at.0 → frozen ≡ frozen_by I P at.0 → tally ≡ tally_by I P frozen → let progress : Progress = record { now = at; frozen = frozen; tally = tally } in progress ≡ progress_at I P at.0
progress-later I P at frozen tally later froze tallied =
    let progress : Progress = record { now = at; frozen = frozen_by I P at.0; tally = tally_by I P (frozen_by I P at.0) } in
    let is : progress_at I P at.0 ≡ progress = rw (lt-ltb (now_of I) at.0 later) refl in
    rw (tallied, froze) (sym is)
