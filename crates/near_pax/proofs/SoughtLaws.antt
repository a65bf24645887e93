-- The legs that are sought are found in the window of flights.
use Rattle.std.proofs.Common.{◌≡◌, ℕ, ◌<◌, ◌≤◌, inl, inr, Bool, true, false, ◌&&◌, eqb, ltb, leb, List, ◌++◌, length, get_or, map, sym, ap, subst, ◌∙◌, arith, nat_cmp}
use Rattle.std.specs.Prelude.{filter}
use Rattle.std.specs.List.{All}
use Rattle.std.specs.List.Sorted.{IsPermutation, IsSortedByKey}
use Rattle.std.proofs.lemmas.Bool.{cases_Bool, true≢false, and_parts, and_from, eqb-true, leb-true, ltb-true, lt-ltb, le-leb, eq-eqb}
use Rattle.std.proofs.lemmas.List.{append-nil, length-map, get_or-map}
use Rattle.std.proofs.lemmas.Simd.{map-map}
use Rattle.std.proofs.lemmas.List.Elements.{All-weaker, All-contains, All-filter, Contains-append_left, Contains-append_right, filter-append}
use Rattle.std.proofs.lemmas.List.Sorted.{IsPermutation-map, IsNonDecreasingBy-from_sort}
use Rattle.desk_units.specs.declared.numbers.Leg.{Leg}
use Rattle.desk_data.specs.Situation.{Situation, legs_of, leg_at}
use Rattle.desk_data.specs.PlanRows.{PlanRows, row_at}
use Rattle.desk_rules.specs.Numbers.{numbers}
use Rattle.desk_rules.specs.Passengers.{is_flown}
use Rattle.desk_rules.specs.Rotations.{dep, arr}
use Rattle.near_moves.proofs.ListLaws.{filter_none, filter_of_map, All_from_contains, numbers_within}
use Rattle.near_pax.specs.declared.flights.Flight.{Flight}
use Rattle.near_pax.specs.declared.sought.Sought.{Sought}
use Rattle.near_pax.specs.Flights.{IsNetOf}
use Rattle.near_pax.specs.Sought.{is_sought, goes_to, is_within, IsWindow}
use Rattle.near_pax.proofs.FlightLaws.{IsFlight, net-sound, net-legs, number_of, flown_leg}
use Rattle.near_pax.proofs.SortedLaws.{sorted-picked}

-- what is asked of a leg that is sought
pub record IsSought (I : Situation) (P : PlanRows) (sought : Sought) (x : ℕ) : Type 0 where
  pub flown : is_flown (row_at P x) ≡ true
  pub from : (leg_at I x).origin.0 ≡ sought.from.0
  pub to : goes_to (leg_at I x).dest.0 sought.to ≡ true
  pub early : sought.earliest ≤ dep P x
  pub soon : arr I P x < sought.until

pub sought-holds : (I : Situation) (P : PlanRows) (sought : Sought) (x : ℕ) → is_sought I P sought x ≡ true → IsSought I P sought x
unfolding is_sought
sought-holds I P sought x h =
    let from = eqb (leg_at I x).origin.0 sought.from.0 in
    let to = goes_to (leg_at I x).dest.0 sought.to in
    let early = leb sought.earliest (dep P x) in
    let four = and_parts (is_flown (row_at P x) && from && to && early) (ltb (arr I P x) sought.until) h in
    let three = and_parts (is_flown (row_at P x) && from && to) early four.0 in
    let two = and_parts (is_flown (row_at P x) && from) to three.0 in
    let one = and_parts (is_flown (row_at P x)) from two.0 in
    record {
      flown = one.0;
      from = eqb-true (leg_at I x).origin.0 sought.from.0 one.1;
      to = two.1;
      early = leb-true sought.earliest (dep P x) three.1;
      soon = ltb-true (arr I P x) sought.until four.1;
    }

pub sought-from : (I : Situation) (P : PlanRows) (sought : Sought) (x : ℕ) → IsSought I P sought x → is_sought I P sought x ≡ true
unfolding is_sought
sought-from I P sought x h =
    let from = eqb (leg_at I x).origin.0 sought.from.0 in
    let to = goes_to (leg_at I x).dest.0 sought.to in
    let early = leb sought.earliest (dep P x) in
    and_from (is_flown (row_at P x) && from && to && early) (ltb (arr I P x) sought.until)
    (and_from (is_flown (row_at P x) && from && to) early
    (and_from (is_flown (row_at P x) && from) to
    (and_from (is_flown (row_at P x)) from h.flown (eq-eqb (leg_at I x).origin.0 sought.from.0 h.from))
    h.to)
    (le-leb sought.earliest (dep P x) h.early))
    (lt-ltb (arr I P x) sought.until h.soon)

-- a flight of a leg that is sought leaves in time
abbrev wanted : Situation → PlanRows → Sought → Flight → Bool
wanted I P sought f = is_sought I P sought f.leg.0

wanted-within : (I : Situation) (P : PlanRows) (sought : Sought) (n : ℕ) (f : Flight) → IsFlight I P n f → wanted I P sought f ≡ true → is_within sought f ≡ true
wanted-within I P sought n f is h =
    let own = sought-holds I P sought f.leg.0 h in
    let early = own.early in
    let soon = own.soon in
    let departs = is.departs in
    and_from (eqb f.from.0 sought.from.0) (goes_to f.to.0 sought.to && (leb sought.earliest f.dep.0 && ltb f.dep.0 sought.until))
    (eq-eqb f.from.0 sought.from.0 (is.from ∙ own.from))
    (and_from (goes_to f.to.0 sought.to) (leb sought.earliest f.dep.0 && ltb f.dep.0 sought.until)
    (ap (λ (airport : ℕ). goes_to airport sought.to) is.to ∙ own.to)
    (and_from (leb sought.earliest f.dep.0) (ltb f.dep.0 sought.until)
    (le-leb sought.earliest f.dep.0 (omega (arith, early, departs)))
    (lt-ltb f.dep.0 sought.until (omega (arith, soon, departs)))))

not_wanted : (I : Situation) (P : PlanRows) (sought : Sought) (n : ℕ) (f : Flight) → IsFlight I P n f → is_within sought f ≡ false → wanted I P sought f ≡ false
not_wanted I P sought n f is out =
    elim (cases_Bool (wanted I P sought f)) [
      | inl on ↦ absurd (true≢false (sym (wanted-within I P sought n f is on) ∙ out))
      | inr off ↦ off
    ]

all-out : (I : Situation) (P : PlanRows) (sought : Sought) (n : ℕ) (flights : List Flight) → All (IsFlight I P n) flights → All (λ f. is_within sought f ≡ false) flights → All (λ f. wanted I P sought f ≡ false) flights
all-out I P sought n flights sound out = λ k d lt. not_wanted I P sought n (get_or flights k d) (sound k d lt) (out k d lt)

pub part-all : {X : Type 0} (P : X → Type 0) (xs ys zs whole : List X) → whole ≡ xs ++ (ys ++ zs) → All P whole → All P xs × All P ys × All P zs
part-all {X} P xs ys zs whole is all =
    let here : All P (xs ++ (ys ++ zs)) = subst (All P) is all in (
      All_from_contains P xs (λ x has. All-contains P (xs ++ (ys ++ zs)) x here (Contains-append_left xs (ys ++ zs) x has)),
      All_from_contains P ys (λ x has. All-contains P (xs ++ (ys ++ zs)) x here (Contains-append_right xs (ys ++ zs) x (Contains-append_left ys zs x has))),
      All_from_contains P zs (λ x has. All-contains P (xs ++ (ys ++ zs)) x here (Contains-append_right xs (ys ++ zs) x (Contains-append_right ys zs x has))),
    )

-- what is sought of all flights stands in the window
pub window-wanted : (I : Situation) (P : PlanRows) (sought : Sought) (n : ℕ) (flights part : List Flight) → All (IsFlight I P n) flights → IsWindow sought flights part → filter (wanted I P sought) flights ≡ filter (wanted I P sought) part
window-wanted I P sought n flights part sound w =
    let test = wanted I P sought in
    let parts = part-all (IsFlight I P n) w.before part w.after flights w.whole sound in
    ap (filter test) w.whole
    ∙ filter-append test w.before (part ++ w.after)
    ∙ ap (λ (fs : List Flight). fs ++ filter test (part ++ w.after)) (filter_none test w.before (all-out I P sought n w.before parts.0 w.none_before))
    ∙ filter-append test part w.after
    ∙ ap (λ (fs : List Flight). filter test part ++ fs) (filter_none test w.after (all-out I P sought n w.after parts.2 w.none_after))
    ∙ append-nil (filter test part)

pub window-sound : (I : Situation) (P : PlanRows) (sought : Sought) (flights part : List Flight) → IsNetOf I P flights → IsWindow sought flights part → All (λ f. f.leg.0 < legs_of I) part
window-sound I P sought flights part net w =
    All-weaker (IsFlight I P (legs_of I)) (λ f. f.leg.0 < legs_of I) (λ f h. h.within) part
    (part-all (IsFlight I P (legs_of I)) w.before part w.after flights w.whole (net-sound I P flights net)).1

-- ---- the legs that were picked, sorted

abbrev leg_number : Leg → ℕ
leg_number leg = leg.0

abbrev leg_of_flight : Flight → Leg
leg_of_flight f = f.leg

picked-numbers : (I : Situation) (P : PlanRows) (sought : Sought) (flights part : List Flight) (legs : List Leg) → IsNetOf I P flights → IsWindow sought flights part → legs ≡ map leg_of_flight (filter (wanted I P sought) part) → map leg_number legs ≡ filter (is_sought I P sought) (map number_of flights)
picked-numbers I P sought flights part legs net w is =
    ap (map leg_number) is
    ∙ map-map leg_number leg_of_flight (filter (wanted I P sought) part)
    ∙ ap (map number_of) (sym (window-wanted I P sought (legs_of I) flights part (net-sound I P flights net) w))
    ∙ sym (filter_of_map (is_sought I P sought) number_of flights)

pub legs-sorted : (I : Situation) (P : PlanRows) (sought : Sought) (flights part : List Flight) (made legs : List Leg) → IsNetOf I P flights → IsWindow sought flights part → made ≡ map leg_of_flight (filter (wanted I P sought) part) → IsPermutation made legs → IsSortedByKey leg_number nat_cmp legs → map leg_number legs ≡ filter (is_sought I P sought) (numbers (legs_of I))
legs-sorted I P sought flights part made legs net w is sorted up =
    sorted-picked (flown_leg P) (is_sought I P sought) (legs_of I) (map number_of flights) (map leg_number made) (map leg_number legs)
    (net-legs I P flights net)
    (picked-numbers I P sought flights part made net w is)
    (IsPermutation-map leg_number made legs sorted)
    (λ i j d less within.
    let in_j : j < length legs = rw (sym (length-map legs leg_number)) within in
    let in_i : i < length legs = omega (arith, less, in_j) in
    let none : Leg = record { 0 = 0 } in
    rw (get_or-map leg_number legs i none d in_i, get_or-map leg_number legs j none d in_j) (IsNonDecreasingBy-from_sort leg_number legs up i j none (omega (arith, less)) in_j))
    (All_from_contains (λ x. is_sought I P sought x ≡ true → flown_leg P x ≡ true) (numbers (legs_of I)) (λ x has on. (sought-holds I P sought x on).flown))

pub legs-within : (n : ℕ) (q : ℕ → Bool) (legs : List Leg) → map leg_number legs ≡ filter q (numbers n) → All (λ (leg : Leg). leg.0 < n) legs
legs-within n q legs is = λ k d lt.
    let long : k < length (map leg_number legs) = rw (length-map legs leg_number) lt in
    let below : All (λ x. x < n) (map leg_number legs) = subst (All (λ x. x < n)) (sym is) (All-filter q (λ x. x < n) (numbers n) (All_from_contains (λ x. x < n) (numbers n) (λ x has. numbers_within n x has))) in
    subst (λ (x : ℕ). x < n) (get_or-map leg_number legs k d 0 lt) (below k 0 long)
