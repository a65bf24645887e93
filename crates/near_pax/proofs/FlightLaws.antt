-- The flights of a plan, and those that leave an airport in time.
use Rattle.std.proofs.Common.{◌≡◌, ℕ, zero, suc, ◌+◌, ◌<◌, ◌≤◌, Bool, true, false, ◌&&◌, ◌||◌, eqb, ltb, leb, List, [], ◌∷◌, ◌++◌, length, get_or, map, take, drop, refl, sym, ap, subst, ◌∙◌, arith, is_lt, nat_cmp, add-one}
use Rattle.std.specs.Prelude.{filter, Option, None, Some}
use Rattle.std.specs.List.{All, filter_map}
use Rattle.std.specs.List.Sorted.{IsPermutation, IsSorted, IsPartitionedBy, IsPartitionPoint}
use Rattle.std.specs.Ordering.{ordering_then}
use Rattle.std.specs.Cmp.{IsTotalOrder, nat_cmp_total}
use Rattle.std.proofs.lemmas.Bool.Decides.{nat_tests}
use Rattle.std.proofs.lemmas.Cmp.{then_total, on_total}
use Rattle.std.proofs.lemmas.List.{append-nil, get_or-drop, get_or-take, take-append-drop, length-drop, length-take, map-append}
use Rattle.std.proofs.lemmas.List.Elements.{All-nil, All-cons, All-append, All-weaker, filter_map-append, filter-append}
use Rattle.std.proofs.lemmas.List.Sorted.{ranks_by, sorted_far, All-permutation, IsPermutation-map}
use Rattle.desk_units.specs.declared.numbers.Airport.{Airport}
use Rattle.desk_units.specs.declared.numbers.Plane.{Plane}
use Rattle.desk_units.specs.declared.numbers.Minute.{Minute}
use Rattle.desk_data.specs.declared.row.Row.{Row}
use Rattle.desk_data.specs.declared.row.Row.TheVariants.{Flown, Cancelled}
use Rattle.desk_data.specs.Situation.{Situation, legs_of, leg_at}
use Rattle.desk_data.specs.PlanRows.{PlanRows, row_at}
use Rattle.desk_rules.specs.Numbers.{numbers}
use Rattle.desk_rules.specs.Passengers.{is_flown}
use Rattle.desk_rules.specs.Rotations.{dep}
use Rattle.near_pax.specs.declared.flights.Flight.{Flight}
use Rattle.near_pax.specs.declared.sought.Sought.{Sought}
use Rattle.near_pax.specs.Flights.{flight_of, flights_of, flight_cmp, IsNetOf}
use Rattle.near_pax.specs.Sought.{goes_before, goes_to, leaves_before, IsWindow}

-- ---- the flights of the first legs

flights-next : (I : Situation) (P : PlanRows) (n : ℕ) → flights_of I P (n + 1) ≡ flights_of I P n ++ filter_map (λ x. flight_of I x (row_at P x)) (n ∷ [])
flights-next I P n = rw add-one (filter_map-append (λ x. flight_of I x (row_at P x)) (numbers n) (n ∷ []))

pub flights-flown : (I : Situation) (P : PlanRows) (n : ℕ) (plane : Plane) (at : Minute) → row_at P n ≡ Flown plane at → flights_of I P (n + 1) ≡ flights_of I P n ++ (record { from = (leg_at I n).origin; to = (leg_at I n).dest; dep = at; leg = record { 0 = n } }) ∷ []
flights-flown I P n plane at h = flights-next I P n ∙ rw h refl

pub flights-off : (I : Situation) (P : PlanRows) (n : ℕ) → row_at P n ≡ Cancelled → flights_of I P (n + 1) ≡ flights_of I P n
flights-off I P n h = flights-next I P n ∙ rw h (append-nil (flights_of I P n))

-- f is the flight of one of the first n legs
pub record IsFlight (I : Situation) (P : PlanRows) (n : ℕ) (f : Flight) : Type 0 where
  pub within : f.leg.0 < n
  pub from : f.from.0 ≡ (leg_at I f.leg.0).origin.0
  pub to : f.to.0 ≡ (leg_at I f.leg.0).dest.0
  pub departs : f.dep.0 ≡ dep P f.leg.0

abbrev last_flight : Situation → ℕ → Row → List Flight
last_flight I n (Flown plane at) = (let f : Flight = record { from = (leg_at I n).origin; to = (leg_at I n).dest; dep = at; leg = record { 0 = n } } in f) ∷ []
last_flight I n Cancelled = []

last-is : (I : Situation) (P : PlanRows) (n : ℕ) (row : Row) → row_at P n ≡ row → filter_map (λ x. flight_of I x (row_at P x)) (n ∷ []) ≡ last_flight I n row
last-is I P n (Flown plane at) h = rw h refl
last-is I P n Cancelled h = rw h refl

last-sound : (I : Situation) (P : PlanRows) (n : ℕ) (row : Row) → row_at P n ≡ row → All (IsFlight I P (suc n)) (last_flight I n row)
last-sound I P n (Flown plane at) h =
    All-cons (IsFlight I P (suc n)) (record { from = (leg_at I n).origin; to = (leg_at I n).dest; dep = at; leg = record { 0 = n } }) []
    (record { within = omega arith; from = refl; to = refl; departs = rw h refl })
    (All-nil (IsFlight I P (suc n)))
last-sound I P n Cancelled h = All-nil (IsFlight I P (suc n))

flights-more : (I : Situation) (P : PlanRows) (n : ℕ) → flights_of I P (suc n) ≡ flights_of I P n ++ last_flight I n (row_at P n)
flights-more I P n = filter_map-append (λ x. flight_of I x (row_at P x)) (numbers n) (n ∷ []) ∙ ap (λ (fs : List Flight). flights_of I P n ++ fs) (last-is I P n (row_at P n) refl)

flights-sound : (I : Situation) (P : PlanRows) (n : ℕ) → All (IsFlight I P n) (flights_of I P n)
flights-sound I P zero = All-nil (IsFlight I P zero)
flights-sound I P (suc n) =
    subst (All (IsFlight I P (suc n))) (sym (flights-more I P n))
    (All-append (IsFlight I P (suc n)) (flights_of I P n) (last_flight I n (row_at P n))
    (All-weaker (IsFlight I P n) (IsFlight I P (suc n)) (λ f h. record { within = (let lt = h.within in omega (arith, lt)); from = h.from; to = h.to; departs = h.departs }) (flights_of I P n) (flights-sound I P n))
    (last-sound I P n (row_at P n) refl))

abbrev pub number_of : Flight → ℕ
number_of f = f.leg.0

abbrev pub flown_leg : PlanRows → ℕ → Bool
flown_leg P x = is_flown (row_at P x)

last-leg : (I : Situation) (P : PlanRows) (n : ℕ) (row : Row) → row_at P n ≡ row → map number_of (last_flight I n row) ≡ filter (flown_leg P) (n ∷ [])
last-leg I P n (Flown plane at) h = rw h refl
last-leg I P n Cancelled h = rw h refl

flights-legs : (I : Situation) (P : PlanRows) (n : ℕ) → map number_of (flights_of I P n) ≡ filter (flown_leg P) (numbers n)
flights-legs I P zero = refl
flights-legs I P (suc n) =
    ap (map number_of) (flights-more I P n)
    ∙ map-append number_of (flights_of I P n) (last_flight I n (row_at P n))
    ∙ ap (λ (xs : List ℕ). xs ++ map number_of (last_flight I n (row_at P n))) (flights-legs I P n)
    ∙ ap (λ (xs : List ℕ). filter (flown_leg P) (numbers n) ++ xs) (last-leg I P n (row_at P n) refl)
    ∙ sym (filter-append (flown_leg P) (numbers n) (n ∷ []))

-- ---- sorted

pub net-sound : (I : Situation) (P : PlanRows) (flights : List Flight) → IsNetOf I P flights → All (IsFlight I P (legs_of I)) flights
net-sound I P flights net = All-permutation (IsFlight I P (legs_of I)) (flights_of I P (legs_of I)) flights net.same (flights-sound I P (legs_of I))

pub net-legs : (I : Situation) (P : PlanRows) (flights : List Flight) → IsNetOf I P flights → IsPermutation (filter (flown_leg P) (numbers (legs_of I))) (map number_of flights)
net-legs I P flights net =
    subst (λ (xs : List ℕ). IsPermutation xs (map number_of flights)) (flights-legs I P (legs_of I))
    (IsPermutation-map number_of (flights_of I P (legs_of I)) flights net.same)

flight_total : IsTotalOrder flight_cmp
flight_total = then_total (on_total (λ f. f.from.0) nat_cmp_total) (then_total (on_total (λ f. f.to.0) nat_cmp_total) (then_total (on_total (λ f. f.dep.0) nat_cmp_total) (on_total (λ f. f.leg.0) nat_cmp_total)))

-- of two flights in order the first stands before what the second stands before: of those from the airport alone, and of those between two airports
before-from : (a s d x b t e y from : ℕ) (all : Bool) → is_lt (ordering_then (nat_cmp b a) (ordering_then (nat_cmp t s) (ordering_then (nat_cmp e d) (nat_cmp y x)))) ≡ false → (ltb b from || (eqb b from && all)) ≡ true → (ltb a from || (eqb a from && all)) ≡ true
before-from a s d x b t e y from true up h = grind (arith, nat_tests)
before-from a s d x b t e y from false up h = grind (arith, nat_tests)

before-earlier : (a s d x b t e y from to at : ℕ) → is_lt (ordering_then (nat_cmp b a) (ordering_then (nat_cmp t s) (ordering_then (nat_cmp e d) (nat_cmp y x)))) ≡ false → (ltb b from || (eqb b from && (ltb t to || (eqb t to && ltb e at)))) ≡ true → (ltb a from || (eqb a from && (ltb s to || (eqb s to && ltb d at)))) ≡ true
before-earlier a s d x b t e y from to at up h = grind (arith, nat_tests)

before-named : (f g : Flight) (from : ℕ) (to : Option Airport) (at : ℕ) (all : Bool) → is_lt (flight_cmp g f) ≡ false → leaves_before g from to at all ≡ true → leaves_before f from to at all ≡ true
before-named f g from None at all up h = before-from f.from.0 f.to.0 f.dep.0 f.leg.0 g.from.0 g.to.0 g.dep.0 g.leg.0 from all up h
before-named f g from (Some airport) at all up h = before-earlier f.from.0 f.to.0 f.dep.0 f.leg.0 g.from.0 g.to.0 g.dep.0 g.leg.0 from airport.0 at up h

abbrev pub leaves : ℕ → Option Airport → ℕ → Bool → Flight → Bool
leaves from to at all f = leaves_before f from to at all

pub parted : (from : ℕ) (to : Option Airport) (at : ℕ) (all : Bool) (flights : List Flight) → IsSorted flight_cmp flights → IsPartitionedBy (leaves from to at all) flights
parted from to at all flights up = λ i j d le within h.
    let f = get_or flights i d in
    let g = get_or flights j d in
    before-named f g from to at all
    (sorted_far (λ s t. is_lt (flight_cmp s t)) (ranks_by flight_total (λ f. f)) flights up i j d le within) h

pub parted-drop : (p : Flight → Bool) (k : ℕ) (flights : List Flight) → IsPartitionedBy p flights → IsPartitionedBy p (drop k flights)
parted-drop p k flights h = λ i j d le within passes.
    let long = length-drop k flights in
    subst (λ (f : Flight). p f ≡ true) (sym (get_or-drop k flights i d))
    (h (k + i) (k + j) d (omega (arith, le)) (omega (arith, within, long)) (subst (λ (f : Flight). p f ≡ true) (get_or-drop k flights j d) passes))

-- flights before those from the moment on are too early, and those that aren't before the other moment are too late; of flights to any airport none is left out but those from another
none_early : (a s d from : ℕ) (to : Option Airport) (at until : ℕ) → (ltb a from || (eqb a from && goes_before s d to at false)) ≡ true → (eqb a from && (goes_to s to && (leb at d && ltb d until))) ≡ false
none_early a s d from None at until h = grind (arith, nat_tests)
none_early a s d from (Some airport) at until h = grind (arith, nat_tests)

none_late : (a s d from : ℕ) (to : Option Airport) (at until : ℕ) → (ltb a from || (eqb a from && goes_before s d to until true)) ≡ false → (eqb a from && (goes_to s to && (leb at d && ltb d until))) ≡ false
none_late a s d from None at until h = grind (arith, nat_tests)
none_late a s d from (Some airport) at until h = grind (arith, nat_tests)

-- the flights before which the window begins, and those before which it ends
abbrev pub starts : Sought → Flight → Bool
starts sought f = leaves sought.from.0 sought.to sought.earliest false f

abbrev pub ends : Sought → Flight → Bool
ends sought f = leaves sought.from.0 sought.to sought.until true f

pub window : (sought : Sought) (flights : List Flight) (start end : ℕ) → start ≤ length flights → IsPartitionPoint (λ f. starts sought f ≡ true) (λ f. starts sought f ≡ false) flights start → IsPartitionPoint (λ f. ends sought f ≡ true) (λ f. ends sought f ≡ false) (drop start flights) end → IsWindow sought flights (take end (drop start flights))
window sought flights start end long first second =
    let rest = drop start flights in
    record {
      before = take start flights;
      after = drop end rest;
      whole = sym (ap (λ (fs : List Flight). take start flights ++ fs) (take-append-drop end rest) ∙ take-append-drop start flights);
      none_before = λ k d lt.
          let within : k < start = (let n = length-take start flights in omega (arith, n, lt)) in
          let f = get_or (take start flights) k d in
          none_early f.from.0 f.to.0 f.dep.0 sought.from.0 sought.to sought.earliest sought.until
          (subst (λ (f : Flight). starts sought f ≡ true) (sym (get_or-take start flights k d within)) (first.0 k d (omega arith) within));
      none_after = λ k d lt.
          let n = length-drop end rest in
          let f = get_or (drop end rest) k d in
          none_late f.from.0 f.to.0 f.dep.0 sought.from.0 sought.to sought.earliest sought.until
          (subst (λ (f : Flight). ends sought f ≡ false) (sym (get_or-drop end rest k d)) (second.1 (end + k) d (omega arith) (omega (arith, n, lt))));
    }
