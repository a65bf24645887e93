-- The rules of passengers: C12, C13, C14 and C15.
use Rattle.std.proofs.Common.{◌≡◌, ℕ, ◌+◌, ◌-◌, ◌<◌, ◌≤◌, ◌⊎◌, inl, inr, Bool, true, ◌&&◌, eqb, leb, List, [], ◌∷◌, length, refl, sym, ap, ◌∙◌, arith}
use Rattle.std.specs.Prelude.{Option, None, Some, All}
use Rattle.std.specs.List.{AllByRecursion, list_all}
use Rattle.std.proofs.lemmas.Bool.{and_parts, and_from, cases_Bool, cond-true, cond-false, true≢false, eqb-true, eq-eqb, leb-true, le-leb}
use Rattle.std.proofs.lemmas.List.Elements.{All-from_recursion, recursion_from_All}
use Rattle.desk_units.specs.declared.numbers.Leg.{Leg}
use Rattle.desk_units.specs.declared.numbers.Cabin.{Cabin}
use Rattle.desk_units.specs.declared.numbers.Haul.{Haul}
use Rattle.desk_units.specs.declared.numbers.Haul.TheVariants as haul
use Rattle.desk_units.specs.declared.numbers.Plane.{Plane}
use Rattle.desk_data.specs.declared.row.Row.{Row}
use Rattle.desk_data.specs.declared.row.Row.TheVariants.{Flown, Cancelled}
use Rattle.desk_data.specs.declared.row.Group.{Group}
use Rattle.desk_data.specs.Begun.{KeepsToLeft}
use Rattle.desk_data.specs.Situation.{Situation, leg_at, plane_at, bound}
use Rattle.desk_data.specs.PlanRows.{PlanRows, row_at, groups_at}
use Rattle.desk_rules.specs.Numbers.{implies}
use Rattle.desk_rules.specs.Rotations.{dep, arr, is_leg}
use Rattle.desk_data.specs.Paths.{leg_in, first_leg, last_leg, is_carried}
use Rattle.desk_data.specs.Booked.{origin_of, dest_of, booked_departure, booked_arrival, haul_of}
use Rattle.desk_rules.specs.Passengers.{aboard, seats_in, is_flown, all_flown, share_plane, connection, reaches, connects, arrival_of, longest_delay}
use Rattle.desk_rules.specs.Carriage.{has_seats, keeps_c12, each_carried, is_good_path, keeps_c13, is_in_time_path, keeps_c14, keeps_c15}
use Rattle.desk_rules.specs.Words.{IsFlown, StaysAboard, GoesOn, TakesThere, EachCarried, ArrivesInTime, MeetsC12, MeetsC13, MeetsC14, MeetsC15}
use Rattle.desk_data.proofs.BoundLaws.{bound-holds, bound-from}
use Rattle.desk_rules.proofs.Tests.{each_below-holds, each_below-from, implies-holds, implies-from}

-- ---- C12

has_seats-from : (I : Situation) (P : PlanRows) (x : ℕ) (c : Cabin) (r : Row) → ((p d : ℕ) → r ≡ Flown (record { 0 = p }) (record { 0 = d }) → aboard P x c ≤ seats_in (plane_at I p).seats c) → has_seats I P x c r ≡ true
has_seats-from I P x c (Flown p d) h = le-leb (aboard P x c) (seats_in (plane_at I p.0).seats c) (h p.0 d.0 refl)
has_seats-from I P x c Cancelled h = refl

pub keeps_c12-holds : (I : Situation) (P : PlanRows) (x : ℕ) (c : Cabin) → keeps_c12 I P x c ≡ true → MeetsC12 I P x c
unfolding keeps_c12
keeps_c12-holds I P x c h p d flown =
    let here : leb (aboard P x c) (seats_in (plane_at I p).seats c) ≡ true = rw flown at h in
    leb-true (aboard P x c) (seats_in (plane_at I p).seats c) here

pub keeps_c12-from : (I : Situation) (P : PlanRows) (x : ℕ) (c : Cabin) → MeetsC12 I P x c → keeps_c12 I P x c ≡ true
unfolding keeps_c12
keeps_c12-from I P x c h = has_seats-from I P x c (row_at P x) h

-- ---- tests of each element, and of each carried path

each_holds : {X : Type 0} (test : X → Bool) (Holds : X → Type 0) → ((x : X) → test x ≡ true → Holds x) → (xs : List X) → list_all test xs ≡ true → AllByRecursion Holds xs
each_holds test Holds says [] h = tt
each_holds test Holds says (x ∷ xs) h =
    let parts = and_parts (test x) (list_all test xs) h in
    (says x parts.0, each_holds test Holds says xs parts.1)

each_from : {X : Type 0} (test : X → Bool) (Holds : X → Type 0) → ((x : X) → Holds x → test x ≡ true) → (xs : List X) → AllByRecursion Holds xs → list_all test xs ≡ true
each_from test Holds says [] h = refl
each_from test Holds says (x ∷ xs) h = and_from (test x) (list_all test xs) (says x h.0) (each_from test Holds says xs h.1)

pub list_all-holds : {X : Type 0} (test : X → Bool) (Holds : X → Type 0) → ((x : X) → test x ≡ true → Holds x) → (xs : List X) → list_all test xs ≡ true → All Holds xs
list_all-holds test Holds says xs h = All-from_recursion Holds xs (each_holds test Holds says xs h)

pub list_all-from : {X : Type 0} (test : X → Bool) (Holds : X → Type 0) → ((x : X) → Holds x → test x ≡ true) → (xs : List X) → All Holds xs → list_all test xs ≡ true
list_all-from test Holds says xs h = each_from test Holds says xs (recursion_from_All Holds xs h)

pub carried-holds : (path : List (Leg × Cabin)) → is_carried path ≡ true → path ≡ [] → ⊥
carried-holds [] h is = true≢false (sym h)
carried-holds (pair ∷ path) h is = absurd cc

pub carried-from : (path : List (Leg × Cabin)) → (path ≡ [] → ⊥) → is_carried path ≡ true
carried-from [] h = absurd (h refl)
carried-from (pair ∷ path) h = refl

pub each_carried-holds : (P : PlanRows) (r : ℕ) (test : List (Leg × Cabin) → Bool) (Holds : List (Leg × Cabin) → Type 0) → ((path : List (Leg × Cabin)) → test path ≡ true → Holds path) → each_carried P r test ≡ true → EachCarried P r Holds
each_carried-holds P r test Holds says h =
    list_all-holds (λ (group : Group). implies (is_carried group.path) (test group.path)) (λ (group : Group). (group.path ≡ [] → ⊥) → Holds group.path)
    (λ group is carried. says group.path (implies-holds (is_carried group.path) (test group.path) is (carried-from group.path carried)))
    (groups_at P r) h

pub each_carried-from : (P : PlanRows) (r : ℕ) (test : List (Leg × Cabin) → Bool) (Holds : List (Leg × Cabin) → Type 0) → ((path : List (Leg × Cabin)) → Holds path → test path ≡ true) → EachCarried P r Holds → each_carried P r test ≡ true
each_carried-from P r test Holds says h =
    list_all-from (λ (group : Group). implies (is_carried group.path) (test group.path)) (λ (group : Group). (group.path ≡ [] → ⊥) → Holds group.path)
    (λ group holds. implies-from (is_carried group.path) (test group.path) (λ carried. says group.path (holds (carried-holds group.path carried))))
    (groups_at P r) h

-- ---- flown paths

is_flown-holds : (P : PlanRows) (x : ℕ) (r : Row) → row_at P x ≡ r → is_flown r ≡ true → IsFlown P x
is_flown-holds P x (Flown p d) here h = record { plane = p.0; dep = d.0; flown = here }
is_flown-holds P x Cancelled here h = absurd (true≢false (sym h))

pub all_flown-holds : (P : PlanRows) (path : List (Leg × Cabin)) → all_flown P path ≡ true → All (λ pair. IsFlown P pair.0.0) path
unfolding all_flown
all_flown-holds P path h =
    list_all-holds (λ (pair : Leg × Cabin). is_flown (row_at P pair.0.0)) (λ (pair : Leg × Cabin). IsFlown P pair.0.0)
    (λ pair is. is_flown-holds P pair.0.0 (row_at P pair.0.0) refl is) path h

pub all_flown-from : (P : PlanRows) (path : List (Leg × Cabin)) → All (λ pair. IsFlown P pair.0.0) path → all_flown P path ≡ true
unfolding all_flown
all_flown-from P path h =
    list_all-from (λ (pair : Leg × Cabin). is_flown (row_at P pair.0.0)) (λ (pair : Leg × Cabin). IsFlown P pair.0.0)
    (λ pair leg. ap is_flown leg.flown) path h

-- ---- connections

is_leg-holds : (x : ℕ) (asked : Option Leg) → is_leg x asked ≡ true → asked ≡ Some (record { 0 = x })
is_leg-holds x None h = absurd (true≢false (sym h))
is_leg-holds x (Some leg) h = ap (λ (k : ℕ). let there : Leg = record { 0 = k } in Some there) (eqb-true leg.0 x h)

is_leg-from : (x : ℕ) (asked : Option Leg) → asked ≡ Some (record { 0 = x }) → is_leg x asked ≡ true
is_leg-from x asked is = ap (is_leg x) is ∙ eq-eqb x x refl

share_plane-holds : (I : Situation) (P : PlanRows) (x y : ℕ) (r s : Row) → row_at P x ≡ r → row_at P y ≡ s → (leg_at I y).prev ≡ Some (record { 0 = x }) → share_plane r s ≡ true → StaysAboard I P x y
share_plane-holds I P x y (Flown p d) (Flown q e) first second previous h =
    let same : q.0 ≡ p.0 = sym (eqb-true p.0 q.0 h) in
    record {
      plane = p.0;
      dep = d.0;
      later = e.0;
      first = first;
      second = second ∙ ap (λ (k : ℕ). let plane : Plane = record { 0 = k } in Flown plane e) same;
      previous = previous;
    }
share_plane-holds I P x y (Flown p d) Cancelled first second previous h = absurd (true≢false (sym h))
share_plane-holds I P x y Cancelled s first second previous h = absurd (true≢false (sym h))

-- whether passengers of leg x stay aboard for leg y
abbrev stays : Situation → PlanRows → ℕ → ℕ → Bool
stays I P x y = is_leg x (leg_at I y).prev && share_plane (row_at P x) (row_at P y)

stays-holds : (I : Situation) (P : PlanRows) (x y : ℕ) → stays I P x y ≡ true → StaysAboard I P x y
stays-holds I P x y h =
    let parts = and_parts (is_leg x (leg_at I y).prev) (share_plane (row_at P x) (row_at P y)) h in
    share_plane-holds I P x y (row_at P x) (row_at P y) refl refl (is_leg-holds x (leg_at I y).prev parts.0) parts.1

stays-from : (I : Situation) (P : PlanRows) (x y : ℕ) → StaysAboard I P x y → stays I P x y ≡ true
stays-from I P x y h =
    and_from (is_leg x (leg_at I y).prev) (share_plane (row_at P x) (row_at P y))
    (is_leg-from x (leg_at I y).prev h.previous)
    (rw (h.first, h.second) (eq-eqb h.plane h.plane refl))

late_enough-holds : (I : Situation) (P : PlanRows) (x y : ℕ) → arr I P x + connection I P x y ≤ dep P y → (arr I P x + 30 ≤ dep P y) ⊎ (StaysAboard I P x y × (arr I P x ≤ dep P y))
late_enough-holds I P x y h =
    elim (cases_Bool (stays I P x y)) [
      | inl aboard ↦ let none : connection I P x y ≡ 0 = cond-true (stays I P x y) 0 30 aboard in inr (stays-holds I P x y aboard, omega (arith, h, none))
      | inr changes ↦ let time : connection I P x y ≡ 30 = cond-false (stays I P x y) 0 30 changes in inl (omega (arith, h, time))
    ]

late_enough-from : (I : Situation) (P : PlanRows) (x y : ℕ) → (arr I P x + 30 ≤ dep P y) ⊎ (StaysAboard I P x y × (arr I P x ≤ dep P y)) → arr I P x + connection I P x y ≤ dep P y
late_enough-from I P x y (inl late) =
    elim (cases_Bool (stays I P x y)) [
      | inl aboard ↦ let none : connection I P x y ≡ 0 = cond-true (stays I P x y) 0 30 aboard in omega (arith, late, none)
      | inr changes ↦ let time : connection I P x y ≡ 30 = cond-false (stays I P x y) 0 30 changes in omega (arith, late, time)
    ]
late_enough-from I P x y (inr both) =
    let none : connection I P x y ≡ 0 = cond-true (stays I P x y) 0 30 (stays-from I P x y both.0) in
    omega (arith, both.1, none)

pub reaches-holds : (I : Situation) (P : PlanRows) (x y : ℕ) → reaches I P x y ≡ true → GoesOn I P x y
reaches-holds I P x y h =
    let parts = and_parts (eqb (leg_at I y).origin.0 (leg_at I x).dest.0) (leb (arr I P x + connection I P x y) (dep P y)) h in
    record {
      place = eqb-true (leg_at I y).origin.0 (leg_at I x).dest.0 parts.0;
      time = late_enough-holds I P x y (leb-true (arr I P x + connection I P x y) (dep P y) parts.1);
    }

pub reaches-from : (I : Situation) (P : PlanRows) (x y : ℕ) → GoesOn I P x y → reaches I P x y ≡ true
reaches-from I P x y h =
    and_from (eqb (leg_at I y).origin.0 (leg_at I x).dest.0) (leb (arr I P x + connection I P x y) (dep P y))
    (eq-eqb (leg_at I y).origin.0 (leg_at I x).dest.0 h.place)
    (le-leb (arr I P x + connection I P x y) (dep P y) (late_enough-from I P x y h.time))

-- whether leg i of a path goes on to the next
abbrev goes_on_at : Situation → PlanRows → List (Leg × Cabin) → ℕ → Bool
goes_on_at I P path i = reaches I P (leg_in path i) (leg_in path (i + 1))

connects-holds : (I : Situation) (P : PlanRows) (path : List (Leg × Cabin)) → connects I P path ≡ true → (i : ℕ) → i + 1 < length path → GoesOn I P (leg_in path i) (leg_in path (i + 1))
unfolding connects
connects-holds I P path h i lt =
    reaches-holds I P (leg_in path i) (leg_in path (i + 1)) (each_below-holds (length path - 1) (goes_on_at I P path) h i (omega arith))

connects-from : (I : Situation) (P : PlanRows) (path : List (Leg × Cabin)) → ((i : ℕ) → i + 1 < length path → GoesOn I P (leg_in path i) (leg_in path (i + 1))) → connects I P path ≡ true
unfolding connects
connects-from I P path h =
    each_below-from (length path - 1) (goes_on_at I P path)
    (λ i lt. reaches-from I P (leg_in path i) (leg_in path (i + 1)) (h i (omega arith)))

-- ---- C13

-- the parts of the test of a path, in their order
abbrev leaves_there : Situation → ℕ → List (Leg × Cabin) → Bool
leaves_there I r path = eqb (leg_at I (first_leg path)).origin.0 (origin_of I r)

abbrev arrives_there : Situation → ℕ → List (Leg × Cabin) → Bool
arrives_there I r path = eqb (leg_at I (last_leg path)).dest.0 (dest_of I r)

abbrev leaves_then : Situation → PlanRows → ℕ → List (Leg × Cabin) → Bool
leaves_then I P r path = leb (booked_departure I r) (dep P (first_leg path))

pub is_good_path-holds : (I : Situation) (P : PlanRows) (r : ℕ) (path : List (Leg × Cabin)) → is_good_path I P r path ≡ true → TakesThere I P r path
unfolding is_good_path
is_good_path-holds I P r path h =
    let four = and_parts (all_flown P path && leaves_there I r path && arrives_there I r path && connects I P path) (leaves_then I P r path) h in
    let three = and_parts (all_flown P path && leaves_there I r path && arrives_there I r path) (connects I P path) four.0 in
    let two = and_parts (all_flown P path && leaves_there I r path) (arrives_there I r path) three.0 in
    let one = and_parts (all_flown P path) (leaves_there I r path) two.0 in
    record {
      flown = all_flown-holds P path one.0;
      origin = eqb-true (leg_at I (first_leg path)).origin.0 (origin_of I r) one.1;
      dest = eqb-true (leg_at I (last_leg path)).dest.0 (dest_of I r) two.1;
      goes_on = connects-holds I P path three.1;
      departs = leb-true (booked_departure I r) (dep P (first_leg path)) four.1;
    }

pub is_good_path-from : (I : Situation) (P : PlanRows) (r : ℕ) (path : List (Leg × Cabin)) → TakesThere I P r path → is_good_path I P r path ≡ true
unfolding is_good_path
is_good_path-from I P r path h =
    let one = and_from (all_flown P path) (leaves_there I r path) (all_flown-from P path h.flown) (eq-eqb (leg_at I (first_leg path)).origin.0 (origin_of I r) h.origin) in
    let two = and_from (all_flown P path && leaves_there I r path) (arrives_there I r path) one (eq-eqb (leg_at I (last_leg path)).dest.0 (dest_of I r) h.dest) in
    let three = and_from (all_flown P path && leaves_there I r path && arrives_there I r path) (connects I P path) two (connects-from I P path h.goes_on) in
    and_from (all_flown P path && leaves_there I r path && arrives_there I r path && connects I P path) (leaves_then I P r path) three
    (le-leb (booked_departure I r) (dep P (first_leg path)) h.departs)

pub keeps_c13-holds : (I : Situation) (P : PlanRows) (r : ℕ) → keeps_c13 I P r ≡ true → MeetsC13 I P r
unfolding keeps_c13
keeps_c13-holds I P r h = each_carried-holds P r (is_good_path I P r) (TakesThere I P r) (is_good_path-holds I P r) h

pub keeps_c13-from : (I : Situation) (P : PlanRows) (r : ℕ) → MeetsC13 I P r → keeps_c13 I P r ≡ true
unfolding keeps_c13
keeps_c13-from I P r h = each_carried-from P r (is_good_path I P r) (TakesThere I P r) (is_good_path-from I P r) h

-- ---- C14

-- when the flown path arrives
in_time-holds : (I : Situation) (P : PlanRows) (r : ℕ) (path : List (Leg × Cabin)) (h : Haul) → haul_of I r ≡ h → arrival_of I P path ≤ booked_arrival I r + longest_delay h → ArrivesInTime I P r path
in_time-holds I P r path haul.D is le = record { near = λ other. le; far = λ far. absurd cc }
in_time-holds I P r path haul.C is le = record { near = λ other. le; far = λ far. absurd cc }
in_time-holds I P r path haul.I is le = record { near = λ other. absurd (other is); far = λ far. le }

in_time-from : (I : Situation) (P : PlanRows) (r : ℕ) (path : List (Leg × Cabin)) (h : Haul) → haul_of I r ≡ h → ArrivesInTime I P r path → arrival_of I P path ≤ booked_arrival I r + longest_delay h
in_time-from I P r path haul.D is late = late.near (λ far. absurd cc)
in_time-from I P r path haul.C is late = late.near (λ far. absurd cc)
in_time-from I P r path haul.I is late = late.far is

-- what the test of a path says
abbrev IsInTime : Situation → PlanRows → ℕ → List (Leg × Cabin) → Type 0
IsInTime I P r path = All (λ pair. IsFlown P pair.0.0) path → ArrivesInTime I P r path

pub is_in_time-holds : (I : Situation) (P : PlanRows) (r : ℕ) (path : List (Leg × Cabin)) → is_in_time_path I P r path ≡ true → IsInTime I P r path
unfolding is_in_time_path
is_in_time-holds I P r path h flown =
    let latest = booked_arrival I r + longest_delay (haul_of I r) in
    in_time-holds I P r path (haul_of I r) refl
    (leb-true (arrival_of I P path) latest (implies-holds (all_flown P path) (leb (arrival_of I P path) latest) h (all_flown-from P path flown)))

pub is_in_time-from : (I : Situation) (P : PlanRows) (r : ℕ) (path : List (Leg × Cabin)) → IsInTime I P r path → is_in_time_path I P r path ≡ true
unfolding is_in_time_path
is_in_time-from I P r path h =
    let latest = booked_arrival I r + longest_delay (haul_of I r) in
    implies-from (all_flown P path) (leb (arrival_of I P path) latest)
    (λ flown. le-leb (arrival_of I P path) latest (in_time-from I P r path (haul_of I r) refl (h (all_flown-holds P path flown))))

pub keeps_c14-holds : (I : Situation) (P : PlanRows) (r : ℕ) → keeps_c14 I P r ≡ true → MeetsC14 I P r
unfolding keeps_c14
keeps_c14-holds I P r h = each_carried-holds P r (is_in_time_path I P r) (IsInTime I P r) (is_in_time-holds I P r) h

pub keeps_c14-from : (I : Situation) (P : PlanRows) (r : ℕ) → MeetsC14 I P r → keeps_c14 I P r ≡ true
unfolding keeps_c14
keeps_c14-from I P r h = each_carried-from P r (is_in_time_path I P r) (IsInTime I P r) (is_in_time-from I P r) h

-- ---- C15

pub keeps_c15-holds : (I : Situation) (P : PlanRows) (r : ℕ) → keeps_c15 I P r ≡ true → MeetsC15 I P r
unfolding keeps_c15
keeps_c15-holds I P r h = each_carried-holds P r (bound I r (groups_at P r)) (KeepsToLeft I r (groups_at P r)) (bound-holds I r (groups_at P r)) h

pub keeps_c15-from : (I : Situation) (P : PlanRows) (r : ℕ) → MeetsC15 I P r → keeps_c15 I P r ≡ true
unfolding keeps_c15
keeps_c15-from I P r h = each_carried-from P r (bound I r (groups_at P r)) (KeepsToLeft I r (groups_at P r)) (bound-from I r (groups_at P r)) h
