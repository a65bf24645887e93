-- The legs of routes are among those that are sought.
use Rattle.std.proofs.Common.{◌≡◌, ℕ, ◌+◌, ◌-◌, ◌<◌, ◌≤◌, inl, inr, true, ◌&&◌, not, leb, List, [], ◌∷◌, ◌++◌, length, get_or, refl, sym, ap, subst, ◌∙◌, arith, append_assoc}
use Rattle.std.specs.Prelude.{Some, None}
use Rattle.std.proofs.lemmas.Bool.{and_parts, leb-true, eq-eqb}
use Rattle.std.proofs.lemmas.List.{get_or_append_left, get_or_at, length-append}
use Rattle.desk_units.specs.declared.numbers.Leg.{Leg}
use Rattle.desk_units.specs.declared.numbers.Cabin.{Cabin}
use Rattle.desk_units.specs.declared.numbers.Airport.{Airport}
use Rattle.desk_data.specs.Situation.{PassengersGone, Situation, leg_at, bound}
use Rattle.desk_data.specs.Paths.{no_pair, leg_in, last_leg}
use Rattle.desk_data.specs.Booked.{dest_of, booked_arrival, haul_of}
use Rattle.desk_data.specs.PlanRows.{PlanRows, row_at, groups_at}
use Rattle.desk_data.specs.Valid.{IsValid, AreTallied}
use Rattle.desk_rules.specs.Rotations.{dep, arr}
use Rattle.desk_rules.specs.Passengers.{is_flown, all_flown, arrival_of, longest_delay}
use Rattle.desk_rules.specs.Carriage.{is_good_path, is_in_time_path}
use Rattle.desk_rules.specs.Words.{IsFlown, TakesThere, GoesOn}
use Rattle.desk_rules.proofs.Tests.{implies-holds}
use Rattle.desk_rules.proofs.CarriageLaws.{is_good_path-holds, all_flown-from}
use Rattle.desk_model.specs.Tidy.{is_fit_path}
use Rattle.near_moves.specs.MoveParts.{leg}
use Rattle.near_moves.specs.Routes.{is_route}
use Rattle.near_moves.specs.RouteParts.{stands_among, is_new_route}
use Rattle.near_moves.proofs.RebookingLaws.{tallied-within}
use Rattle.near_moves.proofs.RouteLaws.{is_route-fit}
use Rattle.near_pax.specs.declared.sought.Sought.{Sought}
use Rattle.near_pax.specs.Sought.{is_sought}
use Rattle.near_pax.specs.Start.{IsStemPath, place_after, ready_after, due_before}
use Rattle.near_pax.proofs.SoughtLaws.{sought-from}

-- what some passengers have flown is the path of a stem
pub tallied-stem : (I : Situation) (entries : List PassengersGone) (i : ℕ) (d : PassengersGone) → IsValid I → AreTallied I.progress.frozen entries → i < length entries → IsStemPath I (get_or entries i d).0
tallied-stem I entries i d valid tallied lt =
    let own = tallied-within I (get_or entries i d) valid (tallied.each i d lt) in
    record { among = own.among; short = own.short }

-- ---- what C13 and C14 say of a route

pub record IsTaken (I : Situation) (P : PlanRows) (r : ℕ) (path : List (Leg × Cabin)) : Type 0 where
  pub there : TakesThere I P r path
  pub soon : arrival_of I P path < due_before I r

pub fit-taken : (I : Situation) (P : PlanRows) (r : ℕ) (path : List (Leg × Cabin)) → is_fit_path I P r path ≡ true → IsTaken I P r path
unfolding is_fit_path is_in_time_path
fit-taken I P r path h =
    let two = and_parts (is_good_path I P r path && is_in_time_path I P r path) (bound I r (groups_at P r) path) h in
    let one = and_parts (is_good_path I P r path) (is_in_time_path I P r path) two.0 in
    let there = is_good_path-holds I P r path one.0 in
    let late = leb-true (arrival_of I P path) (booked_arrival I r + longest_delay (haul_of I r))
    (implies-holds (all_flown P path) (leb (arrival_of I P path) (booked_arrival I r + longest_delay (haul_of I r))) one.1 (all_flown-from P path there.flown)) in
    record { there = there; soon = omega (arith, late) }

pub new-taken : (I : Situation) (P : PlanRows) (r : ℕ) (told : List (List (Leg × Cabin))) (path : List (Leg × Cabin)) → is_new_route I P r told path ≡ true → IsTaken I P r path
new-taken I P r told path h = fit-taken I P r path (is_route-fit I P r path (and_parts (is_route I P r path) (not (stands_among told path)) h).0)

-- ---- the legs of a path that is made of parts

leg_after : (start rest : List (Leg × Cabin)) (pair : Leg × Cabin) (i : ℕ) → i ≡ length start → leg_in (start ++ pair ∷ rest) i ≡ pair.0.0
leg_after start rest pair i is = ap (λ (p : Leg × Cabin). p.0.0) (get_or_at start pair rest no_pair i (sym is))

leg_before : (start rest : List (Leg × Cabin)) (i : ℕ) → i < length start → leg_in (start ++ rest) i ≡ leg_in start i
leg_before start rest i lt = ap (λ (p : Leg × Cabin). p.0.0) (get_or_append_left start rest no_pair i lt)

pub last-is : (start : List (Leg × Cabin)) (pair : Leg × Cabin) → last_leg (start ++ pair ∷ []) ≡ pair.0.0
last-is start pair =
    let n = length-append start (pair ∷ []) in
    leg_after start [] pair (length (start ++ pair ∷ []) - 1) (omega (arith, n))

pub leg-flown : (I : Situation) (P : PlanRows) (r : ℕ) (start rest : List (Leg × Cabin)) (pair : Leg × Cabin) → TakesThere I P r (start ++ pair ∷ rest) → is_flown (row_at P pair.0.0) ≡ true
leg-flown I P r start rest pair h =
    let long = length-append start (pair ∷ rest) in
    let at : IsFlown P (leg_in (start ++ pair ∷ rest) (length start)) = h.flown (length start) no_pair (omega (arith, long)) in
    let own : IsFlown P pair.0.0 = subst (IsFlown P) (leg_after start rest pair (length start) refl) at in
    ap is_flown own.flown

pub goes_on-time : (I : Situation) (P : PlanRows) (x y : ℕ) → GoesOn I P x y → arr I P x ≤ dep P y
goes_on-time I P x y h =
    elim h.time [
      | inl later ↦ omega (arith, later)
      | inr aboard ↦ aboard.1
    ]

-- two legs that follow one another
pub leg-next : (I : Situation) (P : PlanRows) (r : ℕ) (start rest : List (Leg × Cabin)) (a b : Leg × Cabin) → TakesThere I P r (start ++ a ∷ b ∷ rest) → GoesOn I P a.0.0 b.0.0
leg-next I P r start rest a b h =
    let long = length-append start (a ∷ b ∷ rest) in
    let i = length start in
    let path = start ++ a ∷ b ∷ rest in
    let at : GoesOn I P (leg_in path i) (leg_in path (i + 1)) = h.goes_on i (omega (arith, long)) in
    let first : leg_in path i ≡ a.0.0 = leg_after start (b ∷ rest) a i refl in
    let whole : path ≡ (start ++ a ∷ []) ++ b ∷ rest = sym (append_assoc start (a ∷ []) (b ∷ rest)) in
    let n = length-append start (a ∷ []) in
    let second : leg_in path (i + 1) ≡ b.0.0 = ap (λ (p : List (Leg × Cabin)). leg_in p (i + 1)) whole ∙ leg_after (start ++ a ∷ []) rest b (i + 1) (omega (arith, n)) in
    subst (λ (y : ℕ). GoesOn I P a.0.0 y) second (subst (λ (x : ℕ). GoesOn I P x (leg_in path (i + 1))) first at)

-- the first leg after a path
pub record Follows (I : Situation) (P : PlanRows) (r : ℕ) (start : List (Leg × Cabin)) (x : ℕ) : Type 0 where
  pub place : (leg_at I x).origin.0 ≡ place_after I r start
  pub time : ready_after I P r start ≤ dep P x

pub first-follows : (I : Situation) (P : PlanRows) (r : ℕ) (start rest : List (Leg × Cabin)) (pair : Leg × Cabin) → TakesThere I P r (start ++ pair ∷ rest) → Follows I P r start pair.0.0
first-follows I P r [] rest pair h = record { place = h.origin; time = h.departs }
first-follows I P r (a ∷ start) rest pair h =
    let whole = a ∷ start in
    let long = length-append whole (pair ∷ rest) in
    let i = length start in
    let path = whole ++ pair ∷ rest in
    let at : GoesOn I P (leg_in path i) (leg_in path (i + 1)) = h.goes_on i (omega (arith, long)) in
    let first : leg_in path i ≡ leg_in whole i = leg_before whole (pair ∷ rest) i (omega arith) in
    let last : leg_in whole i ≡ last_leg whole = ap (leg_in whole) (omega arith) in
    let second : leg_in path (i + 1) ≡ pair.0.0 = leg_after whole rest pair (i + 1) (omega arith) in
    let own : GoesOn I P (last_leg whole) pair.0.0 = subst (λ (y : ℕ). GoesOn I P (last_leg whole) y) second (subst (λ (x : ℕ). GoesOn I P x (leg_in path (i + 1))) (first ∙ last) at) in
    record { place = own.place; time = goes_on-time I P (last_leg whole) pair.0.0 own }

-- ---- what is sought

-- after a path, to an airport where one is named
pub record SeeksAfter (I : Situation) (P : PlanRows) (r : ℕ) (start : List (Leg × Cabin)) (sought : Sought) : Type 0 where
  pub from : sought.from.0 ≡ place_after I r start
  pub earliest : sought.earliest ≡ ready_after I P r start
  pub until : sought.until ≡ due_before I r

pub single-sought : (I : Situation) (P : PlanRows) (r : ℕ) (start : List (Leg × Cabin)) (x : ℕ) (c : Cabin) (sought : Sought) (dest : Airport) → SeeksAfter I P r start sought → sought.to ≡ Some dest → dest.0 ≡ dest_of I r → IsTaken I P r (start ++ (leg x, c) ∷ []) → is_sought I P sought x ≡ true
single-sought I P r start x c sought dest seeks named is taken =
    let follows = first-follows I P r start [] (leg x, c) taken.there in
    let last = last-is start (leg x, c) in
    let arrives : (leg_at I x).dest.0 ≡ dest_of I r = ap (λ (y : ℕ). (leg_at I y).dest.0) (sym last) ∙ taken.there.dest in
    let soon = taken.soon in
    let same : arr I P (last_leg (start ++ (leg x, c) ∷ [])) ≡ arr I P x = ap (arr I P) last in
    let early = follows.time in
    let ready = seeks.earliest in
    let until = seeks.until in
    sought-from I P sought x (record {
      flown = leg-flown I P r start [] (leg x, c) taken.there;
      from = follows.place ∙ sym seeks.from;
      to = rw named (eq-eqb (leg_at I x).dest.0 dest.0 (arrives ∙ sym is));
      early = omega (arith, early, ready);
      soon = omega (arith, soon, same, until);
    })

-- the first of two legs
pub first-sought : (I : Situation) (P : PlanRows) (r : ℕ) (start : List (Leg × Cabin)) (x y : ℕ) (c : Cabin) (sought : Sought) → SeeksAfter I P r start sought → sought.to ≡ None → IsTaken I P r (start ++ (leg x, c) ∷ (leg y, c) ∷ []) → is_sought I P sought x ≡ true
first-sought I P r start x y c sought seeks none taken =
    let path = start ++ (leg x, c) ∷ (leg y, c) ∷ [] in
    let follows = first-follows I P r start ((leg y, c) ∷ []) (leg x, c) taken.there in
    let next = goes_on-time I P x y (leg-next I P r start [] (leg x, c) (leg y, c) taken.there) in
    let last : last_leg path ≡ y = ap last_leg (sym (append_assoc start ((leg x, c) ∷ []) ((leg y, c) ∷ []))) ∙ last-is (start ++ (leg x, c) ∷ []) (leg y, c) in
    let soon = taken.soon in
    let same : arr I P (last_leg path) ≡ arr I P y = ap (arr I P) last in
    let early = follows.time in
    let ready = seeks.earliest in
    let until = seeks.until in
    sought-from I P sought x (record {
      flown = leg-flown I P r start ((leg y, c) ∷ []) (leg x, c) taken.there;
      from = follows.place ∙ sym seeks.from;
      to = rw none refl;
      early = omega (arith, early, ready);
      soon = omega (arith, soon, same, until, next);
    })

-- the second of two legs
pub record SeeksNext (I : Situation) (P : PlanRows) (r x : ℕ) (sought : Sought) : Type 0 where
  pub from : sought.from.0 ≡ (leg_at I x).dest.0
  pub earliest : sought.earliest ≡ arr I P x
  pub until : sought.until ≡ due_before I r

pub second-sought : (I : Situation) (P : PlanRows) (r : ℕ) (start : List (Leg × Cabin)) (x y : ℕ) (c : Cabin) (sought : Sought) (dest : Airport) → SeeksNext I P r x sought → sought.to ≡ Some dest → dest.0 ≡ dest_of I r → IsTaken I P r (start ++ (leg x, c) ∷ (leg y, c) ∷ []) → is_sought I P sought y ≡ true
second-sought I P r start x y c sought dest seeks named is taken =
    let path = start ++ (leg x, c) ∷ (leg y, c) ∷ [] in
    let goes = leg-next I P r start [] (leg x, c) (leg y, c) taken.there in
    let next = goes_on-time I P x y goes in
    let whole : path ≡ (start ++ (leg x, c) ∷ []) ++ (leg y, c) ∷ [] = sym (append_assoc start ((leg x, c) ∷ []) ((leg y, c) ∷ [])) in
    let last : last_leg path ≡ y = ap last_leg whole ∙ last-is (start ++ (leg x, c) ∷ []) (leg y, c) in
    let arrives : (leg_at I y).dest.0 ≡ dest_of I r = ap (λ (z : ℕ). (leg_at I z).dest.0) (sym last) ∙ taken.there.dest in
    let soon = taken.soon in
    let same : arr I P (last_leg path) ≡ arr I P y = ap (arr I P) last in
    let ready = seeks.earliest in
    let until = seeks.until in
    sought-from I P sought y (record {
      flown = leg-flown I P r (start ++ (leg x, c) ∷ []) [] (leg y, c) (subst (TakesThere I P r) whole taken.there);
      from = goes.place ∙ sym seeks.from;
      to = rw named (eq-eqb (leg_at I y).dest.0 dest.0 (arrives ∙ sym is));
      early = omega (arith, next, ready);
      soon = omega (arith, soon, same, until);
    })
