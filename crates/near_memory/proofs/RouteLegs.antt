-- The legs of routes.
use Rattle.std.proofs.Common.{◌≡◌, ℕ, ◌<◌, ◌≤◌, Bool, true, false, ◌&&◌, ◌||◌, eqb, ltb, leb, List, [], ◌∷◌, ◌++◌, refl, sym, ap, subst, ◌∙◌, arith, append_assoc}
use Rattle.std.specs.Prelude.{filter}
use Rattle.std.specs.List.{All, Contains, list_any}
use Rattle.std.proofs.lemmas.Bool.{and_from, eq-eqb, lt-ltb, le-leb}
use Rattle.std.proofs.lemmas.List.Elements.{All-nil, All-cons, All-append}
use Rattle.desk_units.specs.declared.numbers.Leg.{Leg}
use Rattle.desk_units.specs.declared.numbers.Cabin.{Cabin}
use Rattle.desk_data.specs.Situation.{Situation, legs_of, leg_at}
use Rattle.desk_data.specs.Booked.{booked_path, dest_of}
use Rattle.desk_data.specs.Paths.{last_leg}
use Rattle.desk_data.specs.PlanRows.{PlanRows, row_at}
use Rattle.desk_rules.specs.Numbers.{numbers}
use Rattle.desk_rules.specs.Rotations.{dep, arr}
use Rattle.desk_rules.specs.Passengers.{is_flown}
use Rattle.desk_rules.specs.Words.{TakesThere}
use Rattle.near_moves.specs.MoveParts.{leg}
use Rattle.near_moves.specs.Routes.{routes, stems, tried_paths, is_route}
use Rattle.near_moves.specs.RouteWords.{IsStem, IsTried, scheduled, stem_alone, one_more, two_more}
use Rattle.near_moves.proofs.ListLaws.{filter_contains, any_from, numbers_each, All_from_contains}
use Rattle.near_moves.proofs.RepeatLaws.{has-repeats}
use Rattle.near_moves.proofs.RouteLaws.{has-routes, is_route-fit, stems-each}
use Rattle.near_pax.specs.Start.{place_after, ready_after, due_before}
use Rattle.near_pax.proofs.StartLaws.{IsTaken, fit-taken, first-follows, last-is, goes_on-time, leg-flown, leg-next}
use Rattle.near_memory.specs.Untouched.{is_on, goes_between, may_begin, may_end, is_in_time, may_use_after, may_use}

or_left : (a b : Bool) → a ≡ true → (a || b) ≡ true
or_left true b h = refl
or_left false b h = absurd cc

or_right : (a b : Bool) → b ≡ true → (a || b) ≡ true
or_right true b h = refl
or_right false b h = h

-- what is taken of a route
route-taken : (I : Situation) (Q : PlanRows) (r : ℕ) (path : List (Leg × Cabin)) → Contains (routes I Q r) path → IsTaken I Q r path
unfolding routes
route-taken I Q r path has =
    fit-taken I Q r path (is_route-fit I Q r path (filter_contains (is_route I Q r) (tried_paths I r) path (has-repeats (filter (is_route I Q r) (tried_paths I r)) path has)).1)

-- ---- each kind of leg

on-scheduled : (I : Situation) (Q : PlanRows) (r x : ℕ) → is_on (booked_path I r) x ≡ true → may_use I Q r x ≡ true
unfolding may_use
on-scheduled I Q r x on = or_left (is_on (booked_path I r) x) (list_any (may_use_after I Q r x) (stems I r)) on

on-stem : (I : Situation) (Q : PlanRows) (r : ℕ) (stem : List (Leg × Cabin)) (x : ℕ) → IsStem I r stem → may_use_after I Q r x stem ≡ true → may_use I Q r x ≡ true
unfolding may_use
on-stem I Q r stem x own after =
    or_right (is_on (booked_path I r) x) (list_any (may_use_after I Q r x) (stems I r)) (any_from (may_use_after I Q r x) (stems I r) stem (stems-each I r stem own) after)

on-route : (I : Situation) (Q : PlanRows) (r : ℕ) (stem : List (Leg × Cabin)) (x : ℕ) → IsStem I r stem → is_in_time I Q r stem x ≡ true → (may_begin I r stem x || may_end I r stem x) ≡ true → may_use I Q r x ≡ true
on-route I Q r stem x own soon there =
    on-stem I Q r stem x own
    (or_right (is_on stem x) (is_in_time I Q r stem x && (may_begin I r stem x || may_end I r stem x)) (and_from (is_in_time I Q r stem x) (may_begin I r stem x || may_end I r stem x) soon there))

in_time : (I : Situation) (Q : PlanRows) (r : ℕ) (stem : List (Leg × Cabin)) (x : ℕ) → is_flown (row_at Q x) ≡ true → ready_after I Q r stem ≤ dep Q x → arr I Q x < due_before I r → is_in_time I Q r stem x ≡ true
in_time I Q r stem x flown early soon =
    and_from (is_flown (row_at Q x)) (leb (ready_after I Q r stem) (dep Q x) && ltb (arr I Q x) (due_before I r)) flown
    (and_from (leb (ready_after I Q r stem) (dep Q x)) (ltb (arr I Q x) (due_before I r)) (le-leb (ready_after I Q r stem) (dep Q x) early) (lt-ltb (arr I Q x) (due_before I r) soon))

goes : (I : Situation) (z from to : ℕ) → z < legs_of I → (leg_at I z).origin.0 ≡ from → (leg_at I z).dest.0 ≡ to → goes_between I from to ≡ true
goes I z from to lt leaves arrives =
    any_from (λ y. eqb (leg_at I y).origin.0 from && eqb (leg_at I y).dest.0 to) (numbers (legs_of I)) z (numbers_each (legs_of I) z lt)
    (and_from (eqb (leg_at I z).origin.0 from) (eqb (leg_at I z).dest.0 to) (eq-eqb (leg_at I z).origin.0 from leaves) (eq-eqb (leg_at I z).dest.0 to arrives))

begins-alone : (I : Situation) (r : ℕ) (stem : List (Leg × Cabin)) (x : ℕ) → (leg_at I x).origin.0 ≡ place_after I r stem → (leg_at I x).dest.0 ≡ dest_of I r → (may_begin I r stem x || may_end I r stem x) ≡ true
begins-alone I r stem x leaves arrives =
    or_left (may_begin I r stem x) (may_end I r stem x)
    (and_from (eqb (leg_at I x).origin.0 (place_after I r stem)) (eqb (leg_at I x).dest.0 (dest_of I r) || goes_between I (leg_at I x).dest.0 (dest_of I r))
    (eq-eqb (leg_at I x).origin.0 (place_after I r stem) leaves)
    (or_left (eqb (leg_at I x).dest.0 (dest_of I r)) (goes_between I (leg_at I x).dest.0 (dest_of I r)) (eq-eqb (leg_at I x).dest.0 (dest_of I r) arrives)))

begins-first : (I : Situation) (r : ℕ) (stem : List (Leg × Cabin)) (x : ℕ) → (leg_at I x).origin.0 ≡ place_after I r stem → goes_between I (leg_at I x).dest.0 (dest_of I r) ≡ true → (may_begin I r stem x || may_end I r stem x) ≡ true
begins-first I r stem x leaves on =
    or_left (may_begin I r stem x) (may_end I r stem x)
    (and_from (eqb (leg_at I x).origin.0 (place_after I r stem)) (eqb (leg_at I x).dest.0 (dest_of I r) || goes_between I (leg_at I x).dest.0 (dest_of I r))
    (eq-eqb (leg_at I x).origin.0 (place_after I r stem) leaves)
    (or_right (eqb (leg_at I x).dest.0 (dest_of I r)) (goes_between I (leg_at I x).dest.0 (dest_of I r)) on))

ends-second : (I : Situation) (r : ℕ) (stem : List (Leg × Cabin)) (y : ℕ) → (leg_at I y).dest.0 ≡ dest_of I r → goes_between I (place_after I r stem) (leg_at I y).origin.0 ≡ true → (may_begin I r stem y || may_end I r stem y) ≡ true
ends-second I r stem y arrives on =
    or_right (may_begin I r stem y) (may_end I r stem y)
    (and_from (eqb (leg_at I y).dest.0 (dest_of I r)) (goes_between I (place_after I r stem) (leg_at I y).origin.0) (eq-eqb (leg_at I y).dest.0 (dest_of I r) arrives) on)

-- ---- each kind of route

-- each leg may be used
abbrev MayUse : Situation → PlanRows → ℕ → Leg × Cabin → Type 0
MayUse I Q r pair = may_use I Q r pair.0.0 ≡ true

scheduled-legs : (I : Situation) (Q : PlanRows) (r : ℕ) → All (MayUse I Q r) (booked_path I r)
scheduled-legs I Q r =
    All_from_contains (MayUse I Q r) (booked_path I r)
    (λ pair has. on-scheduled I Q r pair.0.0 (any_from (λ (p : Leg × Cabin). eqb p.0.0 pair.0.0) (booked_path I r) pair has (eq-eqb pair.0.0 pair.0.0 refl)))

stem-legs : (I : Situation) (Q : PlanRows) (r : ℕ) (stem : List (Leg × Cabin)) → IsStem I r stem → All (MayUse I Q r) stem
stem-legs I Q r stem own =
    All_from_contains (MayUse I Q r) stem
    (λ pair has. on-stem I Q r stem pair.0.0 own
    (or_left (is_on stem pair.0.0) (is_in_time I Q r stem pair.0.0 && (may_begin I r stem pair.0.0 || may_end I r stem pair.0.0))
    (any_from (λ (p : Leg × Cabin). eqb p.0.0 pair.0.0) stem pair has (eq-eqb pair.0.0 pair.0.0 refl))))

single-leg : (I : Situation) (Q : PlanRows) (r : ℕ) (stem : List (Leg × Cabin)) (x : ℕ) (c : Cabin) → IsStem I r stem → IsTaken I Q r (stem ++ (leg x, c) ∷ []) → may_use I Q r x ≡ true
single-leg I Q r stem x c own taken =
    let follows = first-follows I Q r stem [] (leg x, c) taken.there in
    let last = last-is stem (leg x, c) in
    let arrives : (leg_at I x).dest.0 ≡ dest_of I r = ap (λ (y : ℕ). (leg_at I y).dest.0) (sym last) ∙ taken.there.dest in
    let soon = taken.soon in
    let same : arr I Q (last_leg (stem ++ (leg x, c) ∷ [])) ≡ arr I Q x = ap (arr I Q) last in
    on-route I Q r stem x own
    (in_time I Q r stem x (leg-flown I Q r stem [] (leg x, c) taken.there) follows.time (omega (arith, soon, same)))
    (begins-alone I r stem x follows.place arrives)

-- the two legs after a stem
record AreUsed (I : Situation) (Q : PlanRows) (r x y : ℕ) : Type 0 where
  first : may_use I Q r x ≡ true
  second : may_use I Q r y ≡ true

double-legs : (I : Situation) (Q : PlanRows) (r : ℕ) (stem : List (Leg × Cabin)) (x y : ℕ) (c : Cabin) → IsStem I r stem → x < legs_of I → y < legs_of I → IsTaken I Q r (stem ++ (leg x, c) ∷ (leg y, c) ∷ []) → AreUsed I Q r x y
double-legs I Q r stem x y c own lt_x lt_y taken =
    let path = stem ++ (leg x, c) ∷ (leg y, c) ∷ [] in
    let follows = first-follows I Q r stem ((leg y, c) ∷ []) (leg x, c) taken.there in
    let on = leg-next I Q r stem [] (leg x, c) (leg y, c) taken.there in
    let next = goes_on-time I Q x y on in
    let whole : path ≡ (stem ++ (leg x, c) ∷ []) ++ (leg y, c) ∷ [] = sym (append_assoc stem ((leg x, c) ∷ []) ((leg y, c) ∷ [])) in
    let last : last_leg path ≡ y = ap last_leg whole ∙ last-is (stem ++ (leg x, c) ∷ []) (leg y, c) in
    let arrives : (leg_at I y).dest.0 ≡ dest_of I r = ap (λ (z : ℕ). (leg_at I z).dest.0) (sym last) ∙ taken.there.dest in
    let soon = taken.soon in
    let same : arr I Q (last_leg path) ≡ arr I Q y = ap (arr I Q) last in
    let early = follows.time in
    let flown_y = leg-flown I Q r (stem ++ (leg x, c) ∷ []) [] (leg y, c) (subst (TakesThere I Q r) whole taken.there) in
    record {
      first = on-route I Q r stem x own
          (in_time I Q r stem x (leg-flown I Q r stem ((leg y, c) ∷ []) (leg x, c) taken.there) early (omega (arith, soon, same, next)))
          (begins-first I r stem x follows.place (goes I y (leg_at I x).dest.0 (dest_of I r) lt_y on.place arrives));
      second = on-route I Q r stem y own
          (in_time I Q r stem y flown_y (omega (arith, early, next)) (omega (arith, soon, same)))
          (ends-second I r stem y arrives (goes I x (place_after I r stem) (leg_at I y).origin.0 lt_x follows.place (sym on.place)));
    }

route-legs : (I : Situation) (Q : PlanRows) (r : ℕ) (path : List (Leg × Cabin)) → IsTaken I Q r path → IsTried I r path → All (MayUse I Q r) path
route-legs I Q r path taken (scheduled is) = subst (All (MayUse I Q r)) (sym is) (scheduled-legs I Q r)
route-legs I Q r path taken (stem_alone own) = stem-legs I Q r path own
route-legs I Q r path taken (one_more stem x c own lt is) =
    let first = single-leg I Q r stem x c own (subst (IsTaken I Q r) is taken) in
    subst (All (MayUse I Q r)) (sym is)
    (All-append (MayUse I Q r) stem ((leg x, c) ∷ []) (stem-legs I Q r stem own) (All-cons (MayUse I Q r) (leg x, c) [] first (All-nil (MayUse I Q r))))
route-legs I Q r path taken (two_more stem x y c own lt_x lt_y is) =
    let used = double-legs I Q r stem x y c own lt_x lt_y (subst (IsTaken I Q r) is taken) in
    subst (All (MayUse I Q r)) (sym is)
    (All-append (MayUse I Q r) stem ((leg x, c) ∷ (leg y, c) ∷ []) (stem-legs I Q r stem own)
    (All-cons (MayUse I Q r) (leg x, c) ((leg y, c) ∷ []) used.first (All-cons (MayUse I Q r) (leg y, c) [] used.second (All-nil (MayUse I Q r)))))

-- each leg of a route may be on one
pub routes-legs : (I : Situation) (Q : PlanRows) (r : ℕ) (path : List (Leg × Cabin)) → Contains (routes I Q r) path → All (λ pair. may_use I Q r pair.0.0 ≡ true) path
routes-legs I Q r path has = route-legs I Q r path (route-taken I Q r path has) (has-routes I Q r path has).kind
