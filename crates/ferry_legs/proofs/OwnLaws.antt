-- What the rules C4 to C9 ask of one more added leg and of its aircraft.
use Rattle.std.proofs.Common.{◌≡◌, ℕ, ◌+◌, ◌<◌, ◌≤◌, inl, inr, Bool, true, false, ◌||◌, eqb, ltb, leb, List, [], length, get_or, map, refl, sym, ap, subst, ◌∙◌, arith, All}
use Rattle.std.specs.Prelude.{Option, Some, None, unwrap_or}
use Rattle.std.specs.Option.{ForSome, option_map}
use Rattle.std.proofs.lemmas.Bool.{cases_Bool, cases_lt, and_parts, and_left, and_from, eq-eqb, eqb-true, lt-ltb, le-leb, true≢false}
use Rattle.std.proofs.lemmas.Bool.Decides.{nat_tests}
use Rattle.std.proofs.lemmas.List.{length-map, get_or_past}
use Rattle.std.proofs.lemmas.List.Elements.{All-get_or}
use Rattle.desk_units.specs.declared.numbers.Airport.{Airport}
use Rattle.desk_units.specs.declared.numbers.Leg.{Leg}
use Rattle.desk_data.specs.declared.row.Row.{Row}
use Rattle.desk_data.specs.declared.row.Row.TheVariants.{Flown, Cancelled}
use Rattle.desk_data.specs.Situation.{Situation, legs_of, planes_of, airports_of, plane_at, distance, now_of, no_leg, no_plane}
use Rattle.desk_data.specs.PlanRows.{PlanRows, row_at}
use Rattle.desk_data.specs.Valid.{IsValid, IsPlanFor, IsLeg, IsPlane, IsDistance}
use Rattle.desk_rules.specs.Numbers.{numbers}
use Rattle.desk_rules.specs.Rotations.{departure, dep, comes_before}
use Rattle.desk_rules.specs.Rules.{keeps_c4, keeps_c5, keeps_c6, keeps_c7}
use Rattle.desk_rules.specs.Maintenance.{is_flown_by, flies, departs_before}
use Rattle.desk_rules.proofs.HourLaws.{length-numbers, dep-lt}
use Rattle.plan_reads.specs.Last.{IsLastOf, AreLasts, stand}
use Rattle.plan_reads.proofs.LastLaws.{last_in}
use Rattle.plan_reads.proofs.OrderLaws.{not_both}
use Rattle.added_legs.specs.declared.added.Added.{Added}
use Rattle.added_legs.specs.Merged.{IsAdded, AreAdded, last_leg, plane_end, added_for, merged_day, merged_plan}
use Rattle.added_legs.specs.Ferried.{with_added, ready, ready_after}
use Rattle.added_legs.proofs.MergedLaws.{number_said}
use Rattle.added_legs.proofs.FerriedLaws.{found_passes}
use Rattle.added_legs.specs.Flights.{AreFlights, IsFlight, flight_of}
use Rattle.added_legs.specs.Asked.{ready_alone}
use Rattle.added_legs.proofs.FlightLaws.{are_last}
use Rattle.added_legs.proofs.AskedLaws.{c4_new, c5_new, c6_new, c7_new}
use Rattle.ferry_legs.specs.declared.way.Way.{Way}
use Rattle.ferry_legs.specs.Departs.{way_of, IsWay, is_in_service}
use Rattle.ferry_legs.proofs.ChangeLaws.{for_new}

or_true : (b : Bool) → (b || true) ≡ true
or_true true = refl
or_true false = refl

-- the added leg of each of n aircraft, with something said of it
abbrev pub by_plane : {X : Type 0} → (ℕ → Added → X) → ℕ → List Added → List (Option X)
by_plane said n B = map (λ p. option_map (said p) (added_for B p)) (numbers n)

-- ---- distances

row_short : (row : List (Option ℕ)) (b : ℕ) → All IsDistance row → IsDistance (get_or row b None)
row_short row b h =
    elim (cases_lt b (length row)) [
      | inl within ↦ All-get_or IsDistance row b None within h
      | inr past ↦ λ minutes is. (let none : get_or row b None ≡ None = get_or_past row b None past in absurd cc)
    ]

pub distance_short : (I : Situation) (a b : ℕ) → IsValid I → IsDistance (distance I a b)
distance_short I a b valid =
    elim (cases_lt a (length I.parts.dist)) [
      | inl within ↦ row_short (get_or I.parts.dist a []) b (All-get_or (λ (row : List (Option ℕ)). All IsDistance row) I.parts.dist a [] within valid.parts.dist)
      | inr past ↦ row_short (get_or I.parts.dist a []) b (subst (λ (row : List (Option ℕ)). All IsDistance row) (sym (get_or_past I.parts.dist a [] past)) (λ k d lt. absurd (omega (arith, lt))))
    ]

or_zero_short : (o : Option ℕ) → IsDistance o → unwrap_or o 0 ≤ 100000
or_zero_short None h = omega arith
or_zero_short (Some minutes) h = h minutes refl

-- ---- where aircraft end, and from when on they are ready

pub end_stands : (I : Situation) (P : PlanRows) → IsPlanFor I P → (lasts : List (Option Leg)) → AreLasts I P (λ p. 52500000) (legs_of I) lasts → (p : ℕ) → p < planes_of I → plane_end I P p ≡ stand I p (get_or lasts p None)
unfolding plane_end
end_stands I P plan lasts are p lt = ap (stand I p) ((are_last I P lasts plan are).each p lt)

pub ready_last : (I : Situation) (P : PlanRows) → IsPlanFor I P → (lasts : List (Option Leg)) → AreLasts I P (λ p. 52500000) (legs_of I) lasts → (p : ℕ) (last : Option Leg) → p < planes_of I → get_or lasts p None ≡ last → ready I P p ≡ ready_after I P p last
ready_last I P plan lasts are p last lt is = ap (ready_after I P p) ((are_last I P lasts plan are).each p lt ∙ is)

pub now_soon : (I : Situation) → IsValid I → now_of I < 52596000
now_soon I valid = let soon = valid.progress.soon in let from = valid.parts.from in omega (arith, soon, from)

module _ (I : Situation) (P : PlanRows) (valid : IsValid I) (plan : IsPlanFor I P) (lasts : List (Option Leg)) (are : AreLasts I P (λ p. 52500000) (legs_of I) lasts) where
  last_is : (p : ℕ) → p < planes_of I → last_leg I P p ≡ get_or lasts p None
  last_is p lt = (are_last I P lasts plan are).each p lt

  stand_within : (p : ℕ) (last : Option Leg) → p < planes_of I → ForSome last (λ leg. leg.0 < legs_of I) → (stand I p last).0 < airports_of I
  stand_within p None lt within = (All-get_or (IsPlane (airports_of I)) I.parts.planes p no_plane lt valid.parts.planes).origin
  stand_within p (Some l) lt within = (All-get_or (IsLeg (airports_of I) (planes_of I) (legs_of I)) I.parts.legs l.0 no_leg (within l refl) valid.parts.legs).dest

  end_is : (p : ℕ) → p < planes_of I → plane_end I P p ≡ stand I p (get_or lasts p None)
  end_is p lt = end_stands I P plan lasts are p lt

  pub end_within : (p : ℕ) → p < planes_of I → (plane_end I P p).0 < airports_of I
  end_within p lt =
      subst (λ (there : Airport). there.0 < airports_of I) (sym (end_is p lt))
      (stand_within p (get_or lasts p None) lt (last_in I P p 52500000 (get_or lasts p None) (are.each p lt)))

  pub is_way : (p : ℕ) (dest : Airport) → p < planes_of I → dest.0 < airports_of I → IsWay I (way_of I P p dest)
  is_way p dest lt to = record {
    aircraft = lt;
    leaves = end_within p lt;
    arrives = to;
    short = or_zero_short (distance I (plane_end I P p).0 dest.0) (distance_short I (plane_end I P p).0 dest.0 valid);
  }

  -- ---- the added legs by aircraft

  good_flight : (p : ℕ) (b : Added) → b.plane.0 ≡ p → IsAdded I P b → IsFlight I (flight_of I P p b)
  good_flight p b same is =
      let lt : p < planes_of I = subst (λ (k : ℕ). k < planes_of I) same is.aircraft in
      let way = is_way p b.dest lt is.airport in
      record { leaves = way.leaves; arrives = way.arrives; short = way.short; departs = is.departs }

  good_some : (p : ℕ) (o : Option Added) → ((b : Added) → o ≡ Some b → IsFlight I (flight_of I P p b)) → ForSome (option_map (flight_of I P p) o) (IsFlight I)
  good_some p None good = λ f is. absurd cc
  good_some p (Some b) good = λ f is. (let same : flight_of I P p b ≡ f = cc in subst (IsFlight I) same (good b refl))

  found_good : (B : List Added) (p : ℕ) → AreAdded I P B → (b : Added) → added_for B p ≡ Some b → IsFlight I (flight_of I P p b)
  unfolding added_for
  found_good B p added b is =
      let found = found_passes (IsAdded I P) (λ (c : Added). eqb c.plane.0 p) B b added.each is in
      good_flight p b (eqb-true b.plane.0 p found.0) found.1

  are_flights : (B : List Added) → AreAdded I P B → AreFlights I P B (by_plane (flight_of I P) (planes_of I) B)
  are_flights B added = record {
    each = λ p lt. number_said (λ p. option_map (flight_of I P p) (added_for B p)) (planes_of I) p None lt;
    ranges = record {
      planes = length-map (numbers (planes_of I)) (λ p. option_map (flight_of I P p) (added_for B p)) ∙ length-numbers (planes_of I);
      each = λ p lt.
          subst (λ o. ForSome o (IsFlight I)) (sym (number_said (λ p. option_map (flight_of I P p) (added_for B p)) (planes_of I) p None lt))
          (good_some p (added_for B p) (found_good B p added));
    };
  }

  -- ---- a leg that departs once its aircraft is ready

  -- the rows of an aircraft that do not come after its last leg depart no later
  no_later : (l z p : ℕ) (rl rz : Row) → is_flown_by p rl ≡ true → is_flown_by p rz ≡ true → comes_before l rl z rz ≡ false → departure rz ≤ departure rl
  no_later l z p (Flown a d) (Flown b e) on off none = grind (arith, nat_tests)
  no_later l z p (Flown a d) Cancelled on off none = omega arith
  no_later l z p Cancelled rz on off none = absurd (true≢false (sym on))

  soon : (p z : ℕ) → flies P p z ≡ true → departs_before P p 52500000 z ≡ true
  soon p z on = and_from (flies P p z) (ltb (dep P z) 52500000) on (lt-ltb (dep P z) 52500000 (dep-lt I P z plan))

  not_flown : (p z : ℕ) → departs_before P p 52500000 z ≡ false → flies P p z ≡ false
  not_flown p z off =
      elim (cases_Bool (flies P p z)) [
        | inl on ↦ absurd (not_both (departs_before P p 52500000 z) (soon p z on) off)
        | inr none ↦ none
      ]

  late_by : (p at : ℕ) (last : Option Leg) → IsLastOf P p 52500000 (legs_of I) last → ready_after I P p last ≤ at → (y : ℕ) → y < legs_of I → flies P p y ≡ true → dep P y ≤ at
  late_by p at None h le y lt on = absurd (not_both (flies P p y) on (not_flown p y (h y lt)))
  late_by p at (Some l) h le y lt on =
      let own : flies P p l.0 ≡ true = (and_parts (flies P p l.0) (ltb (dep P l.0) 52500000) h.before).0 in
      let first : dep P y ≤ dep P l.0 = no_later l.0 y p (row_at P l.0) (row_at P y) own on (h.last y lt (soon p y on)) in
      omega (arith, first, le)

  earlier_by : (p at : ℕ) (last : Option Leg) → IsLastOf P p 52500000 (legs_of I) last → ready_after I P p last ≤ at → IsLastOf P p (at + 1) (legs_of I) last
  earlier_by p at None h le = λ x lt. and_left (flies P p x) (ltb (dep P x) (at + 1)) (not_flown p x (h x lt))
  earlier_by p at (Some l) h le =
      let own : flies P p l.0 ≡ true = (and_parts (flies P p l.0) (ltb (dep P l.0) 52500000) h.before).0 in
      let first : dep P l.0 < at + 1 = omega (arith, le) in
      record {
        within = h.within;
        before = and_from (flies P p l.0) (ltb (dep P l.0) (at + 1)) own (lt-ltb (dep P l.0) (at + 1) first);
        last = λ z lt early. h.last z lt (soon p z (and_parts (flies P p z) (ltb (dep P z) (at + 1)) early).0);
      }

  pub late : (p at : ℕ) → p < planes_of I → ready I P p ≤ at → (y : ℕ) → y < legs_of I → flies P p y ≡ true → dep P y ≤ at
  late p at lt le = late_by p at (get_or lasts p None) (are.each p lt) (subst (λ (n : ℕ). n ≤ at) (ready_last I P plan lasts are p (get_or lasts p None) lt refl) le)

  -- ---- the rules of the new leg

  alone_ready : (p at : ℕ) (last : Option Leg) → ready_after I P p last ≤ at → ready_alone I P p last ≤ at
  alone_ready p at None le = omega arith
  alone_ready p at (Some l) le = omega (arith, le)

  module _ (A : List Added) (a : Added) (added : AreAdded I P (with_added A a)) (within : a.plane.0 < planes_of I) (alone : added_for A a.plane.0 ≡ None) (air : (plane_at I a.plane.0).surface ≡ false) (le : ready I P a.plane.0 ≤ a.dep.0) where
    abbrev N : Situation
    N = merged_day I P (with_added A a)

    abbrev R : PlanRows
    R = merged_plan I P (with_added A a)

    abbrev p : ℕ
    p = a.plane.0

    abbrev way : Way
    way = way_of I P a.plane.0 a.dest

    new_is : added_for (with_added A a) p ≡ Some a
    new_is = for_new A a alone

    abbrev last : Option Leg
    last = get_or lasts a.plane.0 None

    le_last : ready_after I P p last ≤ a.dep.0
    le_last = subst (λ (n : ℕ). n ≤ a.dep.0) (ready_last I P plan lasts are p last within refl) le

    is_earlier : IsLastOf P p (a.dep.0 + 1) (legs_of I) last
    is_earlier = earlier_by p a.dep.0 last (are.each p within) le_last

    pub own_c4 : keeps_c4 N R (legs_of I + p) ≡ leb way.minutes (plane_at I p).range
    own_c4 = c4_new I P (with_added A a) valid plan.legs (by_plane (flight_of I P) (planes_of I) (with_added A a)) (are_flights (with_added A a) added) p a within new_is

    pub own_c5 : keeps_c5 N R (legs_of I + p) ≡ true
    own_c5 =
        c5_new I P (with_added A a) valid plan.legs (by_plane (flight_of I P) (planes_of I) (with_added A a)) (are_flights (with_added A a) added) p a last within new_is is_earlier
        ∙ ap (λ (b : Bool). (plane_at I p).surface || b) (eq-eqb (plane_end I P p).0 (stand I p last).0 (ap (λ (there : Airport). there.0) (end_is p within)))
        ∙ or_true (plane_at I p).surface

    pub own_c6 : keeps_c6 N R (legs_of I + p) ≡ true
    own_c6 =
        c6_new I P (with_added A a) valid plan.legs (by_plane (flight_of I P) (planes_of I) (with_added A a)) (are_flights (with_added A a) added) p a last within new_is is_earlier
        ∙ ap (λ (b : Bool). (plane_at I p).surface || b) (le-leb (ready_alone I P p last) a.dep.0 (alone_ready p a.dep.0 last le_last))
        ∙ or_true (plane_at I p).surface

    pub own_c7 : keeps_c7 N R (legs_of I + p) ≡ is_in_service I way a.dep.0
    own_c7 =
        c7_new I P (with_added A a) valid plan.legs (by_plane (flight_of I P) (planes_of I) (with_added A a)) (are_flights (with_added A a) added) p a within new_is
        ∙ ap (λ (b : Bool). b || is_in_service I way a.dep.0) air
