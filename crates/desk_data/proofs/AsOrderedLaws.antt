-- A day of which nothing has left is as its orders say.
use Rattle.std.proofs.Common.{◌≡◌, ℕ, zero, suc, ◌<◌, ◌≤◌, inl, inr, Bool, true, false, ◌&&◌, ◌||◌, ltb, max, List, [], ◌∷◌, replicate, get_or, refl, ap, ◌∙◌, arith}
use Rattle.std.specs.Prelude.{if◌then◌else◌, Option, Some, None, is_some, count_by, sum_by, fold, zip}
use Rattle.std.specs.Option.{option_map}
use Rattle.std.specs.List.{filter_map}
use Rattle.std.proofs.lemmas.Bool.{cases_lt, le-leb}
use Rattle.std.proofs.lemmas.List.{get_or-map, get_or-replicate, get_or_past, length-replicate}
use Rattle.std.proofs.lemmas.List.Sums.{sum_by-cons, take_while-cons}
use Rattle.desk_units.specs.declared.numbers.Cabin.{Cabin}
use Rattle.desk_units.specs.declared.numbers.Leg.{Leg}
use Rattle.day_orders.specs.declared.hours.HourCap.{HourCap}
use Rattle.day_orders.specs.LastOrders.{span_after}
use Rattle.desk_data.specs.declared.info.LegInfo.{LegInfo}
use Rattle.desk_data.specs.declared.row.Group.{Group}
use Rattle.desk_data.specs.declared.row.Row.{Row}
use Rattle.desk_data.specs.Hours.{arr_cap, arrives_by, dep_cap, departs_by, frozen_arrivals, frozen_departures, hour_cap, is_row_that}
use Rattle.desk_data.specs.LaterOrders.{IsAsOrdered}
use Rattle.desk_data.specs.Paths.{is_carried}
use Rattle.desk_data.specs.PlanRows.{same_path}
use Rattle.desk_data.specs.Situation.{Situation, all_waiting, begins_as_begun, bound, carried_gone, due, earliest, first_progress, fixed, frozen_at, gone, gone_in, has_room_behind, is_frozen, landed, lands_frozen, leg_at, legs_of, no_res, now_of, ordered, ordered_row, ordered_spans, plane_at, res_at, reservations_of, spans, tallied}
use Rattle.desk_data.specs.Valid.{IsValid}
use Rattle.desk_data.proofs.DepartureLaws.{second_false}
use Rattle.std.proofs.lemmas.Bool.{ltb-false}

-- ---- where no row is frozen

none_frozen : (n x : ℕ) → get_or (let rows : List (Option Row) = replicate n None in rows) x None ≡ None
none_frozen n x =
    let rows : List (Option Row) = replicate n None in
    elim (cases_lt x n) [
      | inl within ↦ get_or-replicate n x None None within
      | inr past ↦ get_or_past rows x None (omega (arith, length-replicate n (let row : Option Row = None in row), past))
    ]

count_none : (test : LegInfo → Row → Bool) (legs : List LegInfo) (n : ℕ) → count_by (λ (pair : LegInfo × Option Row). is_row_that (test pair.0) pair.1) (zip legs (replicate n None)) ≡ 0
count_none test [] n = refl
count_none test (leg ∷ legs) zero = refl
count_none test (leg ∷ legs) (suc n) = count_none test legs n

lands_none : (p : ℕ) (legs : List LegInfo) (n : ℕ) → fold (λ last (pair : LegInfo × Option Row). max last (lands_frozen p pair.0.block pair.1)) 0 (zip legs (replicate n None)) ≡ 0
lands_none p [] n = refl
lands_none p (leg ∷ legs) zero = refl
lands_none p (leg ∷ legs) (suc n) = lands_none p legs n

nothing_gone : (n : ℕ) (path : List (Leg × Cabin)) → gone_in (replicate n None) path ≡ []
nothing_gone n [] = refl
nothing_gone n (pair ∷ path) = take_while-cons (λ (p : Leg × Cabin). is_some (get_or (let rows : List (Option Row) = replicate n None in rows) p.0.0 None)) pair path ∙ rw (none_frozen n pair.0.0) refl

-- ---- legs

not_more : (a b : Bool) → (a || b || false) ≡ (a || b)
not_more true b = refl
not_more false true = refl
not_more false false = refl

departs_if : (b : Bool) (d now : ℕ) → (b ≡ false → now ≤ d) → (if b then d else max d now) ≡ d
departs_if true d now later = refl
departs_if false d now later = omega (arith, later refl)

fixed_so : (I : Situation) (x : ℕ) → frozen_at I x ≡ None → fixed I x ≡ ((plane_at I (leg_at I x).plane.0).surface || ltb (leg_at I x).sched.0 I.parts.from.0)
unfolding fixed
fixed_so I x none = rw none (not_more (plane_at I (leg_at I x).plane.0).surface (ltb (leg_at I x).sched.0 I.parts.from.0))

departs_so : (I : Situation) (x : ℕ) → now_of I ≡ I.parts.from.0 → earliest I x ≡ ordered I x
unfolding earliest fixed ordered
departs_so I x now =
    departs_if (fixed I x) (ordered I x) (now_of I) (λ movable.
    let inside = ltb-false (leg_at I x).sched.0 I.parts.from.0 (second_false (plane_at I (leg_at I x).plane.0).surface (ltb (leg_at I x).sched.0 I.parts.from.0) (is_frozen I x) movable) in
    omega (arith, inside, now))

row_so : (I : Situation) (x : ℕ) → frozen_at I x ≡ None → due I x ≡ (if fixed I x then Some (ordered_row I x) else None)
unfolding due
row_so I x none = rw none refl

-- ---- spans and hours

out_so : (I : Situation) (p : ℕ) → landed I p ≡ 0 → spans I p ≡ filter_map (span_after 0) (ordered_spans I p)
unfolding spans
out_so I p none = rw none refl

no_floor : (caps : HourCap → ℕ) (n : ℕ) (cap : Option HourCap) → n ≡ 0 → option_map (λ c. max (caps c) n) cap ≡ option_map caps cap
no_floor caps n None none = refl
no_floor caps n (Some cap) none = ap (λ (k : ℕ). let some : Option ℕ = Some k in some) (omega (arith, none))

departures_so : (I : Situation) (a h : ℕ) → frozen_departures I a h ≡ 0 → dep_cap I a h ≡ option_map (λ cap. cap.deps) (hour_cap I a h)
unfolding dep_cap
departures_so I a h none = no_floor (λ cap. cap.deps) (frozen_departures I a h) (hour_cap I a h) none

arrivals_so : (I : Situation) (a h : ℕ) → frozen_arrivals I a h ≡ 0 → arr_cap I a h ≡ option_map (λ cap. cap.arrs) (hour_cap I a h)
unfolding arr_cap
arrivals_so I a h none = no_floor (λ cap. cap.arrs) (frozen_arrivals I a h) (hour_cap I a h) none

-- ---- passengers

part_le : (b : Bool) (n : ℕ) → (if b then n else 0) ≤ n
part_le true n = omega arith
part_le false n = omega arith

carried-le : (frozen : List (Option Row)) (groups : List Group) (legs : List (Leg × Cabin)) → carried_gone frozen groups legs ≤ sum_by (λ (group : Group). group.count) groups
carried-le frozen [] legs = omega arith
carried-le frozen (group ∷ groups) legs =
    let here : Group → ℕ = λ (group : Group). if is_carried group.path && same_path (gone_in frozen group.path) legs then group.count else 0 in
    omega (arith, sum_by-cons here group groups, sum_by-cons (λ (group : Group). group.count) group groups, carried-le frozen groups legs, part_le (is_carried group.path && same_path (gone_in frozen group.path) legs) group.count)

and_true : (a b : Bool) → b ≡ true → (a && b) ≡ a
and_true true b is = is
and_true false b is = refl

room_so : (I : Situation) (r : ℕ) (groups : List Group) (path : List (Leg × Cabin)) → tallied I r (gone I path) ≡ (res_at I r).count → 1 ≤ (res_at I r).count → sum_by (λ group. group.count) groups ≤ (res_at I r).count → has_room_behind I r groups path ≡ true
room_so I r groups path all some few =
    rw (all, le-leb 1 (res_at I r).count some) (le-leb (carried_gone I.progress.frozen groups (gone I path)) (res_at I r).count (omega (arith, carried-le I.progress.frozen groups (gone I path), few)))

bound_so : (I : Situation) (r : ℕ) (groups : List Group) (path : List (Leg × Cabin)) → has_room_behind I r groups path ≡ true → bound I r groups path ≡ begins_as_begun I r path
unfolding bound
bound_so I r groups path is = and_true (begins_as_begun I r path) (has_room_behind I r groups path) is

-- all of a reservation's passengers have flown nothing
tallied_so : (I : Situation) (r : ℕ) (path : List (Leg × Cabin)) → I.progress ≡ first_progress I.parts → r < reservations_of I → tallied I r (gone I path) ≡ (res_at I r).count
unfolding first_progress
tallied_so I r path fresh within =
    rw (fresh, nothing_gone (legs_of I) path, get_or-map all_waiting I.parts.res r no_res [] within) refl

pub as_ordered : (I : Situation) → IsValid I → I.progress ≡ first_progress I.parts → IsAsOrdered I
unfolding first_progress
as_ordered I valid fresh =
    let none : (x : ℕ) → frozen_at I x ≡ None = λ x. rw fresh (none_frozen (legs_of I) x) in
    record {
      departs = λ x. departs_so I x (rw fresh refl);
      is_fixed = λ x. fixed_so I x (none x);
      row = λ x. row_so I x (none x);
      out = λ p. out_so I p (rw fresh (lands_none p I.parts.legs (legs_of I)));
      departures = λ a h. departures_so I a h (rw fresh (count_none (departs_by I a h) I.parts.legs (legs_of I)));
      arrivals = λ a h. arrivals_so I a h (rw fresh (count_none (arrives_by I a h) I.parts.legs (legs_of I)));
      paths = λ r groups path within few. bound_so I r groups path (room_so I r groups path (tallied_so I r path fresh within) (valid.parts.res r no_res within).some few);
    }
