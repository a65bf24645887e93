-- Push: legs of an aircraft are placed anew, one by one, each at the first moment at which it can depart.
-- P is the plan at the step's start, and Q the plan as it stands when a leg is placed.
use Rattle.std.specs.Prelude.{◌≡◌, ℕ, ◌+◌, ◌*◌, ◌<◌, ◌≤◌, ◌⊎◌, max, Bool, true, false, ◌&&◌, not, nat_lt, ◌==◌, Option, Some, None, List, [], ◌∷◌, ◌++◌, filter, find, fold, count_by, All, Contains}
use Rattle.std.specs.List.{list_any}
use Rattle.desk_units.specs.declared.numbers.Leg.{Leg}
use Rattle.desk_data.specs.declared.row.Row.TheVariants.{Flown}
use Rattle.desk_data.specs.declared.info.Maint.{Maint}
use Rattle.desk_data.specs.Situation.{Situation, legs_of, leg_at, plane_at, fixed, earliest, latest, spans}
use Rattle.desk_data.specs.Hours.{dep_cap, arr_cap}
use Rattle.desk_data.specs.PlanRows.{PlanRows, row_at, with_row}
use Rattle.desk_rules.specs.Numbers.{numbers}
use Rattle.desk_rules.specs.Rotations.{dep, arr, precedes, follows, ground_time}
use Rattle.desk_rules.specs.Rules.{meets_span}
use Rattle.desk_rules.specs.Maintenance.{flies}
use Rattle.desk_rules.specs.Slots.{hour_of}
use Rattle.desk_rules.specs.Passengers.{is_flown}
use Rattle.desk_rules.specs.Words.{Flies, Precedes, Follows, MeetsSpan}
use Rattle.desk_model.specs.Choices.{first_within}

-- ---- which legs are placed, and in which order

-- some legs with leg x among them, between those that come before it and those that it comes before
abbrev pub with_leg : PlanRows → List ℕ → ℕ → List ℕ
with_leg P legs x = filter (λ y. precedes P y x) legs ++ x ∷ filter (λ y. precedes P x y) legs

-- the legs of aircraft p in their order
unfoldable pub rotation : Situation → PlanRows → ℕ → List ℕ
rotation I P p = fold (with_leg P) [] (filter (flies P p) (numbers (legs_of I)))

-- whether leg x comes after the leg `after` on its aircraft; where none is named, each leg does
abbrev pub comes_after : PlanRows → Option Leg → ℕ → Bool
comes_after P None x = true
comes_after P (Some leg) x = precedes P leg.0 x

-- the legs that are placed: the movable legs of aircraft p after the leg `after`, in their order. None is after a leg that the aircraft does not fly
unfoldable pub pushed_legs : Situation → PlanRows → ℕ → Option Leg → List ℕ
pushed_legs I P p after = filter (λ x. not (fixed I x) && comes_after P after x) (rotation I P p)

-- ---- from when on

-- the leg before leg x on its aircraft
abbrev pub leg_before : Situation → PlanRows → ℕ → Option ℕ
leg_before I P x = find (λ w. follows I P w x) (numbers (legs_of I))

-- when aircraft p is ready for leg x: once the leg before it has arrived and the ground time is over; from the start where there is none
abbrev pub ready_moment : Situation → PlanRows → ℕ → ℕ → Option ℕ → ℕ
ready_moment I Q p x None = 0
ready_moment I Q p x (Some w) = arr I Q w + ground_time I p w x

-- ---- whether leg x of aircraft p can depart at moment t

-- whether a leg from one moment to another meets a maintenance
abbrev pub meets_maintenance : ℕ → ℕ → Option Maint → Bool
meets_maintenance departs arrives None = false
meets_maintenance departs arrives (Some maint) = meets_span departs arrives maint.from maint.to

-- the aircraft is in service then, and not at its maintenance
unfoldable pub is_free : Situation → ℕ → ℕ → ℕ → Bool
is_free I p x t =
    let arrives = t + (leg_at I x).block in
    not (list_any (λ span. meets_span t arrives span.0 span.1) (spans I p)) && not (meets_maintenance t arrives (plane_at I p).maint)

-- whether leg y is another leg than x, is flown, and is by its scheduled aircraft no surface transport
abbrev pub is_beside : Situation → PlanRows → ℕ → ℕ → Bool
is_beside I Q x y = not (y == x) && is_flown (row_at Q y) && not (plane_at I (leg_at I y).plane.0).surface

-- whether such a leg departs from airport a in hour h, or arrives there then
abbrev pub departs_beside : Situation → PlanRows → ℕ → ℕ → ℕ → ℕ → Bool
departs_beside I Q x a h y = is_beside I Q x y && ((leg_at I y).origin.0 == a) && (hour_of (dep Q y) == h)

abbrev pub arrives_beside : Situation → PlanRows → ℕ → ℕ → ℕ → ℕ → Bool
arrives_beside I Q x a h y = is_beside I Q x y && ((leg_at I y).dest.0 == a) && (hour_of (arr I Q y) == h)

-- how many do
abbrev pub departures_beside : Situation → PlanRows → ℕ → ℕ → ℕ → ℕ
departures_beside I Q x a h = count_by (departs_beside I Q x a h) (numbers (legs_of I))

abbrev pub arrivals_beside : Situation → PlanRows → ℕ → ℕ → ℕ → ℕ
arrivals_beside I Q x a h = count_by (arrives_beside I Q x a h) (numbers (legs_of I))

-- fewer than the cap; an hour without a cap always has room
abbrev pub is_below : ℕ → Option ℕ → Bool
is_below count None = true
is_below count (Some cap) = nat_lt count cap

-- the leg's origin has room for one more departure in the hour of t, and its destination for one more arrival in the hour in which it arrives
unfoldable pub has_slots : Situation → PlanRows → ℕ → ℕ → Bool
has_slots I Q x t =
    let leg = leg_at I x in
    let leaves = hour_of t in
    let lands = hour_of (t + leg.block) in
    is_below (departures_beside I Q x leg.origin.0 leaves) (dep_cap I leg.origin.0 leaves)
    && is_below (arrivals_beside I Q x leg.dest.0 lands) (arr_cap I leg.dest.0 lands)

-- whether the leg can depart then: both
abbrev pub can_depart : Situation → PlanRows → ℕ → ℕ → ℕ → Bool
can_depart I Q p x t = is_free I p x t && has_slots I Q x t

-- ---- the step

-- the first moment at which leg x can depart: not before the aircraft is ready nor before its earliest departure, and not after its latest
unfoldable pub first_departure : Situation → PlanRows → PlanRows → ℕ → ℕ → Option ℕ
first_departure I P Q p x = first_within (max (ready_moment I Q p x (leg_before I P x)) (earliest I x)) (latest I x) (can_depart I Q p x)

-- the plan with leg x departing at a moment; where there is none its row stays
abbrev pub with_departure : PlanRows → ℕ → ℕ → Option ℕ → PlanRows
with_departure Q p x None = Q
with_departure Q p x (Some t) = with_row Q x (Flown (record { 0 = p }) (record { 0 = t }))

-- the plan once leg x is placed
abbrev pub after_placing : Situation → PlanRows → ℕ → PlanRows → ℕ → PlanRows
after_placing I P p Q x = with_departure Q p x (first_departure I P Q p x)

-- Push: the legs are placed one after another, each in the plan as the legs before it left it
unfoldable pub after_push : Situation → PlanRows → ℕ → Option Leg → PlanRows
after_push I P p after = fold (after_placing I P p) P (pushed_legs I P p after)

-- ---- the step in words

-- leg y, another leg than x and by its scheduled aircraft no surface transport, departs from airport a in hour h
pub record DepartsBeside (I : Situation) (Q : PlanRows) (x a h y : ℕ) : Type 0 where
  pub other : y ≡ x → ⊥
  pub air : (plane_at I (leg_at I y).plane.0).surface ≡ false
  pub plane : ℕ
  pub dep : ℕ
  pub flown : Flies Q y plane dep
  pub airport : (leg_at I y).origin.0 ≡ a
  pub from : 60 * h ≤ dep
  pub to : dep < 60 * h + 60

-- the same of its arrival
pub record ArrivesBeside (I : Situation) (Q : PlanRows) (x a h y : ℕ) : Type 0 where
  pub other : y ≡ x → ⊥
  pub air : (plane_at I (leg_at I y).plane.0).surface ≡ false
  pub plane : ℕ
  pub dep : ℕ
  pub flown : Flies Q y plane dep
  pub airport : (leg_at I y).dest.0 ≡ a
  pub from : 60 * h ≤ dep + (leg_at I y).block
  pub to : dep + (leg_at I y).block < 60 * h + 60

-- leg x is one that is placed: a movable leg of aircraft p after the leg `after`, or any where none is named
pub record IsPushed (I : Situation) (P : PlanRows) (p : ℕ) (after : Option Leg) (x : ℕ) : Type 0 where
  pub leg : x < legs_of I
  pub dep : ℕ
  pub flown : Flies P x p dep
  pub movable : fixed I x ≡ false
  pub is_later : (leg : Leg) → after ≡ Some leg → Precedes P leg.0 x

-- leg x of aircraft p may depart at moment t
pub record MayDepart (I : Situation) (P Q : PlanRows) (p x t : ℕ) : Type 0 where
  -- the leg before it, of those at the step's start, has arrived as it stands now, and the ground time is over
  pub ready : (w : ℕ) → w < legs_of I → Follows I P w x → arr I Q w + ground_time I p w x ≤ t
  -- it is within the leg's own time
  pub earliest : earliest I x ≤ t
  pub latest : t ≤ latest I x
  -- the aircraft is in service, and not at its maintenance
  pub service : All (λ span. MeetsSpan I x t span.0 span.1 → ⊥) (spans I p)
  pub maintenance : (maint : Maint) → (plane_at I p).maint ≡ Some maint → MeetsSpan I x t maint.from maint.to → ⊥
  -- fewer than the cap of other legs depart from its origin in that hour, and arrive at its destination in the hour of its arrival
  pub departures : (cap : ℕ) → dep_cap I (leg_at I x).origin.0 (hour_of t) ≡ Some cap → departures_beside I Q x (leg_at I x).origin.0 (hour_of t) < cap
  pub arrivals : (cap : ℕ) → arr_cap I (leg_at I x).dest.0 (hour_of (t + (leg_at I x).block)) ≡ Some cap → arrivals_beside I Q x (leg_at I x).dest.0 (hour_of (t + (leg_at I x).block)) < cap

-- in plan R leg x departs at a moment at which it may, and it might not at any earlier one
pub record DepartsFirst (I : Situation) (P Q R : PlanRows) (p x : ℕ) : Type 0 where
  pub dep : ℕ
  pub flown : Flies R x p dep
  pub may : MayDepart I P Q p x dep
  pub first : (t : ℕ) → t < dep → MayDepart I P Q p x t → ⊥

-- in plan R leg x has its row of plan P, and there is no moment at which it may depart
pub record KeepsItsRow (I : Situation) (P Q R : PlanRows) (p x : ℕ) : Type 0 where
  pub row : row_at R x ≡ row_at P x
  pub none : (t : ℕ) → MayDepart I P Q p x t → ⊥

-- leg x is placed after the legs `done`: plan P is that at the step's start, and plan R that after it
pub record PlacesLeg (I : Situation) (P R : PlanRows) (p : ℕ) (done : List ℕ) (x : ℕ) : Type 0 where
  -- the plan as it stands then: the legs placed before are where they stay, and all others are where they were
  pub plan : PlanRows
  pub earlier : All (λ y. row_at plan y ≡ row_at R y) done
  pub later : (y : ℕ) → (Contains done y → ⊥) → row_at plan y ≡ row_at P y
  pub groups : plan.groups ≡ P.groups
  pub placed : DepartsFirst I P plan R p x ⊎ KeepsItsRow I P plan R p x
