-- The rules of an airport's hours: C10 and C11.
use Rattle.std.proofs.Common.{◌≡◌, ℕ, ◌+◌, ◌*◌, ◌<◌, ◌≤◌, true, false, ◌&&◌, eqb, leb, refl, sym, ap, subst, arith}
use Rattle.std.specs.Prelude.{Option, None, Some}
use Rattle.std.proofs.lemmas.Bool.{and_parts, and_from, not-true, not_from_false, true≢false, eqb-true, eq-eqb, leb-true, le-leb}
use Rattle.desk_data.specs.declared.row.Row.{Row}
use Rattle.desk_data.specs.declared.row.Row.TheVariants.{Flown, Cancelled}
use Rattle.desk_data.specs.Situation.{Situation, leg_at, plane_at}
use Rattle.desk_data.specs.Hours.{dep_cap, arr_cap}
use Rattle.desk_data.specs.PlanRows.{PlanRows, row_at}
use Rattle.desk_rules.specs.Rotations.{departure, dep, arr}
use Rattle.desk_rules.specs.Slots.{is_in_the_air, hour_of, departs_in, arrives_in, departures, arrivals, is_within, keeps_c10, keeps_c11}
use Rattle.desk_rules.specs.Words.{Flies, DepartsIn, ArrivesIn, MeetsC10, MeetsC11}

-- ---- hours

-- a moment is in its hour, and in no other
pub hour-holds : (at h : ℕ) → hour_of at ≡ h → (60 * h ≤ at) × (at < 60 * h + 60)
hour-holds at h is = (omega arith, omega arith)

pub hour-from : (at h : ℕ) → 60 * h ≤ at → at < 60 * h + 60 → hour_of at ≡ h
hour-from at h from to = omega arith

-- what a row flies in the air
pub record IsFlying (I : Situation) (row : Row) : Type 0 where
  pub plane : ℕ
  pub flown : row ≡ Flown (record { 0 = plane }) (record { 0 = departure row })
  pub air : (plane_at I plane).surface ≡ false

is_in_the_air-holds : (I : Situation) (row : Row) → is_in_the_air I row ≡ true → IsFlying I row
is_in_the_air-holds I (Flown plane dep) h = record { plane = plane.0; flown = refl; air = not-true (plane_at I plane.0).surface h }
is_in_the_air-holds I Cancelled h = absurd (true≢false (sym h))

is_in_the_air-from : (I : Situation) (P : PlanRows) (x p d : ℕ) → Flies P x p d → (plane_at I p).surface ≡ false → is_in_the_air I (row_at P x) ≡ true
is_in_the_air-from I P x p d flown air = rw flown (not_from_false (plane_at I p).surface air)

pub departs_in-holds : (I : Situation) (P : PlanRows) (a h x : ℕ) → departs_in I P a h x ≡ true → DepartsIn I P a h x
departs_in-holds I P a h x is =
    let there = (eqb (leg_at I x).origin.0 a && eqb (hour_of (dep P x)) h) in
    let outer = and_parts (is_in_the_air I (row_at P x)) there is in
    let inner = and_parts (eqb (leg_at I x).origin.0 a) (eqb (hour_of (dep P x)) h) outer.1 in
    let flying = is_in_the_air-holds I (row_at P x) outer.0 in
    let within = hour-holds (dep P x) h (eqb-true (hour_of (dep P x)) h inner.1) in
    record {
      plane = flying.plane;
      dep = dep P x;
      flown = flying.flown;
      air = flying.air;
      airport = eqb-true (leg_at I x).origin.0 a inner.0;
      from = within.0;
      to = within.1;
    }

pub departs_in-from : (I : Situation) (P : PlanRows) (a h x : ℕ) → DepartsIn I P a h x → departs_in I P a h x ≡ true
departs_in-from I P a h x is =
    let same : dep P x ≡ is.dep = ap departure is.flown in
    let hour : hour_of (dep P x) ≡ h = subst (λ (d : ℕ). hour_of d ≡ h) (sym same) (hour-from is.dep h is.from is.to) in
    and_from (is_in_the_air I (row_at P x)) (eqb (leg_at I x).origin.0 a && eqb (hour_of (dep P x)) h)
    (is_in_the_air-from I P x is.plane is.dep is.flown is.air)
    (and_from (eqb (leg_at I x).origin.0 a) (eqb (hour_of (dep P x)) h) (eq-eqb (leg_at I x).origin.0 a is.airport) (eq-eqb (hour_of (dep P x)) h hour))

pub arrives_in-holds : (I : Situation) (P : PlanRows) (a h x : ℕ) → arrives_in I P a h x ≡ true → ArrivesIn I P a h x
arrives_in-holds I P a h x is =
    let there = (eqb (leg_at I x).dest.0 a && eqb (hour_of (arr I P x)) h) in
    let outer = and_parts (is_in_the_air I (row_at P x)) there is in
    let inner = and_parts (eqb (leg_at I x).dest.0 a) (eqb (hour_of (arr I P x)) h) outer.1 in
    let flying = is_in_the_air-holds I (row_at P x) outer.0 in
    let within = hour-holds (arr I P x) h (eqb-true (hour_of (arr I P x)) h inner.1) in
    record {
      plane = flying.plane;
      dep = dep P x;
      flown = flying.flown;
      air = flying.air;
      airport = eqb-true (leg_at I x).dest.0 a inner.0;
      from = within.0;
      to = within.1;
    }

pub arrives_in-from : (I : Situation) (P : PlanRows) (a h x : ℕ) → ArrivesIn I P a h x → arrives_in I P a h x ≡ true
arrives_in-from I P a h x is =
    let same : dep P x ≡ is.dep = ap departure is.flown in
    let hour : hour_of (arr I P x) ≡ h = subst (λ (d : ℕ). hour_of (d + (leg_at I x).block) ≡ h) (sym same) (hour-from (is.dep + (leg_at I x).block) h is.from is.to) in
    and_from (is_in_the_air I (row_at P x)) (eqb (leg_at I x).dest.0 a && eqb (hour_of (arr I P x)) h)
    (is_in_the_air-from I P x is.plane is.dep is.flown is.air)
    (and_from (eqb (leg_at I x).dest.0 a) (eqb (hour_of (arr I P x)) h) (eq-eqb (leg_at I x).dest.0 a is.airport) (eq-eqb (hour_of (arr I P x)) h hour))

-- ---- caps

pub is_within-holds : (count : ℕ) (limit : Option ℕ) (cap : ℕ) → is_within count limit ≡ true → limit ≡ Some cap → count ≤ cap
is_within-holds count None cap h is = absurd cc
is_within-holds count (Some other) cap h is = let same : other ≡ cap = cc in leb-true count cap (subst (λ (k : ℕ). leb count k ≡ true) same h)

pub is_within-from : (count : ℕ) (limit : Option ℕ) → ((cap : ℕ) → limit ≡ Some cap → count ≤ cap) → is_within count limit ≡ true
is_within-from count None h = refl
is_within-from count (Some cap) h = le-leb count cap (h cap refl)

pub keeps_c10-holds : (I : Situation) (P : PlanRows) (a h : ℕ) → keeps_c10 I P a h ≡ true → MeetsC10 I P a h
unfolding keeps_c10
keeps_c10-holds I P a h within cap is = is_within-holds (departures I P a h) (dep_cap I a h) cap within is

pub keeps_c10-from : (I : Situation) (P : PlanRows) (a h : ℕ) → MeetsC10 I P a h → keeps_c10 I P a h ≡ true
unfolding keeps_c10
keeps_c10-from I P a h met = is_within-from (departures I P a h) (dep_cap I a h) met

pub keeps_c11-holds : (I : Situation) (P : PlanRows) (a h : ℕ) → keeps_c11 I P a h ≡ true → MeetsC11 I P a h
unfolding keeps_c11
keeps_c11-holds I P a h within cap is = is_within-holds (arrivals I P a h) (arr_cap I a h) cap within is

pub keeps_c11-from : (I : Situation) (P : PlanRows) (a h : ℕ) → MeetsC11 I P a h → keeps_c11 I P a h ≡ true
unfolding keeps_c11
keeps_c11-from I P a h met = is_within-from (arrivals I P a h) (arr_cap I a h) met
