-- The moments from which on two aircraft exchange their legs.
use Rattle.std.proofs.Common.{◌≡◌, ℕ, ◌<◌, ◌⊎◌, inl, inr, true, ◌&&◌, ◌||◌, not, eqb, refl, sym, ap, subst}
use Rattle.std.specs.List.{AllPairs, Contains}
use Rattle.std.proofs.lemmas.Bool.{and_parts, and_from, eq-eqb, eqb-true, not-true}
use Rattle.std.proofs.lemmas.List.Kept.{AllPairs-filter}
use Rattle.desk_data.specs.Situation.{Situation, legs_of, planes_of, fixed}
use Rattle.desk_data.specs.PlanRows.{PlanRows}
use Rattle.desk_data.specs.Valid.{IsRowOf, IsPlanFor}
use Rattle.desk_rules.specs.Numbers.{numbers}
use Rattle.desk_rules.specs.Rotations.{dep}
use Rattle.desk_rules.specs.Maintenance.{flies}
use Rattle.desk_rules.specs.Words.{Flies}
use Rattle.desk_rules.proofs.MaintenanceLaws.{flies-holds, flies-from, dep-is}
use Rattle.near_moves.specs.LegMoves.{departs_at, departures_end, exchange_moments}
use Rattle.near_moves.specs.Words.{DepartsOneAt}
use Rattle.near_moves.proofs.ListLaws.{contains_filter, filter_contains, any_holds, any_from, numbers_each, numbers_within, numbers_ordered}
use Rattle.near_moves.proofs.FromLaws.{or_cases, or_left, or_right}
use Rattle.desk_model.proofs.ValidLaws.{row_of_plan}

pub departures_end-is : departures_end ≡ 52500000
unfolding departures_end
departures_end-is = refl

-- the aircraft and the departure of a leg that is flown are in range
pub flown_in_range : (I : Situation) (P : PlanRows) (x p d : ℕ) → x < legs_of I → IsPlanFor I P → Flies P x p d → (p < planes_of I) × (d < 52500000)
flown_in_range I P x p d within plan flown = subst (IsRowOf (planes_of I)) flown (row_of_plan I P x within plan)

departs-one : (I : Situation) (P : PlanRows) (p q t x : ℕ) → x < legs_of I → (not (fixed I x) && ((flies P p x || flies P q x) && (eqb (dep P x) t))) ≡ true → DepartsOneAt I P p q t
departs-one I P p q t x within h =
    let outer = and_parts (not (fixed I x)) ((flies P p x || flies P q x) && (eqb (dep P x) t)) h in
    let inner = and_parts (flies P p x || flies P q x) (eqb (dep P x) t) outer.1 in
    let at : dep P x ≡ t = eqb-true (dep P x) t inner.1 in
    record {
      leg = x;
      within = within;
      movable = not-true (fixed I x) outer.0;
      flown = elim (or_cases (flies P p x) (flies P q x) inner.0) as (λ o. Flies P x p t ⊎ Flies P x q t) [
        | inl first ↦ inl (subst (λ (d : ℕ). Flies P x p d) at (flies-holds P p x first))
        | inr second ↦ inr (subst (λ (d : ℕ). Flies P x q d) at (flies-holds P q x second))
      ];
    }

pub departs_at-holds : (I : Situation) (P : PlanRows) (p q t : ℕ) → departs_at I P p q t ≡ true → DepartsOneAt I P p q t
departs_at-holds I P p q t h =
    let some = any_holds (λ x. not (fixed I x) && ((flies P p x || flies P q x) && (eqb (dep P x) t))) (numbers (legs_of I)) h in
    departs-one I P p q t some.from (numbers_within (legs_of I) some.from some.there) some.is

flown-dep : (P : PlanRows) (x p q t : ℕ) → Flies P x p t ⊎ Flies P x q t → ((flies P p x || flies P q x) && (eqb (dep P x) t)) ≡ true
flown-dep P x p q t (inl first) =
    and_from (flies P p x || flies P q x) (eqb (dep P x) t) (or_left (flies P p x) (flies P q x) (flies-from P p x t first)) (eq-eqb (dep P x) t (dep-is P p x t first))
flown-dep P x p q t (inr second) =
    and_from (flies P p x || flies P q x) (eqb (dep P x) t) (or_right (flies P p x) (flies P q x) (flies-from P q x t second)) (eq-eqb (dep P x) t (dep-is P q x t second))

pub departs_at-from : (I : Situation) (P : PlanRows) (p q t : ℕ) → DepartsOneAt I P p q t → departs_at I P p q t ≡ true
departs_at-from I P p q t is =
    any_from (λ x. not (fixed I x) && ((flies P p x || flies P q x) && (eqb (dep P x) t))) (numbers (legs_of I)) is.leg (numbers_each (legs_of I) is.leg is.within)
    (and_from (not (fixed I is.leg)) ((flies P p is.leg || flies P q is.leg) && (eqb (dep P is.leg) t)) (ap not is.movable) (flown-dep P is.leg p q t is.flown))

flown-before : (I : Situation) (P : PlanRows) (x p q t : ℕ) → x < legs_of I → IsPlanFor I P → Flies P x p t ⊎ Flies P x q t → t < 52500000
flown-before I P x p q t within plan (inl first) = (flown_in_range I P x p t within plan first).1
flown-before I P x p q t within plan (inr second) = (flown_in_range I P x q t within plan second).1

pub moments-hold : (I : Situation) (P : PlanRows) (p q t : ℕ) → Contains (exchange_moments I P p q) t → DepartsOneAt I P p q t
unfolding exchange_moments
moments-hold I P p q t has = departs_at-holds I P p q t (filter_contains (departs_at I P p q) (numbers departures_end) t has).1

pub moments-each : (I : Situation) (P : PlanRows) (p q t : ℕ) → IsPlanFor I P → DepartsOneAt I P p q t → Contains (exchange_moments I P p q) t
unfolding exchange_moments
moments-each I P p q t plan is =
    let before : t < departures_end = subst (λ (n : ℕ). t < n) (sym departures_end-is) (flown-before I P is.leg p q t is.within plan is.flown) in
    contains_filter (departs_at I P p q) (numbers departures_end) t (numbers_each departures_end t before) (departs_at-from I P p q t is)

pub moments-ordered : (I : Situation) (P : PlanRows) (p q : ℕ) → AllPairs (λ s t. s < t) (exchange_moments I P p q)
unfolding exchange_moments
moments-ordered I P p q = AllPairs-filter (λ s t. s < t) (departs_at I P p q) (numbers departures_end) (numbers_ordered departures_end)
