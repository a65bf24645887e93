-- What Push counts beside a leg.
use Rattle.std.proofs.Common.{◌≡◌, ℕ, ◌+◌, true, false, ◌&&◌, not, eqb, refl, sym, ap, subst}
use Rattle.std.proofs.lemmas.Bool.{true≢false, and_parts, and_from, not-true, not_from_false, eqb-true, eqb-false, eq-eqb, ne_eqb}
use Rattle.desk_data.specs.declared.row.Row.{Row}
use Rattle.desk_data.specs.declared.row.Row.TheVariants.{Flown, Cancelled}
use Rattle.desk_data.specs.Situation.{Situation, leg_at, plane_at}
use Rattle.desk_data.specs.PlanRows.{PlanRows, row_at}
use Rattle.desk_rules.specs.Rotations.{departure, dep, arr}
use Rattle.desk_rules.specs.Slots.{hour_of}
use Rattle.desk_rules.specs.Passengers.{is_flown}
use Rattle.desk_rules.specs.Words.{Flies}
use Rattle.desk_rules.proofs.SlotLaws.{hour-holds, hour-from}
use Rattle.desk_model.specs.Push.{is_beside, departs_beside, arrives_beside, DepartsBeside, ArrivesBeside}

-- the aircraft that flies a row
record FlownBy (row : Row) : Type 0 where
  plane : ℕ
  flown : row ≡ Flown (record { 0 = plane }) (record { 0 = departure row })

is_flown-holds : (row : Row) → is_flown row ≡ true → FlownBy row
is_flown-holds (Flown plane dep) h = record { plane = plane.0; flown = refl }
is_flown-holds Cancelled h = absurd (true≢false (sym h))

-- another leg that is flown, and no surface transport
record Beside (I : Situation) (Q : PlanRows) (x y : ℕ) : Type 0 where
  other : y ≡ x → ⊥
  air : (plane_at I (leg_at I y).plane.0).surface ≡ false
  by : FlownBy (row_at Q y)

beside-holds : (I : Situation) (Q : PlanRows) (x y : ℕ) → is_beside I Q x y ≡ true → Beside I Q x y
beside-holds I Q x y is =
    let surface = (plane_at I (leg_at I y).plane.0).surface in
    let outer = and_parts (not (eqb y x) && is_flown (row_at Q y)) (not surface) is in
    let inner = and_parts (not (eqb y x)) (is_flown (row_at Q y)) outer.0 in
    record { other = eqb-false y x (not-true (eqb y x) inner.0); air = not-true surface outer.1; by = is_flown-holds (row_at Q y) inner.1 }

beside-from : (I : Situation) (Q : PlanRows) (x y p d : ℕ) → (y ≡ x → ⊥) → (plane_at I (leg_at I y).plane.0).surface ≡ false → Flies Q y p d → is_beside I Q x y ≡ true
beside-from I Q x y p d other air flown =
    let surface = (plane_at I (leg_at I y).plane.0).surface in
    and_from (not (eqb y x) && is_flown (row_at Q y)) (not surface)
    (and_from (not (eqb y x)) (is_flown (row_at Q y)) (not_from_false (eqb y x) (ne_eqb y x other)) (ap is_flown flown))
    (not_from_false surface air)

pub departs_beside-holds : (I : Situation) (Q : PlanRows) (x a h y : ℕ) → departs_beside I Q x a h y ≡ true → DepartsBeside I Q x a h y
departs_beside-holds I Q x a h y is =
    let outer = and_parts (is_beside I Q x y && eqb (leg_at I y).origin.0 a) (eqb (hour_of (dep Q y)) h) is in
    let inner = and_parts (is_beside I Q x y) (eqb (leg_at I y).origin.0 a) outer.0 in
    let beside = beside-holds I Q x y inner.0 in
    let within = hour-holds (dep Q y) h (eqb-true (hour_of (dep Q y)) h outer.1) in
    record { other = beside.other; air = beside.air; plane = beside.by.plane; dep = dep Q y; flown = beside.by.flown; airport = eqb-true (leg_at I y).origin.0 a inner.1; from = within.0; to = within.1 }

pub departs_beside-from : (I : Situation) (Q : PlanRows) (x a h y : ℕ) → DepartsBeside I Q x a h y → departs_beside I Q x a h y ≡ true
departs_beside-from I Q x a h y is =
    let same : dep Q y ≡ is.dep = ap departure is.flown in
    let hour : hour_of (dep Q y) ≡ h = subst (λ (d : ℕ). hour_of d ≡ h) (sym same) (hour-from is.dep h is.from is.to) in
    and_from (is_beside I Q x y && eqb (leg_at I y).origin.0 a) (eqb (hour_of (dep Q y)) h)
    (and_from (is_beside I Q x y) (eqb (leg_at I y).origin.0 a) (beside-from I Q x y is.plane is.dep is.other is.air is.flown) (eq-eqb (leg_at I y).origin.0 a is.airport))
    (eq-eqb (hour_of (dep Q y)) h hour)

pub arrives_beside-holds : (I : Situation) (Q : PlanRows) (x a h y : ℕ) → arrives_beside I Q x a h y ≡ true → ArrivesBeside I Q x a h y
arrives_beside-holds I Q x a h y is =
    let outer = and_parts (is_beside I Q x y && eqb (leg_at I y).dest.0 a) (eqb (hour_of (arr I Q y)) h) is in
    let inner = and_parts (is_beside I Q x y) (eqb (leg_at I y).dest.0 a) outer.0 in
    let beside = beside-holds I Q x y inner.0 in
    let within = hour-holds (arr I Q y) h (eqb-true (hour_of (arr I Q y)) h outer.1) in
    record { other = beside.other; air = beside.air; plane = beside.by.plane; dep = dep Q y; flown = beside.by.flown; airport = eqb-true (leg_at I y).dest.0 a inner.1; from = within.0; to = within.1 }

pub arrives_beside-from : (I : Situation) (Q : PlanRows) (x a h y : ℕ) → ArrivesBeside I Q x a h y → arrives_beside I Q x a h y ≡ true
arrives_beside-from I Q x a h y is =
    let same : dep Q y ≡ is.dep = ap departure is.flown in
    let hour : hour_of (arr I Q y) ≡ h = subst (λ (d : ℕ). hour_of (d + (leg_at I y).block) ≡ h) (sym same) (hour-from (is.dep + (leg_at I y).block) h is.from is.to) in
    and_from (is_beside I Q x y && eqb (leg_at I y).dest.0 a) (eqb (hour_of (arr I Q y)) h)
    (and_from (is_beside I Q x y) (eqb (leg_at I y).dest.0 a) (beside-from I Q x y is.plane is.dep is.other is.air is.flown) (eq-eqb (leg_at I y).dest.0 a is.airport))
    (eq-eqb (hour_of (arr I Q y)) h hour)
