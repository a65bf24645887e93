-- The units near a plan are those of six families.
use Rattle.std.proofs.Common.{◌≡◌, ℕ, inl, inr, false, ◌&&◌, not, ◌++◌, map, refl, sym, ap, subst}
use Rattle.std.specs.Prelude.{filter}
use Rattle.std.specs.List.{Contains}
use Rattle.std.proofs.lemmas.Bool.{and_parts, and_from, not-true}
use Rattle.std.proofs.lemmas.List.Elements.{Contains-append_left, Contains-append_right, Contains-append_cases}
use Rattle.desk_data.specs.declared.row.Row.{Row}
use Rattle.desk_data.specs.declared.row.Row.TheVariants.{Flown, Cancelled}
use Rattle.desk_data.specs.declared.row.Group.{Group}
use Rattle.desk_data.specs.Situation.{Situation, legs_of, reservations_of, leg_at, fixed, called_off}
use Rattle.desk_data.specs.PlanRows.{PlanRows, row_at, groups_at}
use Rattle.desk_rules.specs.Numbers.{numbers}
use Rattle.desk_rules.specs.Passengers.{is_flown}
use Rattle.near_moves.specs.MoveParts.{is_movable_flown, is_restorable, family_of}
use Rattle.near_moves.specs.Units.{MoveUnit, retimed, dropped, restored, rebooked}
use Rattle.near_moves.specs.LegMoves.{retimed_units, swapped_units, dropped_units, restored_units, handed_units}
use Rattle.near_moves.specs.PassengerMoves.{rebooked_units}
use Rattle.near_moves.specs.Near.{leg_units, units}
use Rattle.near_moves.specs.NeighbourhoodWords.{IsMovableLeg, MayFlyAgain, HasPassengers, IsUnit, retimes, swaps, drops, restores, hands, rebooks}
use Rattle.near_moves.proofs.ListLaws.{contains_filter, filter_contains, contains_map, map_contains, contains_flat_map, flat_map_contains, numbers_each, numbers_within}
use Rattle.near_moves.proofs.UnitLaws.{family-holds, family-each, swaps-hold, swaps-each, hands-hold, hands-each, row_flown}

-- ---- movable legs that are flown

movable-holds : (I : Situation) (P : PlanRows) (x : ℕ) → Contains (filter (is_movable_flown I P) (numbers (legs_of I))) x → IsMovableLeg I P x
movable-holds I P x has =
    let own = filter_contains (is_movable_flown I P) (numbers (legs_of I)) x has in
    let tests = and_parts (not (fixed I x)) (is_flown (row_at P x)) own.1 in
    let row = row_flown (row_at P x) tests.1 in
    record { within = numbers_within (legs_of I) x own.0; movable = not-true (fixed I x) tests.0; plane = row.plane; dep = row.dep; flown = row.is }

movable-each : (I : Situation) (P : PlanRows) (x : ℕ) → IsMovableLeg I P x → Contains (filter (is_movable_flown I P) (numbers (legs_of I))) x
movable-each I P x is =
    contains_filter (is_movable_flown I P) (numbers (legs_of I)) x (numbers_each (legs_of I) x is.within)
    (and_from (not (fixed I x)) (is_flown (row_at P x)) (ap not is.movable) (ap is_flown is.flown))

retimed-holds : (I : Situation) (P : PlanRows) (u : MoveUnit) → Contains (retimed_units I P) u → IsUnit I P u
unfolding retimed_units
retimed-holds I P u has =
    let of_leg = map_contains retimed (filter (is_movable_flown I P) (numbers (legs_of I))) u has in
    retimes of_leg.from (movable-holds I P of_leg.from of_leg.there) (sym of_leg.is)

retimed-each : (I : Situation) (P : PlanRows) (x : ℕ) → IsMovableLeg I P x → Contains (retimed_units I P) (retimed x)
unfolding retimed_units
retimed-each I P x is = contains_map retimed (filter (is_movable_flown I P) (numbers (legs_of I))) x (movable-each I P x is)

dropped-holds : (I : Situation) (P : PlanRows) (u : MoveUnit) → Contains (dropped_units I P) u → IsUnit I P u
unfolding dropped_units
dropped-holds I P u has =
    let of_leg = map_contains dropped (filter (is_movable_flown I P) (numbers (legs_of I))) u has in
    drops of_leg.from (movable-holds I P of_leg.from of_leg.there) (sym of_leg.is)

dropped-each : (I : Situation) (P : PlanRows) (x : ℕ) → IsMovableLeg I P x → Contains (dropped_units I P) (dropped x)
unfolding dropped_units
dropped-each I P x is = contains_map dropped (filter (is_movable_flown I P) (numbers (legs_of I))) x (movable-each I P x is)

-- ---- legs that may be flown again

pub row_cancelled : (row : Row) → is_flown row ≡ false → row ≡ Cancelled
row_cancelled (Flown plane dep) h = absurd cc
row_cancelled Cancelled h = refl

restored-holds : (I : Situation) (P : PlanRows) (u : MoveUnit) → Contains (restored_units I P) u → IsUnit I P u
unfolding restored_units
restored-holds I P u has =
    let of_leg = flat_map_contains (λ x. map (restored x) (family_of I (leg_at I x).plane.0)) (filter (is_restorable I P) (numbers (legs_of I))) u has in
    let x = of_leg.from in
    let own = filter_contains (is_restorable I P) (numbers (legs_of I)) x of_leg.there in
    let outer = and_parts (not (fixed I x)) (not (is_flown (row_at P x)) && not (called_off I x)) own.1 in
    let inner = and_parts (not (is_flown (row_at P x))) (not (called_off I x)) outer.1 in
    let of_plane = map_contains (restored x) (family_of I (leg_at I x).plane.0) u of_leg.is in
    let p = of_plane.from in
    let family = family-holds I (leg_at I x).plane.0 p of_plane.there in
    restores x p (record {
      within = numbers_within (legs_of I) x own.0;
      movable = not-true (fixed I x) outer.0;
      cancelled = row_cancelled (row_at P x) (not-true (is_flown (row_at P x)) inner.0);
      kept = not-true (called_off I x) inner.1;
      planes = family.0;
      family = family.1;
    }) (sym of_plane.is)

restored-each : (I : Situation) (P : PlanRows) (x p : ℕ) → MayFlyAgain I P x p → Contains (restored_units I P) (restored x p)
unfolding restored_units
restored-each I P x p is =
    contains_flat_map (λ y. map (restored y) (family_of I (leg_at I y).plane.0)) (filter (is_restorable I P) (numbers (legs_of I))) x (restored x p)
    (contains_filter (is_restorable I P) (numbers (legs_of I)) x (numbers_each (legs_of I) x is.within)
    (and_from (not (fixed I x)) (not (is_flown (row_at P x)) && not (called_off I x)) (ap not is.movable)
    (and_from (not (is_flown (row_at P x))) (not (called_off I x)) (ap (λ (row : Row). not (is_flown row)) is.cancelled) (ap not is.kept))))
    (contains_map (restored x) (family_of I (leg_at I x).plane.0) p (family-each I (leg_at I x).plane.0 p is.planes is.family))

-- ---- paths that have passengers

rebooked-holds : (I : Situation) (P : PlanRows) (u : MoveUnit) → Contains (rebooked_units I P) u → IsUnit I P u
unfolding rebooked_units
rebooked-holds I P u has =
    let of_res = flat_map_contains (λ r. map (λ (group : Group). rebooked r group.path) (groups_at P r)) (numbers (reservations_of I)) u has in
    let r = of_res.from in
    let of_group = map_contains (λ (group : Group). rebooked r group.path) (groups_at P r) u of_res.is in
    let group = of_group.from in
    rebooks r group.path (record { within = numbers_within (reservations_of I) r of_res.there; group = group; there = of_group.there; on = refl }) (sym of_group.is)

rebooked-each : (I : Situation) (P : PlanRows) (r : ℕ) (path : _) → HasPassengers I P r path → Contains (rebooked_units I P) (rebooked r path)
unfolding rebooked_units
rebooked-each I P r path is =
    contains_flat_map (λ s. map (λ (group : Group). rebooked s group.path) (groups_at P s)) (numbers (reservations_of I)) r (rebooked r path)
    (numbers_each (reservations_of I) r is.within)
    (subst (λ q. Contains (map (λ (group : Group). rebooked r group.path) (groups_at P r)) (rebooked r q)) is.on
    (contains_map (λ (group : Group). rebooked r group.path) (groups_at P r) is.group is.there))

-- ---- all of them

legs-hold : (I : Situation) (P : PlanRows) (u : MoveUnit) → Contains (leg_units I P) u → IsUnit I P u
unfolding leg_units
legs-hold I P u has =
    elim (Contains-append_cases (retimed_units I P ++ swapped_units I ++ dropped_units I P ++ restored_units I P) (handed_units I P) u has) [
      | inr here ↦ hands (hands-hold I P u here)
      | inl four ↦ elim (Contains-append_cases (retimed_units I P ++ swapped_units I ++ dropped_units I P) (restored_units I P) u four) [
        | inr here ↦ restored-holds I P u here
        | inl three ↦ elim (Contains-append_cases (retimed_units I P ++ swapped_units I) (dropped_units I P) u three) [
          | inr here ↦ dropped-holds I P u here
          | inl two ↦ elim (Contains-append_cases (retimed_units I P) (swapped_units I) u two) [
            | inr here ↦ swaps (swaps-hold I u here)
            | inl here ↦ retimed-holds I P u here
          ]
        ]
      ]
    ]

pub units-hold : (I : Situation) (P : PlanRows) (u : MoveUnit) → Contains (units I P) u → IsUnit I P u
unfolding units
units-hold I P u has =
    elim (Contains-append_cases (leg_units I P) (rebooked_units I P) u has) [
      | inl of_legs ↦ legs-hold I P u of_legs
      | inr here ↦ rebooked-holds I P u here
    ]

-- what is in one of the first parts of the list is in the list
in-four : (I : Situation) (P : PlanRows) (u : MoveUnit) → Contains (retimed_units I P ++ swapped_units I ++ dropped_units I P ++ restored_units I P) u → Contains (units I P) u
unfolding leg_units units
in-four I P u has =
    Contains-append_left (retimed_units I P ++ swapped_units I ++ dropped_units I P ++ restored_units I P ++ handed_units I P) (rebooked_units I P) u
    (Contains-append_left (retimed_units I P ++ swapped_units I ++ dropped_units I P ++ restored_units I P) (handed_units I P) u has)

in-two : (I : Situation) (P : PlanRows) (u : MoveUnit) → Contains (retimed_units I P ++ swapped_units I) u → Contains (units I P) u
in-two I P u has =
    in-four I P u
    (Contains-append_left (retimed_units I P ++ swapped_units I ++ dropped_units I P) (restored_units I P) u
    (Contains-append_left (retimed_units I P ++ swapped_units I) (dropped_units I P) u has))

pub units-each : (I : Situation) (P : PlanRows) (u : MoveUnit) → IsUnit I P u → Contains (units I P) u
unfolding leg_units units
units-each I P u (retimes x is same) =
    in-two I P u (Contains-append_left (retimed_units I P) (swapped_units I) u (subst (Contains (retimed_units I P)) (sym same) (retimed-each I P x is)))
units-each I P u (swaps is) = in-two I P u (Contains-append_right (retimed_units I P) (swapped_units I) u (swaps-each I u is))
units-each I P u (drops x is same) =
    in-four I P u
    (Contains-append_left (retimed_units I P ++ swapped_units I ++ dropped_units I P) (restored_units I P) u
    (Contains-append_right (retimed_units I P ++ swapped_units I) (dropped_units I P) u (subst (Contains (dropped_units I P)) (sym same) (dropped-each I P x is))))
units-each I P u (restores x p is same) =
    in-four I P u
    (Contains-append_right (retimed_units I P ++ swapped_units I ++ dropped_units I P) (restored_units I P) u (subst (Contains (restored_units I P)) (sym same) (restored-each I P x p is)))
units-each I P u (hands is) =
    Contains-append_left (leg_units I P) (rebooked_units I P) u
    (Contains-append_right (retimed_units I P ++ swapped_units I ++ dropped_units I P ++ restored_units I P) (handed_units I P) u (hands-each I P u is))
units-each I P u (rebooks r path is same) =
    Contains-append_right (leg_units I P) (rebooked_units I P) u (subst (Contains (rebooked_units I P)) (sym same) (rebooked-each I P r path is))
