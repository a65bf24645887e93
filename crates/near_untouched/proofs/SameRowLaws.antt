-- Plans with the same rows: units are the same, and those that refill no leg are untouched where nobody changed on their aircraft.
use Rattle.std.proofs.Common.{◌≡◌, ℕ, ◌<◌, inl, inr, Bool, true, false, ◌||◌, List, [], length, get_or, refl, sym, ap, ◌∙◌}
use Rattle.std.specs.Prelude.{Option, None, Some}
use Rattle.std.specs.List.{list_any}
use Rattle.std.proofs.lemmas.Bool.{true≢false, false_from_ne_true, or_parts}
use Rattle.std.proofs.lemmas.List.Elements.{Contains-get_or}
use Rattle.std.proofs.lemmas.List.Folds.{list_any_none}
use Rattle.desk_units.specs.declared.numbers.Leg.{Leg}
use Rattle.desk_units.specs.declared.numbers.Cabin.{Cabin}
use Rattle.desk_data.specs.Booked.{booked_path}
use Rattle.desk_data.specs.Hours.{dep_cap, arr_cap}
use Rattle.desk_data.specs.declared.info.PositionInfo.{PositionInfo}
use Rattle.desk_data.specs.declared.row.Row.{Row}
use Rattle.desk_data.specs.declared.row.Row.TheVariants.{Cancelled}
use Rattle.desk_data.specs.declared.row.Group.{Group}
use Rattle.desk_data.specs.Situation.{Situation, leg_at, reservations_of}
use Rattle.desk_data.specs.PlanRows.{PlanRows, row_at, groups_at}
use Rattle.desk_rules.specs.Cost.{at_hand}
use Rattle.desk_rules.specs.Maintenance.{flies, is_flown_by}
use Rattle.near_moves.specs.LegMoves.{brings_back}
use Rattle.near_moves.specs.MoveParts.{flier}
use Rattle.near_moves.specs.Units.{MoveUnit, retimed, swapped, dropped, restored, handed, rebooked}
use Rattle.near_moves.proofs.FromLaws.{or_cases}
use Rattle.near_moves.proofs.ListLaws.{any_from}
use Rattle.near_moves.specs.Same.{AgreeOn, FliesSame, FlyUnitSame, is_of}
use Rattle.near_moves.specs.Steps.{BeginsFlown, unit_legs, unit_planes, unit_refills, unit_restores}
use Rattle.near_moves.specs.Room.{HaveSameRoom, IsSameRoom, arrivals_outside, departures_outside}
use Rattle.near_moves.proofs.OwnLaws.{own-flier}
use Rattle.near_untouched.specs.Dearer.{HaveSamePassengers, HaveSamePositions, IsOffLegs, IsSameReservation, is_booked_on}
use Rattle.near_untouched.specs.Planes.{is_on}
use Rattle.near_untouched.specs.UntouchedUnits.{HasSameBacks, IsUntouchedUnit}
use Rattle.near_untouched.specs.Marks.{is_marked}
use Rattle.near_untouched.specs.Carried.{AreCarriedTold, AreCarriersMarked, AreFliersMarked}

same-room : (n before now : ℕ) (cap : Option ℕ) → before ≡ now → IsSameRoom n before now cap
same-room n before now None is = tt
same-room n before now (Some cap) is = inl is

-- by rows alone, whatever the groups
abbrev with_rows : List Row → PlanRows
with_rows rows = record { rows = rows; groups = [] }

module _ (I : Situation) (P Q : PlanRows) (same : P.rows ≡ Q.rows) where
  pub row-of : (x : ℕ) → row_at P x ≡ row_at Q x
  row-of x = ap (λ (rows : List Row). get_or rows x Cancelled) same

  pub flies-all : (p : ℕ) → FliesSame P Q p
  flies-all p x = inl (row-of x)

  pub backs-same : (x y : ℕ) → brings_back I P x y ≡ brings_back I Q x y
  unfolding brings_back
  backs-same x y = ap (λ (rows : List Row). brings_back I (with_rows rows) x y) same

  pub unit-backs : (u : MoveUnit) → HasSameBacks I P Q u
  unit-backs (retimed x) = tt
  unit-backs (swapped p q) = tt
  unit-backs (dropped x) = tt
  unit-backs (restored x p) = backs-same x
  unit-backs (handed x k q) = tt
  unit-backs (rebooked r path) = tt

  pub fly-same : (u : MoveUnit) → BeginsFlown P u → FlyUnitSame I P Q u
  fly-same (retimed x) on = (on, flies-all (flier (row_at P x)))
  fly-same (swapped p q) on = (flies-all p, flies-all q)
  fly-same (dropped x) on = (on, flies-all (flier (row_at P x)))
  fly-same (restored x p) on = (flies-all p, backs-same x)
  fly-same (handed x k q) on = (on, flies-all (flier (row_at P x)), flies-all q)
  fly-same (rebooked r path) on = absurd on

  pub rows-agree : (u : MoveUnit) → ((y : ℕ) → unit_restores I P u y ≡ true → row_at P y ≡ Cancelled) → AgreeOn (unit_planes P u) (unit_legs I P u) P Q
  rows-agree u cancelled =
      let planes = unit_planes P u in
      record {
        many = ap length same;
        same = λ x here. row-of x;
        own = λ x here. elim (or_cases (is_of planes (row_at P x)) (unit_restores I P u x) here) [
          | inl on ↦ inl on
          | inr again ↦ inr (cancelled x again)
        ];
        before = λ x off. (or_parts (is_of planes (row_at P x)) (unit_restores I P u x) off).0;
        now = λ x off. ap (is_of planes) (sym (row-of x)) ∙ (or_parts (is_of planes (row_at P x)) (unit_restores I P u x) off).0;
      }

  pub rows-room : (legs : ℕ → Bool) → HaveSameRoom legs I P Q
  rows-room legs = record {
    departures = λ x h here. (let a = (leg_at I x).origin.0 in
        same-room _ (departures_outside legs I P x a h) (departures_outside legs I Q x a h) (dep_cap I a h) (ap (λ (rows : List Row). departures_outside legs I (with_rows rows) x a h) same));
    arrivals = λ x h here. (let a = (leg_at I x).dest.0 in
        same-room _ (arrivals_outside legs I P x a h) (arrivals_outside legs I Q x a h) (arr_cap I a h) (ap (λ (rows : List Row). arrivals_outside legs I (with_rows rows) x a h) same));
  }

  rows-hands : (position : PositionInfo) → at_hand I P position ≡ at_hand I Q position
  rows-hands position = ap (λ (rows : List Row). at_hand I (with_rows rows) position) same

  -- ---- a unit that refills no leg and flies none again, on whose aircraft nobody is who has other groups

  module _ (u : MoveUnit) (none : (y : ℕ) → unit_restores I P u y ≡ false) (fills : (y : ℕ) → unit_refills I P u y ≡ false) (marks : List Bool) (told : AreCarriedTold (reservations_of I) I P Q marks) (free : (p : ℕ) → unit_planes P u p ≡ true → is_marked marks p ≡ false) where
    abbrev legs : ℕ → Bool
    legs = unit_legs I P u

    -- no leg of a path is the unit's, whose aircraft are marked by a plan with these rows
    off-leg : (R : PlanRows) (y : ℕ) → row_at R y ≡ row_at P y → ((p : ℕ) → flies R p y ≡ true → is_marked marks p ≡ true) → legs y ≡ false
    off-leg R y row marked =
        false_from_ne_true (legs y)
        (λ here. elim (or_cases (is_of (unit_planes P u) (row_at P y)) (unit_restores I P u y) here) [
          | inr again ↦ true≢false (sym again ∙ none y)
          | inl on ↦
              let by = own-flier (unit_planes P u) (row_at P y) on in
              let p = flier (row_at P y) in
              true≢false (sym (marked p (ap (is_flown_by p) row ∙ by.1)) ∙ free p by.0)
        ])

    off-path : (R : PlanRows) → ((x : ℕ) → row_at R x ≡ row_at P x) → (path : List (Leg × Cabin)) → AreFliersMarked R marks path → list_any (λ pair. legs pair.0.0) path ≡ false
    off-path R rows path all =
        list_any_none (λ (pair : Leg × Cabin). legs pair.0.0) path
        (λ k d lt. off-leg R (get_or path k d).0.0 (rows (get_or path k d).0.0) (all k d lt))

    off-groups : (R : PlanRows) → ((x : ℕ) → row_at R x ≡ row_at P x) → (groups : List Group) → AreCarriersMarked R marks groups → list_any (λ group. list_any (λ pair. legs pair.0.0) group.path) groups ≡ false
    off-groups R rows groups all =
        list_any_none (λ (group : Group). list_any (λ (pair : Leg × Cabin). legs pair.0.0) group.path) groups
        (λ k d lt. off-path R rows (get_or groups k d).path (all k d lt))

    is_touched : ℕ → Bool
    is_touched r = is_on legs P r || is_on legs Q r

    off-legs : (R : PlanRows) (r : ℕ) → is_on legs R r ≡ false → IsOffLegs legs R r
    off-legs R r off k d lt i e within =
        let groups = groups_at R r in
        let group = get_or groups k d in
        false_from_ne_true (legs (get_or group.path i e).0.0)
        (λ on.
        let path : list_any (λ pair. legs pair.0.0) group.path ≡ true = any_from (λ pair. legs pair.0.0) group.path (get_or group.path i e) (Contains-get_or group.path i e within) on in
        true≢false (sym (any_from (λ (g : Group). list_any (λ pair. legs pair.0.0) g.path) groups group (Contains-get_or groups k d lt) path) ∙ off))

    same-of : (r : ℕ) → r < reservations_of I → is_touched r ≡ true → IsSameReservation P Q r
    unfolding is_touched
    same-of r lt touched =
        elim (told.each r lt) [
          | inl groups ↦ record { groups = groups; paths = λ k d within i e there. row-of (get_or (get_or (groups_at P r) k d).path i e).0.0 }
          | inr marked ↦
              absurd (elim (or_cases (is_on legs P r) (is_on legs Q r) touched) [
                | inl on ↦ true≢false (sym on ∙ off-groups P (λ x. refl) (groups_at P r) marked.0)
                | inr on ↦ true≢false (sym on ∙ off-groups Q (λ x. sym (row-of x)) (groups_at Q r) marked.1)
              ])
        ]

    not-booked : (r : ℕ) → is_booked_on (unit_refills I P u) I r ≡ false
    not-booked r = list_any_none (λ (pair : Leg × Cabin). unit_refills I P u pair.0.0) (booked_path I r) (λ k d lt. fills (get_or (booked_path I r) k d).0.0)

    carried-passengers : HaveSamePassengers legs (unit_refills I P u) is_touched I P Q
    unfolding is_touched
    carried-passengers = record {
      same = same-of;
      before = λ r lt off. off-legs P r (or_parts (is_on legs P r) (is_on legs Q r) off).0;
      now = λ r lt off. off-legs Q r (or_parts (is_on legs P r) (is_on legs Q r) off).1;
      booked = λ r lt booked. absurd (true≢false (sym booked ∙ not-booked r));
      seats = λ r lt booked. absurd (true≢false (sym booked ∙ not-booked r));
    }

    carried-positions : HaveSamePositions (unit_planes P u) I P Q
    carried-positions k d lt = inl (rows-hands (get_or I.parts.positions k d))

    pub carried-untouched : IsUntouchedUnit I P Q u
    carried-untouched = record {
      agree = rows-agree u (λ y again. absurd (true≢false (sym again ∙ none y)));
      backs = unit-backs u;
      room = rows-room legs;
      touched = is_touched;
      passengers = carried-passengers;
      positions = carried-positions;
    }
