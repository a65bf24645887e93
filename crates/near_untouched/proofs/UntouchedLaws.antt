-- A unit of untouched aircraft is untouched.
use Rattle.std.proofs.Common.{◌≡◌, ℕ, zero, suc, ◌+◌, ◌<◌, ◌≤◌, ◌⊎◌, inl, inr, Bool, true, false, ◌&&◌, ◌||◌, cond, eqb, not, List, [], ◌∷◌, ◌++◌, length, get_or, refl, sym, ap, subst, ◌∙◌, arith}
use Rattle.std.specs.Prelude.{Option, None, Some, count_by}
use Rattle.std.specs.List.{All, Contains, list_any}
use Rattle.std.proofs.Math.Path.{fun_ext}
use Rattle.std.proofs.lemmas.Bool.{true≢false, cases_Bool, and_parts, and_from, or_parts, or_left, or_right, eqb-true, eq-eqb, false_from_ne_true}
use Rattle.std.proofs.lemmas.List.Sums.{sum_by-cons}
use Rattle.std.proofs.lemmas.List.Elements.{Contains-get_or}
use Rattle.desk_units.specs.declared.numbers.Leg.{Leg}
use Rattle.desk_units.specs.declared.numbers.Cabin.{Cabin}
use Rattle.desk_data.specs.Booked.{booked_path}
use Rattle.desk_data.specs.declared.row.Row.{Row}
use Rattle.desk_data.specs.declared.row.Row.TheVariants.{Flown, Cancelled}
use Rattle.desk_data.specs.declared.row.Group.{Group}
use Rattle.desk_data.specs.Hours.{dep_cap, arr_cap}
use Rattle.desk_data.specs.Situation.{Situation, legs_of, leg_at, plane_at, reservations_of}
use Rattle.desk_data.specs.PlanRows.{PlanRows, row_at, groups_at}
use Rattle.desk_rules.specs.Numbers.{numbers}
use Rattle.desk_rules.specs.Cost.{at_hand, is_wanted}
use Rattle.desk_rules.specs.Maintenance.{is_flown_by}
use Rattle.desk_rules.specs.Passengers.{is_flown}
use Rattle.desk_model.specs.Push.{departs_beside, arrives_beside, departures_beside, arrivals_beside}
use Rattle.near_moves.specs.MoveParts.{flier}
use Rattle.near_moves.specs.Units.{MoveUnit, retimed, swapped, dropped, restored, handed, rebooked}
use Rattle.near_moves.proofs.ListLaws.{any_holds, any_from}
use Rattle.near_moves.proofs.FromLaws.{or_cases}
use Rattle.near_moves.specs.Same.{FliesSame, is_of, IsOwn, AgreeOn}
use Rattle.near_moves.specs.Steps.{unit_planes, unit_restores, unit_legs, unit_refills, BeginsFlown}
use Rattle.near_moves.specs.Room.{departures_outside, arrivals_outside, count_from, count_to, IsSameRoom, HaveSameRoom}
use Rattle.near_moves.proofs.PlaneLaws.{flies-same, row-same}
use Rattle.near_moves.proofs.FrameLaws.{is_of-by, count-split, count-weaker, start-alike, own-departs, own-arrives}
use Rattle.near_moves.proofs.MoveLaws.{flier-flies}
use Rattle.near_moves.proofs.OwnLaws.{own-flier}
use Rattle.near_untouched.specs.Dearer.{IsSameReservation, IsOffLegs, is_booked_on, HasSameSeats, HaveSamePassengers, HaveSamePositions}
use Rattle.near_untouched.specs.UntouchedUnits.{HasSameBacks, IsUntouchedUnit}
use Rattle.near_untouched.specs.Planes.{is_on, AreUntouchedLegs, IsUntouchedPlane, IsUntouchedAgain, AreUntouchedBeside}

-- ---- tests of paths

-- a leg that passes a test, and one of another test at that leg
any-weaker : (f g : Leg × Cabin → Bool) (path : List (Leg × Cabin)) → ((pair : Leg × Cabin) → f pair ≡ true → g pair ≡ true) → list_any f path ≡ true → list_any g path ≡ true
any-weaker f g path weaker has =
    let at = any_holds f path has in
    any_from g path at.from at.there (weaker at.from at.is)

off-legs : (legs : ℕ → Bool) (P : PlanRows) (r : ℕ) → is_on legs P r ≡ false → IsOffLegs legs P r
off-legs legs P r off k d lt i e within =
    let groups = groups_at P r in
    let group = get_or groups k d in
    false_from_ne_true (legs (get_or group.path i e).0.0)
    (λ on.
    let path : list_any (λ pair. legs pair.0.0) group.path ≡ true = any_from (λ pair. legs pair.0.0) group.path (get_or group.path i e) (Contains-get_or group.path i e within) on in
    true≢false (sym (any_from (λ (g : Group). list_any (λ pair. legs pair.0.0) g.path) groups group (Contains-get_or groups k d lt) path) ∙ off))

-- ---- the legs of some untouched aircraft

room-some : (n most before now outside outside_later : ℕ) (cap : Option ℕ) → n ≤ most → outside ≤ before → outside_later ≤ now → (before ≡ now → outside ≡ outside_later) → IsSameRoom most before now cap → IsSameRoom n outside outside_later cap
room-some n most before now outside outside_later None few less less_later same room = tt
room-some n most before now outside outside_later (Some cap) few less less_later same (inl is) = inl (same is)
room-some n most before now outside outside_later (Some cap) few less less_later same (inr both) =
    let one = both.0 in
    let two = both.1 in
    inr (omega (arith, few, less, one), omega (arith, few, less_later, two))

-- a count of two tests is at most both counts
abbrev one_if : Bool → ℕ
one_if b = cond b 1 0

count-two : (f g h : ℕ → Bool) (xs : List ℕ) → ((y : ℕ) → f y ≡ true → (g y ≡ true) ⊎ (h y ≡ true)) → count_by f xs ≤ count_by g xs + count_by h xs
count-two f g h [] either = omega arith
count-two f g h (x ∷ xs) either =
    let all : ℕ → ℕ = λ y. one_if (f y) in
    let first : ℕ → ℕ = λ y. one_if (g y) in
    let second : ℕ → ℕ = λ y. one_if (h y) in
    let none : ℕ = 0 in
    let one : ℕ = 1 in
    let rest = count-two f g h xs either in
    elim (cases_Bool (f x)) [
      | inr fails ↦
          let here : all x ≡ none = ap one_if fails in
          omega (arith, sum_by-cons all x xs, sum_by-cons first x xs, sum_by-cons second x xs, here, rest)
      | inl passes ↦
          let here : all x ≡ one = ap one_if passes in
          elim (either x passes) [
            | inl left ↦
                let there : first x ≡ one = ap one_if left in
                omega (arith, sum_by-cons all x xs, sum_by-cons first x xs, sum_by-cons second x xs, here, there, rest)
            | inr right ↦
                let there : second x ≡ one = ap one_if right in
                omega (arith, sum_by-cons all x xs, sum_by-cons first x xs, sum_by-cons second x xs, here, there, rest)
          ]
    ]

-- ---- legs of two untouched parts

module _ (most : ℕ) (planes legs one two : ℕ → Bool) (I : Situation) (P Q : PlanRows) (agree : AgreeOn planes legs P Q) (cover : (y : ℕ) → legs y ≡ true → (one y ≡ true) ⊎ (two y ≡ true)) (first : AreUntouchedLegs most one I P Q) (second : AreUntouchedLegs most two I P Q) where
  few-from : (a : ℕ) → count_from legs I a ≤ most
  few-from a =
      let sum = count-two (λ y. legs y && (eqb (leg_at I y).origin.0 a)) (λ y. one y && (eqb (leg_at I y).origin.0 a)) (λ y. two y && (eqb (leg_at I y).origin.0 a)) (numbers (legs_of I))
      (λ y is. (
      let parts = and_parts (legs y) (eqb (leg_at I y).origin.0 a) is in
      elim (cover y parts.0) [
        | inl on ↦ inl (and_from (one y) (eqb (leg_at I y).origin.0 a) on parts.1)
        | inr on ↦ inr (and_from (two y) (eqb (leg_at I y).origin.0 a) on parts.1)
      ])) in
      omega (arith, sum, first.few_from a, second.few_from a)

  few-to : (a : ℕ) → count_to legs I a ≤ most
  few-to a =
      let sum = count-two (λ y. legs y && (eqb (leg_at I y).dest.0 a)) (λ y. one y && (eqb (leg_at I y).dest.0 a)) (λ y. two y && (eqb (leg_at I y).dest.0 a)) (numbers (legs_of I))
      (λ y is. (
      let parts = and_parts (legs y) (eqb (leg_at I y).dest.0 a) is in
      elim (cover y parts.0) [
        | inl on ↦ inl (and_from (one y) (eqb (leg_at I y).dest.0 a) on parts.1)
        | inr on ↦ inr (and_from (two y) (eqb (leg_at I y).dest.0 a) on parts.1)
      ])) in
      omega (arith, sum, first.few_to a, second.few_to a)

  -- ---- room

  departs-either : (x h : ℕ) → legs x ≡ true → IsSameRoom most (departures_beside I P x (leg_at I x).origin.0 h) (departures_beside I Q x (leg_at I x).origin.0 h) (dep_cap I (leg_at I x).origin.0 h)
  departs-either x h here =
      elim (cover x here) [
        | inl on ↦ first.departures x h on
        | inr on ↦ second.departures x h on
      ]

  arrives-either : (x h : ℕ) → legs x ≡ true → IsSameRoom most (arrivals_beside I P x (leg_at I x).dest.0 h) (arrivals_beside I Q x (leg_at I x).dest.0 h) (arr_cap I (leg_at I x).dest.0 h)
  arrives-either x h here =
      elim (cover x here) [
        | inl on ↦ first.arrivals x h on
        | inr on ↦ second.arrivals x h on
      ]

  departs-room : (x h : ℕ) → legs x ≡ true → IsSameRoom (count_from legs I (leg_at I x).origin.0) (departures_outside legs I P x (leg_at I x).origin.0 h) (departures_outside legs I Q x (leg_at I x).origin.0 h) (dep_cap I (leg_at I x).origin.0 h)
  departs-room x h here =
      let a = (leg_at I x).origin.0 in
      let all = numbers (legs_of I) in
      let was = count-split legs (departs_beside I P x a h) all in
      let is = count-split legs (departs_beside I Q x a h) all in
      let inside : count_by (λ y. legs y && departs_beside I P x a h y) all ≡ count_by (λ y. legs y && departs_beside I Q x a h y) all =
      ap (λ (test : ℕ → Bool). count_by test all) (fun_ext (λ (y : ℕ). own-departs planes legs I P Q P Q (start-alike planes legs P Q agree) x a h y)) in
      room-some (count_from legs I a) most (departures_beside I P x a h) (departures_beside I Q x a h) (departures_outside legs I P x a h) (departures_outside legs I Q x a h) (dep_cap I a h)
      (few-from a) (omega (arith, was)) (omega (arith, is)) (λ same. omega (arith, was, is, inside, same))
      (departs-either x h here)

  arrives-room : (x h : ℕ) → legs x ≡ true → IsSameRoom (count_to legs I (leg_at I x).dest.0) (arrivals_outside legs I P x (leg_at I x).dest.0 h) (arrivals_outside legs I Q x (leg_at I x).dest.0 h) (arr_cap I (leg_at I x).dest.0 h)
  arrives-room x h here =
      let a = (leg_at I x).dest.0 in
      let all = numbers (legs_of I) in
      let was = count-split legs (arrives_beside I P x a h) all in
      let is = count-split legs (arrives_beside I Q x a h) all in
      let inside : count_by (λ y. legs y && arrives_beside I P x a h y) all ≡ count_by (λ y. legs y && arrives_beside I Q x a h y) all =
      ap (λ (test : ℕ → Bool). count_by test all) (fun_ext (λ (y : ℕ). own-arrives planes legs I P Q P Q (start-alike planes legs P Q agree) x a h y)) in
      room-some (count_to legs I a) most (arrivals_beside I P x a h) (arrivals_beside I Q x a h) (arrivals_outside legs I P x a h) (arrivals_outside legs I Q x a h) (arr_cap I a h)
      (few-to a) (omega (arith, was)) (omega (arith, is)) (λ same. omega (arith, was, is, inside, same))
      (arrives-either x h here)

  parts-room : HaveSameRoom legs I P Q
  parts-room = record { departures = departs-room; arrivals = arrives-room }

  -- ---- passengers

  any-by : (path : List (Leg × Cabin)) → list_any (λ pair. legs pair.0.0) path ≡ true → (list_any (λ pair. one pair.0.0) path ≡ true) ⊎ (list_any (λ pair. two pair.0.0) path ≡ true)
  any-by path has =
      let at = any_holds (λ (pair : Leg × Cabin). legs pair.0.0) path has in
      elim (cover at.from.0.0 at.is) [
        | inl on ↦ inl (any_from (λ (pair : Leg × Cabin). one pair.0.0) path at.from at.there on)
        | inr on ↦ inr (any_from (λ (pair : Leg × Cabin). two pair.0.0) path at.from at.there on)
      ]

  on-by : (R : PlanRows) (r : ℕ) → is_on legs R r ≡ true → (is_on one R r ≡ true) ⊎ (is_on two R r ≡ true)
  on-by R r has =
      let at = any_holds (λ (group : Group). list_any (λ pair. legs pair.0.0) group.path) (groups_at R r) has in
      elim (any-by at.from.path at.is) [
        | inl on ↦ inl (any_from (λ (group : Group). list_any (λ pair. one pair.0.0) group.path) (groups_at R r) at.from at.there on)
        | inr on ↦ inr (any_from (λ (group : Group). list_any (λ pair. two pair.0.0) group.path) (groups_at R r) at.from at.there on)
      ]

  module _ (refilled : ℕ → Bool) (refills : (y : ℕ) → refilled y ≡ true → legs y ≡ true) where
    is_touched : ℕ → Bool
    is_touched r = is_on legs P r || (is_on legs Q r || is_booked_on refilled I r)

    booked-by : (r : ℕ) → is_booked_on refilled I r ≡ true → (is_booked_on one I r ≡ true) ⊎ (is_booked_on two I r ≡ true)
    booked-by r has = any-by (booked_path I r) (any-weaker (λ pair. refilled pair.0.0) (λ pair. legs pair.0.0) (booked_path I r) (λ pair on. refills pair.0.0 on) has)

    same-of : (r : ℕ) → r < reservations_of I → is_touched r ≡ true → IsSameReservation P Q r
    unfolding is_touched
    same-of r lt touched =
        elim (or_cases (is_on legs P r) (is_on legs Q r || is_booked_on refilled I r) touched) [
          | inl on ↦ elim (on-by P r on) [
            | inl left ↦ first.on r lt left
            | inr right ↦ second.on r lt right
          ]
          | inr more ↦ elim (or_cases (is_on legs Q r) (is_booked_on refilled I r) more) [
            | inl on ↦ elim (on-by Q r on) [
              | inl left ↦ first.on_later r lt left
              | inr right ↦ second.on_later r lt right
            ]
            | inr booked ↦ elim (booked-by r booked) [
              | inl left ↦ first.booked r lt left
              | inr right ↦ second.booked r lt right
            ]
          ]
        ]

    parts-passengers : HaveSamePassengers legs refilled is_touched I P Q
    unfolding is_touched
    parts-passengers = record {
      same = same-of;
      before = λ r lt off. off-legs legs P r (or_parts (is_on legs P r) (is_on legs Q r || is_booked_on refilled I r) off).0;
      now = λ r lt off. off-legs legs Q r (or_parts (is_on legs Q r) (is_booked_on refilled I r) (or_parts (is_on legs P r) (is_on legs Q r || is_booked_on refilled I r) off).1).0;
      booked = λ r lt booked. or_right (is_on legs P r) (is_on legs Q r || is_booked_on refilled I r) (or_right (is_on legs Q r) (is_booked_on refilled I r) booked);
      seats = λ r lt booked. elim (booked-by r booked) [
        | inl left ↦ first.seats r lt left
        | inr right ↦ second.seats r lt right
      ];
    }

-- ---- the aircraft of a unit, one or two, and the legs that it may fly again

module _ (I : Situation) (P Q : PlanRows) (u : MoveUnit) (p q : ℕ) (all : (k : ℕ) → unit_planes P u k ≡ true → (k ≡ p) ⊎ (k ≡ q)) (one : FliesSame P Q p) (two : FliesSame P Q q) (cancelled : (y : ℕ) → unit_restores I P u y ≡ true → row_at P y ≡ Cancelled) (later : (y : ℕ) → unit_restores I P u y ≡ true → row_at Q y ≡ Cancelled) where
  abbrev planes : ℕ → Bool
  planes = unit_planes P u

  flies : (k : ℕ) → planes k ≡ true → FliesSame P Q k
  flies k own =
      elim (all k own) [
        | inl is ↦ subst (FliesSame P Q) (sym is) one
        | inr is ↦ subst (FliesSame P Q) (sym is) two
      ]

  flown-row : (y : ℕ) → is_of planes (row_at P y) ≡ true → row_at P y ≡ row_at Q y
  flown-row y here =
      let by = own-flier planes (row_at P y) here in
      row-same P Q (flier (row_at P y)) (flies (flier (row_at P y)) by.0) y by.1

  leg-row : (y : ℕ) → unit_legs I P u y ≡ true → row_at P y ≡ row_at Q y
  leg-row y here =
      elim (or_cases (is_of planes (row_at P y)) (unit_restores I P u y) here) [
        | inl on ↦ flown-row y on
        | inr again ↦ cancelled y again ∙ sym (later y again)
      ]

  leg-own : (y : ℕ) → unit_legs I P u y ≡ true → IsOwn planes (row_at P y)
  leg-own y here =
      elim (or_cases (is_of planes (row_at P y)) (unit_restores I P u y) here) [
        | inl on ↦ inl on
        | inr again ↦ inr (cancelled y again)
      ]

  none-later : (y : ℕ) → unit_legs I P u y ≡ false → is_of planes (row_at Q y) ≡ false
  none-later y off =
      false_from_ne_true (is_of planes (row_at Q y))
      (λ on.
      let by = own-flier planes (row_at Q y) on in
      let k = flier (row_at Q y) in
      let was : is_flown_by k (row_at P y) ≡ true = flies-same P Q k (flies k by.0) y ∙ by.1 in
      true≢false (sym (is_of-by planes k (row_at P y) by.0 was) ∙ (or_parts (is_of planes (row_at P y)) (unit_restores I P u y) off).0))

  unit-agree : length P.rows ≡ length Q.rows → AgreeOn planes (unit_legs I P u) P Q
  unit-agree many = record {
    many = many;
    same = leg-row;
    own = leg-own;
    before = λ y off. (or_parts (is_of planes (row_at P y)) (unit_restores I P u y) off).0;
    now = none-later;
  }

  -- who flies a leg of one of the aircraft
  by-two : (y : ℕ) → is_of planes (row_at P y) ≡ true → (is_flown_by p (row_at P y) ≡ true) ⊎ (is_flown_by q (row_at P y) ≡ true)
  by-two y here =
      let by = own-flier planes (row_at P y) here in
      elim (all (flier (row_at P y)) by.0) [
        | inl is ↦ inl (subst (λ (k : ℕ). is_flown_by k (row_at P y) ≡ true) is by.1)
        | inr is ↦ inr (subst (λ (k : ℕ). is_flown_by k (row_at P y) ≡ true) is by.1)
      ]

positions-of : (most : ℕ) (planes : ℕ → Bool) (I : Situation) (P Q : PlanRows) (p q : ℕ) → ((k : ℕ) → planes k ≡ true → (k ≡ p) ⊎ (k ≡ q)) → IsUntouchedPlane most I P Q p → IsUntouchedPlane most I P Q q → HaveSamePositions planes I P Q
positions-of most planes I P Q p q all first second k d lt =
    let position = get_or I.parts.positions k d in
    elim (first.positions k d lt) [
      | inl same ↦ inl same
      | inr none ↦ elim (second.positions k d lt) [
        | inl same ↦ inl same
        | inr other ↦ inr (λ n own. elim (all n own) [
          | inl is ↦ subst (λ (m : ℕ). is_wanted position (plane_at I m) ≡ false) (sym is) none
          | inr is ↦ subst (λ (m : ℕ). is_wanted position (plane_at I m) ≡ false) (sym is) other
        ])
      ]
    ]

-- ---- units

untouched-of : (most : ℕ) (I : Situation) (P Q : PlanRows) (u : MoveUnit) (one two : ℕ → Bool) → AgreeOn (unit_planes P u) (unit_legs I P u) P Q → HasSameBacks I P Q u → ((y : ℕ) → unit_legs I P u y ≡ true → (one y ≡ true) ⊎ (two y ≡ true)) → AreUntouchedLegs most one I P Q → AreUntouchedLegs most two I P Q → ((y : ℕ) → unit_refills I P u y ≡ true → unit_legs I P u y ≡ true) → HaveSamePositions (unit_planes P u) I P Q → IsUntouchedUnit I P Q u
untouched-of most I P Q u one two agree backs cover first second refills positions =
    let planes = unit_planes P u in
    let legs = unit_legs I P u in
    record {
      agree = agree;
      backs = backs;
      room = parts-room most planes legs one two I P Q agree cover first second;
      touched = is_touched most planes legs one two I P Q agree cover first second (unit_refills I P u) refills;
      passengers = parts-passengers most planes legs one two I P Q agree cover first second (unit_refills I P u) refills;
      positions = positions;
    }

itself : (p : ℕ) → eqb p p ≡ true
itself p = eq-eqb p p refl

none-again : (P Q : PlanRows) (y : ℕ) (b : Bool) → b ≡ false → b ≡ true → row_at Q y ≡ Cancelled
none-again P Q y b off on = absurd (true≢false (sym on ∙ off))

-- a unit that flies nothing again, of the aircraft p and q, which may be one
flown-unit : (most : ℕ) (I : Situation) (P Q : PlanRows) (u : MoveUnit) (p q : ℕ) → length P.rows ≡ length Q.rows → ((y : ℕ) → unit_restores I P u y ≡ false) → HasSameBacks I P Q u → ((y : ℕ) → unit_refills I P u y ≡ true → unit_legs I P u y ≡ true) → ((k : ℕ) → unit_planes P u k ≡ true → (k ≡ p) ⊎ (k ≡ q)) → IsUntouchedPlane most I P Q p → IsUntouchedPlane most I P Q q → IsUntouchedUnit I P Q u
flown-unit most I P Q u p q many none backs refills all first second =
    let again : (R : PlanRows) (y : ℕ) → unit_restores I P u y ≡ true → row_at R y ≡ Cancelled = λ R y on. none-again P R y (unit_restores I P u y) (none y) on in
    let agree = unit-agree I P Q u p q all first.flown second.flown (again P) (again Q) many in
    untouched-of most I P Q u (λ y. is_flown_by p (row_at P y)) (λ y. is_flown_by q (row_at P y)) agree backs
    (λ y here. elim (or_cases (is_of (unit_planes P u) (row_at P y)) (unit_restores I P u y) here) [
      | inl on ↦ by-two I P Q u p q all first.flown second.flown (again P) (again Q) y on
      | inr restores ↦ absurd (true≢false (sym restores ∙ none y))
    ])
    first.legs second.legs refills
    (positions-of most (unit_planes P u) I P Q p q all first second)

refills-own : (I : Situation) (P : PlanRows) (x y : ℕ) → is_flown (row_at P x) ≡ true → eqb y x ≡ true → unit_legs I P (retimed x) y ≡ true
refills-own I P x y on is =
    let p = flier (row_at P x) in
    let planes = unit_planes P (retimed x) in
    let here : is_of planes (row_at P x) ≡ true = is_of-by planes p (row_at P x) (itself p) (flier-flies P x on) in
    subst (λ (z : ℕ). unit_legs I P (retimed x) z ≡ true) (sym (eqb-true y x is)) (or_left (is_of planes (row_at P x)) false here)

one-all : (p k : ℕ) → eqb k p ≡ true → (k ≡ p) ⊎ (k ≡ p)
one-all p k own = inl (eqb-true k p own)

two-all : (p q k : ℕ) → (eqb k p || eqb k q) ≡ true → (k ≡ p) ⊎ (k ≡ q)
two-all p q k own =
    elim (or_cases (eqb k p) (eqb k q) own) [
      | inl is ↦ inl (eqb-true k p is)
      | inr is ↦ inr (eqb-true k q is)
    ]

pub planes-untouched : (most : ℕ) (I : Situation) (P Q : PlanRows) (u : MoveUnit) → length P.rows ≡ length Q.rows → BeginsFlown P u → ((p : ℕ) → unit_planes P u p ≡ true → IsUntouchedPlane most I P Q p) → AreUntouchedBeside most I P Q u → IsUntouchedUnit I P Q u
planes-untouched most I P Q (retimed x) many on still beside =
    let p = flier (row_at P x) in
    flown-unit most I P Q (retimed x) p p many (λ y. refl) tt (λ y is. refills-own I P x y on is) (one-all p) (still p (itself p)) (still p (itself p))
planes-untouched most I P Q (swapped p q) many on still beside =
    flown-unit most I P Q (swapped p q) p q many (λ y. refl) tt (λ y is. absurd (true≢false (sym is))) (two-all p q)
    (still p (or_left (eqb p p) (eqb p q) (itself p))) (still q (or_right (eqb q p) (eqb q q) (itself q)))
planes-untouched most I P Q (dropped x) many on still beside =
    let p = flier (row_at P x) in
    flown-unit most I P Q (dropped x) p p many (λ y. refl) tt (λ y is. absurd (true≢false (sym is))) (one-all p) (still p (itself p)) (still p (itself p))
planes-untouched most I P Q (restored x p) many on still beside =
    let u = restored x p in
    let again : IsUntouchedAgain most I P Q x p = beside in
    let own = still p (itself p) in
    let agree = unit-agree I P Q u p p (one-all p) own.flown own.flown again.cancelled again.later many in
    untouched-of most I P Q u (λ y. is_flown_by p (row_at P y)) (unit_restores I P u) agree again.backs
    (λ y here. elim (or_cases (is_of (unit_planes P u) (row_at P y)) (unit_restores I P u y) here) [
      | inr restores ↦ inr restores
      | inl on ↦ elim (by-two I P Q u p p (one-all p) own.flown own.flown again.cancelled again.later y on) [
        | inl flown ↦ inl flown
        | inr flown ↦ inl flown
      ]
    ])
    own.legs again.legs
    (λ y is. or_right (is_of (unit_planes P u) (row_at P y)) (unit_restores I P u y) is)
    (positions-of most (unit_planes P u) I P Q p p (one-all p) own own)
planes-untouched most I P Q (handed x k q) many on still beside =
    let p = flier (row_at P x) in
    flown-unit most I P Q (handed x k q) p q many (λ y. refl) tt (λ y is. absurd (true≢false (sym is))) (two-all p q)
    (still p (or_left (eqb p p) (eqb p q) (itself p))) (still q (or_right (eqb q p) (eqb q q) (itself q)))
planes-untouched most I P Q (rebooked r path) many on still beside = absurd beside
