-- The rotation that is in time and arrives last stands on one of two days.
use Rattle.std.proofs.Common.{◌≡◌, ◌≢◌, ◌⊎◌, ◌-◌, ◌/◌, ◌%◌, ℕ, ◌+◌, ◌*◌, ◌<◌, ◌≤◌, Bool, true, false, cond, ◌&&◌, ◌||◌, not, eqb, ltb, leb, List, [], ◌∷◌, length, get_or, bytes_eq, Option, Some, None, refl, sym, ap, ◌∙◌, arith, All, inl, inr}
use Rattle.std.specs.Option.{is_some}
use Rattle.std.specs.List.{position, position_or_len}
use Rattle.std.proofs.lemmas.Bool.{both_ways, leb-true, le-leb, eqb-true, eq-eqb, ltb-false, le-ltb, cases_Bool, and_parts, and_from, and_left, or_cases, or_right, or_left, not-true, not_from_false, false_from_ne_true}
use Rattle.std.proofs.lemmas.List.Elements.{All-head, All-tail}
use Rattle.std.proofs.lemmas.List.Quantifiers.{position-Some}
use Rattle.std.proofs.lemmas.List.Sums.{AllPass-from_list_all, list_all-from_AllPass, fails_before_first}
use Rattle.file_rows.specs.declared.legs.FlightRow.{FlightRow}
use Rattle.file_rows.specs.declared.legs.RotationRow.{RotationRow}
use Rattle.desk_build.specs.Legs.{arrival_on, is_in_time, is_last_in_time, last_in_time}

-- tests that hold together are one
same_tests : (a b : Bool) → (a ≡ true → b ≡ true) → (b ≡ true → a ≡ true) → a ≡ b
same_tests true b there back = sym (there refl)
same_tests false true there back = back refl
same_tests false false there back = refl

-- tests that agree at each row of a list find the same place
position_or_len_agree : {X : Type 0} (p q : X → Bool) (xs : List X) → All (λ x. p x ≡ q x) xs → position_or_len p xs ≡ position_or_len q xs
position_or_len_agree p q [] h = refl
position_or_len_agree p q (x ∷ xs) h =
    let here : p x ≡ q x = All-head (λ x. p x ≡ q x) x xs h in
    let rest = position_or_len_agree p q xs (All-tail (λ x. p x ≡ q x) x xs h) in
    λ i. cond (not (here i)) (1 + rest i) 0

position_agree : {X : Type 0} (p q : X → Bool) (xs : List X) → All (λ x. p x ≡ q x) xs → position p xs ≡ position q xs
position_agree p q xs h = ap (λ n. cond (ltb n (length xs)) (Some n) None) (position_or_len_agree p q xs h)

no_place : (place : Option ℕ) → is_some place ≡ false → place ≡ None
no_place None none = refl
no_place (Some place) none = absurd cc

-- where there is no place, the test fails at each row
position-None : {X : Type 0} (p : X → Bool) (xs : List X) → position p xs ≡ None → All (λ x. p x ≡ false) xs
position-None p xs nowhere k d below =
    elim (cases_Bool (ltb (position_or_len p xs) (length xs))) [
      | inl found ↦ absurd (cc (ap (λ b. cond b (Some (position_or_len p xs)) None) found))
      | inr past ↦ fails_before_first p xs k d (omega (arith, ltb-false (position_or_len p xs) (length xs) past))
    ]

-- and where it fails at each row, there is no place
position_or_len_nowhere : {X : Type 0} (p : X → Bool) (xs : List X) → All (λ x. p x ≡ false) xs → position_or_len p xs ≡ length xs
position_or_len_nowhere p [] h = refl
position_or_len_nowhere p (x ∷ xs) h =
    let here : p x ≡ false = All-head (λ x. p x ≡ false) x xs h in
    let rest = position_or_len_nowhere p xs (All-tail (λ x. p x ≡ false) x xs h) in
    rw here (omega (arith, rest))

position_nowhere : {X : Type 0} (p : X → Bool) (xs : List X) → All (λ x. p x ≡ false) xs → position p xs ≡ None
position_nowhere p xs h = ap (λ n. cond (ltb n (length xs)) (Some n) None) (position_or_len_nowhere p xs h) ∙ ap (λ b. cond b (Some (length xs)) None) (le-ltb (length xs) (length xs) (omega arith))

module _ (flight : FlightRow) (at : ℕ) where
  -- what it is to be in time
  record IsInTime (row : RotationRow) : Type 0 where
    of_flight : bytes_eq flight.flight row.flight ≡ true
    by : 1440 * row.day + flight.arr ≤ at
    within : at ≤ 1440 * row.day + flight.arr + 1440

  from_in_time : (row : RotationRow) → is_in_time flight at row ≡ true → IsInTime row
  from_in_time row e =
      let parts = and_parts _ _ e in
      let bounds = and_parts _ _ parts.1 in
      record { of_flight = parts.0; by = leb-true _ _ bounds.0; within = leb-true _ _ bounds.1 }

  to_in_time : (row : RotationRow) → IsInTime row → is_in_time flight at row ≡ true
  to_in_time row h = and_from _ _ h.of_flight (and_from _ _ (le-leb _ _ h.by) (le-leb _ _ h.within))

  -- whether a rotation is of the flight on this day
  abbrev is_on : ℕ → RotationRow → Bool
  is_on day row = bytes_eq flight.flight row.flight && eqb day row.day

  -- a day on which the flight is in time
  pub record DayIsInTime (day : ℕ) : Type 0 where
    pub by : 1440 * day + flight.arr ≤ at
    pub within : at ≤ 1440 * day + flight.arr + 1440

  on_in_time : (day : ℕ) (row : RotationRow) → DayIsInTime day → is_on day row ≡ true → IsInTime row
  on_in_time day row h e =
      let parts = and_parts _ _ e in
      let same : day ≡ row.day = eqb-true _ _ parts.1 in
      record { of_flight = parts.0; by = omega (arith, h.by); within = omega (arith, h.within) }

  module _ (rotations : List RotationRow) where
    -- a rotation arrives last if none in time is of a later day
    is_last : (row : RotationRow) → All (λ other. is_in_time flight at other ≡ true → other.day ≤ row.day) rotations → is_last_in_time flight at rotations row ≡ true
    is_last row h = list_all-from_AllPass _ rotations (λ k d below.
        let other = get_or rotations k d in
        elim (cases_Bool (is_in_time flight at other)) [
          | inl yes' ↦ or_right _ _ (le-leb (arrival_on flight other.day) (arrival_on flight row.day) (omega (arith, h k d below yes')))
          | inr not' ↦ or_left _ _ (not_from_false _ not')
        ])

    no_later : (row : RotationRow) → is_last_in_time flight at rotations row ≡ true → All (λ other. is_in_time flight at other ≡ true → other.day ≤ row.day) rotations
    no_later row e k d below in_time =
        let other = get_or rotations k d in
        elim (or_cases _ _ (AllPass-from_list_all (λ other. not (is_in_time flight at other) || leb (arrival_on flight other.day) (arrival_on flight row.day)) rotations e k d below)) [
          | inl not' ↦ absurd (both_ways _ (not-true _ not') in_time)
          | inr no_later' ↦ omega (arith, leb-true (arrival_on flight other.day) (arrival_on flight row.day) no_later')
        ]

    -- whether a rotation is the one that is looked for
    abbrev is_looked_for : RotationRow → Bool
    is_looked_for row = is_in_time flight at row && is_last_in_time flight at rotations row

    module _ (day : ℕ) (in_time : DayIsInTime day) where
      -- a rotation on a day in time, where no other in time is of a later day, is looked for
      looked_for : (row : RotationRow) → All (λ other. is_in_time flight at other ≡ true → other.day ≤ day) rotations → is_on day row ≡ true → is_looked_for row ≡ true
      looked_for row last on =
          let same : day ≡ row.day = eqb-true day row.day (and_parts (bytes_eq flight.flight row.flight) (eqb day row.day) on).1 in
          and_from _ _ (to_in_time row (on_in_time day row in_time on)) (is_last row (λ k d below other. omega (arith, last k d below other)))

      -- where the flight is flown on the last day in time, the rotation that is looked for is of that day
      of_last_day : (place : ℕ) → position (is_on day) rotations ≡ Some place → ((other : ℕ) → DayIsInTime other → other ≤ day) → (row : RotationRow) → is_looked_for row ≡ true → is_on day row ≡ true
      of_last_day place found last row both =
          let parts = and_parts _ _ both in
          let is = from_in_time row parts.0 in
          let there = position-Some (is_on day) rotations place row found in
          let flown : RotationRow = get_or rotations place row in
          let same : day ≡ flown.day = eqb-true day flown.day (and_parts (bytes_eq flight.flight flown.flight) (eqb day flown.day) there.1).1 in
          let late : flown.day ≤ row.day = no_later row parts.1 place row there.0 (to_in_time flown (on_in_time day flown in_time there.1)) in
          let soon : row.day ≤ day = last row.day (record { by = is.by; within = is.within }) in
          and_from _ _ is.of_flight (eq-eqb day row.day (omega arith))

      last_on : (place : ℕ) → position (is_on day) rotations ≡ Some place → ((other : ℕ) → DayIsInTime other → other ≤ day) → position (is_on day) rotations ≡ last_in_time flight at rotations
      unfolding last_in_time
      last_on place found last =
          let none_later : All (λ other. is_in_time flight at other ≡ true → other.day ≤ day) rotations = λ k d below e. (let is = from_in_time (get_or rotations k d) e in last (get_or rotations k d).day (record { by = is.by; within = is.within })) in
          position_agree (is_on day) is_looked_for rotations (λ k d below. same_tests _ _ (looked_for (get_or rotations k d) none_later) (of_last_day place found last (get_or rotations k d)))

      -- the only day in time on which the flight is flown
      last_alone : All (λ row. is_in_time flight at row ≡ true → row.day ≡ day) rotations → position (is_on day) rotations ≡ last_in_time flight at rotations
      unfolding last_in_time
      last_alone alone =
          let none_later : All (λ other. is_in_time flight at other ≡ true → other.day ≤ day) rotations = λ k d below e. omega (arith, alone k d below e) in
          position_agree (is_on day) is_looked_for rotations (λ k d below. same_tests _ _ (looked_for (get_or rotations k d) none_later)
          (λ both. let parts = and_parts _ _ both in and_from _ _ (from_in_time (get_or rotations k d) parts.0).of_flight (eq-eqb day (get_or rotations k d).day (sym (alone k d below parts.0)))))

    -- no rotation is in time
    none_in_time : All (λ row. is_in_time flight at row ≡ false) rotations → None ≡ last_in_time flight at rotations
    unfolding last_in_time
    none_in_time h = sym (position_nowhere is_looked_for rotations (λ k d below. and_left _ _ (h k d below)))

    -- before the flight's first arrival none is in time
    pub none_so_early : at < flight.arr → None ≡ last_in_time flight at rotations
    none_so_early early = none_in_time (λ k d below. false_from_ne_true _ (λ e. let row = from_in_time (get_or rotations k d) e in absurd (omega (arith, row.by))))

    module _ (arrived : flight.arr ≤ at) where
      -- the last day on which the flight arrives by then
      abbrev pub last_day : ℕ
      last_day = (at - flight.arr) / 1440

      last_day_in_time : DayIsInTime last_day
      last_day_in_time = record { by = omega arith; within = omega arith }

      no_later_day : (other : ℕ) → DayIsInTime other → other ≤ last_day
      no_later_day other h = omega (arith, h.by)

      -- the flight is flown on the last day
      pub on_last_day : (place : Option ℕ) → place ≡ position (is_on last_day) rotations → is_some place ≡ true → place ≡ last_in_time flight at rotations
      on_last_day (Some place) found some = found ∙ last_on last_day last_day_in_time place (sym found) no_later_day
      on_last_day None found some = absurd cc

      -- where it is not, a rotation in time is of the day before, and arrives 1,440 minutes before
      module _ (place : Option ℕ) (found : place ≡ position (is_on last_day) rotations) (none : is_some place ≡ false) where
        nowhere : position (is_on last_day) rotations ≡ None
        nowhere = sym found ∙ no_place place none

        not_that_day : All (λ row. is_in_time flight at row ≡ true → (row.day + 1 ≡ last_day) × ((at - flight.arr) % 1440 ≡ 0)) rotations
        not_that_day k d below in_time =
            let row = from_in_time (get_or rotations k d) in_time in
            let day : ℕ = (get_or rotations k d).day in
            let other : last_day ≡ day → ⊥ = λ same. both_ways _ (position-None (is_on last_day) rotations nowhere k d below) (and_from _ _ row.of_flight (eq-eqb last_day day same)) in
            let by : 1440 * day + flight.arr ≤ at = row.by in
            let within : at ≤ 1440 * day + flight.arr + 1440 = row.within in
            (omega arith, omega arith)

        pub on_no_day : (last_day ≡ 0) ⊎ ((at - flight.arr) % 1440 ≢ 0) → place ≡ last_in_time flight at rotations
        on_no_day why = no_place place none ∙ none_in_time (λ k d below. false_from_ne_true _ (λ e.
            let is = not_that_day k d below e in
            elim why [ inl first ↦ absurd (omega (arith, is.0)) | inr between ↦ between is.1 ]))

        pub on_day_before : last_day ≢ 0 → (at - flight.arr) % 1440 ≡ 0 → position (is_on (last_day - 1)) rotations ≡ last_in_time flight at rotations
        on_day_before later exact = last_alone (last_day - 1) (record { by = omega arith; within = omega arith }) (λ k d below e. omega (arith, (not_that_day k d below e).0))
