-- Notes of which nothing is known, and of one more unit.
use Rattle.std.proofs.Common.{◌≡◌, ℕ, ◌≤◌, inl, inr, Bool, true, false, ◌&&◌, cond, eqb, List, [], length, get_or, replicate, refl, sym, ap, subst, ◌∙◌, arith}
use Rattle.std.specs.Prelude.{Option, Some, None}
use Rattle.std.proofs.lemmas.List.{get_or-replicate, get_or_past, length-replicate}
use Rattle.std.proofs.lemmas.Bool.{true≢false, and_parts, cases_Bool, cases_lt, eqb-true, false_from_ne_true, ltb-true}
use Rattle.desk_data.specs.Situation.{Situation, legs_of, planes_of}
use Rattle.desk_data.specs.PlanRows.{PlanRows, row_at}
use Rattle.near_moves.specs.MoveParts.{flier}
use Rattle.near_moves.specs.Units.{MoveUnit}
use Rattle.near_legs.specs.Choices.{IsLegUnit, unit_of}
use Rattle.near_legs.specs.declared.unit.LegUnit.{LegUnit}
use Rattle.near_legs.specs.declared.unit.LegUnit.TheVariants.{Retimed, Swapped, Dropped, Restored, Handed}
use Rattle.near_notes.specs.Rows.{number_at, IsPut}
use Rattle.near_notes.specs.Places.{place, number_of, number_of_place}
use Rattle.near_notes.specs.declared.findings.Findings.{Findings}
use Rattle.near_notes.specs.declared.place.Place.{Place}
use Rattle.near_notes.specs.Notes.{AreFindings, AreNone, IsNotedAt, is_before, is_untouched_since}
use Rattle.near_notes.proofs.PlaceLaws.{same-place}

-- ---- nothing was touched before search 0, so nothing is known of what no search found out

not-before : (touched : List ℕ) (k : ℕ) → is_before touched k 0 ≡ false
not-before touched k = false_from_ne_true (is_before touched k 0) (λ is. absurd (let less = ltb-true (get_or touched k 0) 0 is in omega (arith, less)))

never-rest : (P : PlanRows) (planes flown again : List ℕ) (u : LegUnit) → is_untouched_since P planes flown again u 0 ≡ false
never-rest P planes flown again (Retimed leg) = not-before planes (flier (row_at P leg.0))
never-rest P planes flown again (Swapped first second) = ap (λ (b : Bool). b && is_before flown second.0 0) (not-before flown first.0)
never-rest P planes flown again (Dropped leg) = not-before flown (flier (row_at P leg.0))
never-rest P planes flown again (Restored leg plane) = ap (λ (b : Bool). b && is_before again leg.0 0) (not-before planes plane.0)
never-rest P planes flown again (Handed leg count plane) = ap (λ (b : Bool). b && is_before flown plane.0 0) (not-before flown (flier (row_at P leg.0)))

-- rows of nothing
rows-at : (n r : ℕ) (none : List ℕ) → get_or (replicate n none) r none ≡ none
rows-at n r none =
    elim (cases_lt r n) [
      | inl within ↦ get_or-replicate n r none none within
      | inr past ↦ get_or_past (replicate n none) r none (let many = length-replicate n none in omega (arith, many, past))
    ]

pub none-at : (rows row column : ℕ) → number_at (replicate rows []) row column ≡ 0
none-at rows row column = ap (λ (xs : List ℕ). get_or xs column 0) (rows-at rows row [])

-- the number of a unit is that of no later search
pub number-latest : (found : List (List ℕ)) (search : ℕ) (u : LegUnit) → ((row column : ℕ) → number_at found row column ≤ search) → number_of found u ≤ search
number-latest found search u latest = of (place u)
  where
    of : (o : Option Place) → number_of_place found o ≤ search
    of None = omega arith
    of (Some there) = latest there.row there.column

-- ---- nothing is known yet

pub nothing-known : (I : Situation) (P : PlanRows) (search : ℕ) (IsKnown : MoveUnit → Type 0) (none : Findings) → AreNone I none → AreFindings I P search IsKnown none
nothing-known I P search IsKnown none are = record {
  planes = ap length are.planes ∙ length-replicate (planes_of I) 0;
  flown = ap length are.flown ∙ length-replicate (planes_of I) 0;
  again = ap length are.again ∙ length-replicate (legs_of I) 0;
  latest = λ row column. (let zero = are.found row column in omega (arith, zero));
  known = λ u of noted. absurd (true≢false (sym noted ∙ ap (λ (n : ℕ). is_untouched_since P none.planes.items none.flown.items none.again.items u n) (zero-of (place u)) ∙ never-rest P none.planes.items none.flown.items none.again.items u));
}
  where
    zero-of : (o : Option Place) → number_of_place none.found o ≡ 0
    zero-of None = refl
    zero-of (Some there) = are.found there.row there.column

-- ---- one more unit

module _ (I : Situation) (P : PlanRows) (search : ℕ) (IsKnown : MoveUnit → Type 0) (old new : Findings) (u : LegUnit) (there : Place) (placed : place u ≡ Some there) (now : IsNotedAt old new there search) (are : AreFindings I P search IsKnown old) (known : IsKnown (unit_of u)) where
  rest : Findings → LegUnit → ℕ → Bool
  rest findings v n = is_untouched_since P findings.planes.items findings.flown.items findings.again.items v n

  rest-same : (v : LegUnit) (n : ℕ) → rest new v n ≡ rest old v n
  unfolding rest
  rest-same v n =
      ap (λ (planes : List ℕ). is_untouched_since P planes new.flown.items new.again.items v n) now.planes
      ∙ ap (λ (flown : List ℕ). is_untouched_since P old.planes.items flown new.again.items v n) now.flown
      ∙ ap (λ (again : List ℕ). is_untouched_since P old.planes.items old.flown.items again v n) now.again

  known-at : (v : LegUnit) (o : Option Place) → place v ≡ o → IsLegUnit I P v → rest old v (number_of_place new.found o) ≡ true → IsKnown (unit_of v)
  unfolding rest
  known-at v None is of rested = absurd (true≢false (sym rested ∙ never-rest P old.planes.items old.flown.items old.again.items v))
  known-at v (Some here) is of rested =
      elim (now.found here.row here.column) [
        | inl same ↦
            let before : rest old v (number_of_place old.found (place v)) ≡ true =
            ap (λ (o : Option Place). rest old v (number_of_place old.found o)) is
            ∙ ap (λ (n : ℕ). rest old v n) (sym same)
            ∙ rested in
            are.known v of before
        | inr put ↦ subst (λ (w : LegUnit). IsKnown (unit_of w)) (same-place u v there here placed is (sym put.0) (sym put.1)) known
      ]

  pub noted-more : AreFindings I P search IsKnown new
  unfolding rest
  noted-more = record {
    planes = ap length now.planes ∙ are.planes;
    flown = ap length now.flown ∙ are.flown;
    again = ap length now.again ∙ are.again;
    latest = λ row column. elim (now.found row column) [
      | inl same ↦ (let before = are.latest row column in omega (arith, same, before))
      | inr put ↦ (let number = put.2 in omega (arith, number))
    ];
    known = λ v of noted. known-at v (place v) refl of (sym (rest-same v (number_of_place new.found (place v))) ∙ noted);
  }

-- the number of the search at hand is put at a place
pub put-now : (old : Findings) (found : List (List ℕ)) (there : Place) (search : ℕ) → IsPut old.found found there.row there.column search → IsNotedAt old (record old { found = found }) there search
put-now old found there search put = record {
  planes = refl;
  flown = refl;
  again = refl;
  found = λ row column. elim (cases_Bool (eqb row there.row && eqb column there.column)) [
    | inl here ↦
        let parts = and_parts (eqb row there.row) (eqb column there.column) here in
        inr (eqb-true row there.row parts.0, eqb-true column there.column parts.1, put.each row column ∙ at-true _ search (number_at old.found row column) here)
    | inr other ↦ inl (put.each row column ∙ at-false _ search (number_at old.found row column) other)
  ];
}
  where
    at-true : (b : Bool) (x y : ℕ) → b ≡ true → cond b x y ≡ x
    at-true b x y is = rw is refl

    at-false : (b : Bool) (x y : ℕ) → b ≡ false → cond b x y ≡ y
    at-false b x y is = rw is refl
