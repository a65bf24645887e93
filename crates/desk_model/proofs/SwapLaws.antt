-- What Swap does.
use Rattle.std.proofs.Common.{◌≡◌, ℕ, ◌<◌, ◌≤◌, inl, inr, List, [], ◌∷◌, length, refl, sym, ap, ◌∙◌}
use Rattle.std.specs.Prelude.{map}
use Rattle.std.proofs.lemmas.Bool.{cases_eq, cases_lt, eq-eqb, ne_eqb, le-leb, lt-leb}
use Rattle.std.proofs.lemmas.List.{length-map, get_or-map, get_or_past}
use Rattle.std.proofs.lemmas.List.Elements.{All-map, All-weaker}
use Rattle.desk_units.specs.declared.numbers.Plane.{Plane}
use Rattle.desk_units.specs.declared.numbers.Minute.{Minute}
use Rattle.desk_data.specs.declared.row.Row.{Row}
use Rattle.desk_data.specs.declared.row.Row.TheVariants.{Flown, Cancelled}
use Rattle.desk_data.specs.Situation.{Situation, planes_of}
use Rattle.desk_data.specs.PlanRows.{PlanRows, IsRow, row_at}
use Rattle.desk_data.specs.Valid.{IsRowOf, IsPlanFor}
use Rattle.desk_model.specs.Swap.{other_plane, row_after_swap, after_swap, SwapsLeg}

-- ---- of two aircraft the other one

other-first : (p q : ℕ) → other_plane p q p ≡ q
other-first p q = rw (eq-eqb p p refl) refl

other-second : (p q : ℕ) → other_plane p q q ≡ p
other-second p q =
    elim (cases_eq q p) [
      | inl same ↦ rw (eq-eqb q p same) same
      | inr different ↦ rw (ne_eqb q p different, eq-eqb q q refl) refl
    ]

other-third : (p q plane : ℕ) → (plane ≡ p → ⊥) → (plane ≡ q → ⊥) → other_plane p q plane ≡ plane
other-third p q plane a b = rw (ne_eqb plane p a, ne_eqb plane q b) refl

other-same : (p plane : ℕ) → other_plane p p plane ≡ plane
other-same p plane =
    elim (cases_eq plane p) [
      | inl same ↦ rw (eq-eqb plane p same) (sym same)
      | inr different ↦ rw (ne_eqb plane p different) refl
    ]

-- the other of the other is the aircraft again
other-other : (p q plane : ℕ) → other_plane p q (other_plane p q plane) ≡ plane
other-other p q plane =
    elim (cases_eq plane p) [
      | inl first ↦ ap (λ (k : ℕ). other_plane p q (other_plane p q k)) first ∙ ap (other_plane p q) (other-first p q) ∙ other-second p q ∙ sym first
      | inr not_first ↦ elim (cases_eq plane q) [
        | inl second ↦ ap (λ (k : ℕ). other_plane p q (other_plane p q k)) second ∙ ap (other_plane p q) (other-second p q) ∙ other-first p q ∙ sym second
        | inr third ↦ ap (other_plane p q) (other-third p q plane not_first third) ∙ other-third p q plane not_first third
      ]
    ]

-- ---- one row

plane_of_row : Minute → ℕ → Row
plane_of_row dep k = let plane : Plane = record { 0 = k } in Flown plane dep

row_late : (p q at : ℕ) (plane : Plane) (dep : Minute) → at ≤ dep.0 → row_after_swap p q at (Flown plane dep) ≡ Flown (record { 0 = other_plane p q plane.0 }) dep
row_late p q at plane dep late = rw (le-leb at dep.0 late) refl

row_early : (p q at : ℕ) (plane : Plane) (dep : Minute) → dep.0 < at → row_after_swap p q at (Flown plane dep) ≡ Flown plane dep
row_early p q at plane dep early = rw (lt-leb at dep.0 early) refl

row_twice : (p q at : ℕ) (row : Row) → row_after_swap p q at (row_after_swap p q at row) ≡ row
unfolding plane_of_row
row_twice p q at (Flown plane dep) =
    elim (cases_lt dep.0 at) [
      | inl early ↦ ap (row_after_swap p q at) (row_early p q at plane dep early) ∙ row_early p q at plane dep early
      | inr late ↦
          ap (row_after_swap p q at) (row_late p q at plane dep late)
          ∙ row_late p q at (record { 0 = other_plane p q plane.0 }) dep late
          ∙ ap (plane_of_row dep) (other-other p q plane.0)
    ]
row_twice p q at Cancelled = refl

row_same : (p at : ℕ) (row : Row) → row_after_swap p p at row ≡ row
unfolding plane_of_row
row_same p at (Flown plane dep) =
    elim (cases_lt dep.0 at) [
      | inl early ↦ row_early p p at plane dep early
      | inr late ↦ row_late p p at plane dep late ∙ ap (plane_of_row dep) (other-same p plane.0)
    ]
row_same p at Cancelled = refl

-- ---- the plan

map_twice : (p q at : ℕ) (rows : List Row) → map (row_after_swap p q at) (map (row_after_swap p q at) rows) ≡ rows
map_twice p q at [] = refl
map_twice p q at (row ∷ rows) = cc (row_twice p q at row, map_twice p q at rows)

map_same : (p at : ℕ) (rows : List Row) → map (row_after_swap p p at) rows ≡ rows
map_same p at [] = refl
map_same p at (row ∷ rows) = cc (row_same p at row, map_same p at rows)

pub after_swap-twice : (P : PlanRows) (p q at : ℕ) → after_swap (after_swap P p q at) p q at ≡ P
unfolding after_swap
after_swap-twice P p q at = ap (λ (rows : List Row). let Q : PlanRows = record P { rows = rows } in Q) (map_twice p q at P.rows)

pub after_swap-same : (P : PlanRows) (p at : ℕ) → after_swap P p p at ≡ P
unfolding after_swap
after_swap-same P p at = ap (λ (rows : List Row). let Q : PlanRows = record P { rows = rows } in Q) (map_same p at P.rows)

pub after_swap-row : (P : PlanRows) (p q at x : ℕ) → row_at (after_swap P p q at) x ≡ row_after_swap p q at (row_at P x)
unfolding after_swap
after_swap-row P p q at x =
    elim (cases_lt x (length P.rows)) [
      | inl within ↦ get_or-map (row_after_swap p q at) P.rows x Cancelled Cancelled within
      | inr past ↦
          get_or_past (map (row_after_swap p q at) P.rows) x Cancelled (rw length-map past)
          ∙ sym (ap (row_after_swap p q at) (get_or_past P.rows x Cancelled past))
    ]

pub after_swap-groups : (P : PlanRows) (p q at : ℕ) → (after_swap P p q at).groups ≡ P.groups
unfolding after_swap
after_swap-groups P p q at = refl

pub after_swap-swaps : (P : PlanRows) (p q at x : ℕ) → SwapsLeg P (after_swap P p q at) p q at x
unfolding plane_of_row
after_swap-swaps P p q at x =
    let there = after_swap-row P p q at x in
    record {
      first = λ d flown late. there ∙ ap (row_after_swap p q at) flown ∙ row_late p q at (record { 0 = p }) (record { 0 = d }) late ∙ ap (plane_of_row (record { 0 = d })) (other-first p q);
      second = λ d flown late. there ∙ ap (row_after_swap p q at) flown ∙ row_late p q at (record { 0 = q }) (record { 0 = d }) late ∙ ap (plane_of_row (record { 0 = d })) (other-second p q);
      earlier = λ plane d flown early. there ∙ ap (row_after_swap p q at) flown ∙ row_early p q at (record { 0 = plane }) (record { 0 = d }) early ∙ sym flown;
      third = λ plane d flown a b.
          let cases = cases_lt d at in
          elim cases [
            | inl early ↦ there ∙ ap (row_after_swap p q at) flown ∙ row_early p q at (record { 0 = plane }) (record { 0 = d }) early ∙ sym flown
            | inr late ↦ there ∙ ap (row_after_swap p q at) flown ∙ row_late p q at (record { 0 = plane }) (record { 0 = d }) late ∙ ap (plane_of_row (record { 0 = d })) (other-third p q plane a b) ∙ sym flown
          ];
      cancelled = λ none. there ∙ ap (row_after_swap p q at) none;
    }

-- ---- a valid plan stays valid

other-lt : (planes p q plane : ℕ) → p < planes → q < planes → plane < planes → other_plane p q plane < planes
other-lt planes p q plane first second own =
    elim (cases_eq plane p) [
      | inl same ↦ rw (eq-eqb plane p same) second
      | inr different ↦ elim (cases_eq plane q) [
        | inl same ↦ rw (ne_eqb plane p different, eq-eqb plane q same) first
        | inr third ↦ rw (ne_eqb plane p different, ne_eqb plane q third) own
      ]
    ]

row-of : (planes p q at : ℕ) → p < planes → q < planes → (row : Row) → IsRowOf planes row → IsRowOf planes (row_after_swap p q at row)
row-of planes p q at first second (Flown plane dep) is =
    elim (cases_lt dep.0 at) [
      | inl early ↦ rw (lt-leb at dep.0 early) is
      | inr late ↦ rw (le-leb at dep.0 late) (other-lt planes p q plane.0 first second is.0, is.1)
    ]
row-of planes p q at first second Cancelled is = tt

row-sound : (p q at : ℕ) (row : Row) → IsRow row → IsRow (row_after_swap p q at row)
row-sound p q at (Flown plane dep) is =
    elim (cases_lt dep.0 at) [
      | inl early ↦ rw (lt-leb at dep.0 early) is
      | inr late ↦ rw (le-leb at dep.0 late) is
    ]
row-sound p q at Cancelled is = tt

pub after_swap-valid : (I : Situation) (P : PlanRows) (p q at : ℕ) → p < planes_of I → q < planes_of I → IsPlanFor I P → IsPlanFor I (after_swap P p q at)
unfolding after_swap
after_swap-valid I P p q at first second plan = record {
  sound = record {
    rows = All-map IsRow (row_after_swap p q at) P.rows (All-weaker IsRow (λ (row : Row). IsRow (row_after_swap p q at row)) (row-sound p q at) P.rows plan.sound.rows);
    groups = plan.sound.groups;
  };
  legs = length-map P.rows (row_after_swap p q at) ∙ plan.legs;
  res = plan.res;
  rows = All-map (IsRowOf (planes_of I)) (row_after_swap p q at) P.rows
      (All-weaker (IsRowOf (planes_of I)) (λ (row : Row). IsRowOf (planes_of I) (row_after_swap p q at row)) (row-of (planes_of I) p q at first second) P.rows plan.rows);
  groups = plan.groups;
}
