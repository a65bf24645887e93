-- Units that have the same place are one.
use Rattle.std.proofs.Common.{◌≡◌, ℕ, ◌+◌, ◌*◌, ◌<◌, ◌⊎◌, inl, inr, ◌&&◌, leb, refl, sym, ap, ◌∙◌, arith}
use Rattle.std.specs.Prelude.{Some, None}
use Rattle.std.proofs.lemmas.Bool.{cases_Bool, and_parts, leb-true}
use Rattle.desk_units.specs.declared.numbers.Leg.{Leg}
use Rattle.desk_units.specs.declared.numbers.Plane.{Plane}
use Rattle.near_legs.specs.declared.unit.LegUnit.{LegUnit}
use Rattle.near_legs.specs.declared.unit.LegUnit.TheVariants.{Retimed, Swapped, Dropped, Restored, Handed}
use Rattle.near_notes.specs.declared.place.Place.{Place}
use Rattle.near_notes.specs.Places.{at, place}

-- the leg or the aircraft to which a unit belongs, which of its eight rows it has, and the column
owner_of : LegUnit → ℕ
owner_of (Retimed leg) = leg.0
owner_of (Swapped first second) = first.0
owner_of (Dropped leg) = leg.0
owner_of (Restored leg plane) = leg.0
owner_of (Handed leg count plane) = leg.0

kind_of : LegUnit → ℕ
kind_of (Retimed leg) = 0
kind_of (Swapped first second) = 1
kind_of (Dropped leg) = 0
kind_of (Restored leg plane) = 2
kind_of (Handed leg count plane) = 3 + count

column_of : LegUnit → ℕ
column_of (Retimed leg) = 0
column_of (Swapped first second) = second.0
column_of (Dropped leg) = 1
column_of (Restored leg plane) = plane.0
column_of (Handed leg count plane) = plane.0

record IsPlaced (u : LegUnit) (there : Place) : Type 0 where
  row : there.row ≡ 8 * owner_of u + kind_of u
  column : there.column ≡ column_of u
  kind : kind_of u < 8

none-some : {X : Type 0} (x : X) → None ≡ Some x → ⊥
none-some x is = absurd cc

same-some : (a b : Place) → Some a ≡ Some b → a ≡ b
same-some a b is = cc

handed-placed : (leg : Leg) (count : ℕ) (plane : Plane) (there : Place) → place (Handed leg count plane) ≡ Some there → IsPlaced (Handed leg count plane) there
unfolding owner_of kind_of column_of
handed-placed leg count plane there is =
    elim (cases_Bool (leb 1 count && leb count 4)) [
      | inr many ↦
          let none : place (Handed leg count plane) ≡ None = rw many refl in
          absurd (none-some there (sym none ∙ is))
      | inl few ↦
          let some : place (Handed leg count plane) ≡ Some (at (8 * leg.0 + 3 + count) plane.0) = rw few refl in
          let same : at (8 * leg.0 + 3 + count) plane.0 ≡ there = same-some _ there (sym some ∙ is) in
          let at_most = leb-true count 4 (and_parts (leb 1 count) (leb count 4) few).1 in
          let row : there.row ≡ 8 * leg.0 + 3 + count = ap (λ (p : Place). p.row) (sym same) in
          record {
            row = omega (arith, row);
            column = ap (λ (p : Place). p.column) (sym same);
            kind = omega (arith, at_most);
          }
    ]

is-placed : (u : LegUnit) (there : Place) → place u ≡ Some there → IsPlaced u there
unfolding owner_of kind_of column_of
is-placed (Retimed leg) there is =
    let same : at (8 * leg.0) 0 ≡ there = same-some _ there is in
    let row : there.row ≡ 8 * leg.0 = ap (λ (p : Place). p.row) (sym same) in
    record { row = omega (arith, row); column = ap (λ (p : Place). p.column) (sym same); kind = omega arith }
is-placed (Swapped first second) there is =
    let same : at (8 * first.0 + 1) second.0 ≡ there = same-some _ there is in
    record { row = ap (λ (p : Place). p.row) (sym same); column = ap (λ (p : Place). p.column) (sym same); kind = omega arith }
is-placed (Dropped leg) there is =
    let same : at (8 * leg.0) 1 ≡ there = same-some _ there is in
    let row : there.row ≡ 8 * leg.0 = ap (λ (p : Place). p.row) (sym same) in
    record { row = omega (arith, row); column = ap (λ (p : Place). p.column) (sym same); kind = omega arith }
is-placed (Restored leg plane) there is =
    let same : at (8 * leg.0 + 2) plane.0 ≡ there = same-some _ there is in
    record { row = ap (λ (p : Place). p.row) (sym same); column = ap (λ (p : Place). p.column) (sym same); kind = omega arith }
is-placed (Handed leg count plane) there is = handed-placed leg count plane there is

-- rows of eight that are one
same-row : (x y i j : ℕ) → i < 8 → j < 8 → 8 * x + i ≡ 8 * y + j → (x ≡ y) × (i ≡ j)
same-row x y i j few_i few_j is =
    let cases : (x < y) ⊎ ((x ≡ y) ⊎ (y < x)) = grind arith in
    elim cases [
      | inl less ↦ absurd (omega (arith, less, few_i, is))
      | inr rest ↦ elim rest [
        | inl same ↦ (same, omega (arith, same, is))
        | inr more ↦ absurd (omega (arith, more, few_j, is))
      ]
    ]

-- what has the same owner, kind and column is one unit
one-unit : (u v : LegUnit) → owner_of u ≡ owner_of v → kind_of u ≡ kind_of v → column_of u ≡ column_of v → u ≡ v
unfolding owner_of kind_of column_of
one-unit (Retimed x) (Retimed y) owner kind column = ap (λ (n : ℕ). Retimed (record { 0 = n })) owner
one-unit (Retimed x) (Swapped p q) owner kind column = absurd (omega (arith, kind))
one-unit (Retimed x) (Dropped y) owner kind column = absurd (omega (arith, column))
one-unit (Retimed x) (Restored y p) owner kind column = absurd (omega (arith, kind))
one-unit (Retimed x) (Handed y k p) owner kind column = absurd (omega (arith, kind))
one-unit (Swapped p q) (Retimed y) owner kind column = absurd (omega (arith, kind))
one-unit (Swapped p q) (Swapped r s) owner kind column =
    ap (λ (n : ℕ). Swapped (record { 0 = n }) q) owner ∙ ap (λ (n : ℕ). Swapped r (record { 0 = n })) column
one-unit (Swapped p q) (Dropped y) owner kind column = absurd (omega (arith, kind))
one-unit (Swapped p q) (Restored y r) owner kind column = absurd (omega (arith, kind))
one-unit (Swapped p q) (Handed y k r) owner kind column = absurd (omega (arith, kind))
one-unit (Dropped x) (Retimed y) owner kind column = absurd (omega (arith, column))
one-unit (Dropped x) (Swapped p q) owner kind column = absurd (omega (arith, kind))
one-unit (Dropped x) (Dropped y) owner kind column = ap (λ (n : ℕ). Dropped (record { 0 = n })) owner
one-unit (Dropped x) (Restored y p) owner kind column = absurd (omega (arith, kind))
one-unit (Dropped x) (Handed y k p) owner kind column = absurd (omega (arith, kind))
one-unit (Restored x p) (Retimed y) owner kind column = absurd (omega (arith, kind))
one-unit (Restored x p) (Swapped q r) owner kind column = absurd (omega (arith, kind))
one-unit (Restored x p) (Dropped y) owner kind column = absurd (omega (arith, kind))
one-unit (Restored x p) (Restored y q) owner kind column =
    ap (λ (n : ℕ). Restored (record { 0 = n }) p) owner ∙ ap (λ (n : ℕ). Restored y (record { 0 = n })) column
one-unit (Restored x p) (Handed y k q) owner kind column = absurd (omega (arith, kind))
one-unit (Handed x k p) (Retimed y) owner kind column = absurd (omega (arith, kind))
one-unit (Handed x k p) (Swapped q r) owner kind column = absurd (omega (arith, kind))
one-unit (Handed x k p) (Dropped y) owner kind column = absurd (omega (arith, kind))
one-unit (Handed x k p) (Restored y q) owner kind column = absurd (omega (arith, kind))
one-unit (Handed x k p) (Handed y l q) owner kind column =
    let count : k ≡ l = omega (arith, kind) in
    ap (λ (n : ℕ). Handed (record { 0 = n }) k p) owner ∙ ap (λ (n : ℕ). Handed y n p) count ∙ ap (λ (n : ℕ). Handed y l (record { 0 = n })) column

pub same-place : (u v : LegUnit) (here there : Place) → place u ≡ Some here → place v ≡ Some there → here.row ≡ there.row → here.column ≡ there.column → u ≡ v
same-place u v here there first second row column =
    let one = is-placed u here first in
    let two = is-placed v there second in
    let parts = same-row (owner_of u) (owner_of v) (kind_of u) (kind_of v) one.kind two.kind (sym one.row ∙ row ∙ two.row) in
    one-unit u v parts.0 parts.1 (sym one.column ∙ column ∙ two.column)
