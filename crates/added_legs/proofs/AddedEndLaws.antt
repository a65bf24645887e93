-- Where aircraft end.
use Rattle.std.proofs.Common.{◌≡◌, ℕ, ◌+◌, ◌<◌, ◌⊎◌, inl, inr, true, false, List, length, refl, sym, ap, subst, ◌∙◌, arith}
use Rattle.std.specs.Prelude.{Option, Some, None, unwrap_or}
use Rattle.std.proofs.lemmas.Bool.{cases_Bool, and_parts, and_from, and_left, true≢false}
use Rattle.std.proofs.lemmas.Bool.Decides.{nat_tests}
use Rattle.desk_units.specs.declared.numbers.Plane.{Plane}
use Rattle.desk_units.specs.declared.numbers.Minute.{Minute}
use Rattle.desk_data.specs.declared.row.Row.{Row}
use Rattle.desk_data.specs.declared.row.Row.TheVariants.{Flown}
use Rattle.desk_data.specs.declared.info.LegInfo.{LegInfo}
use Rattle.desk_data.specs.Situation.{Situation, legs_of, planes_of, leg_at}
use Rattle.desk_data.specs.PlanRows.{PlanRows, row_at}
use Rattle.desk_rules.specs.Numbers.{none_below}
use Rattle.desk_rules.specs.Rotations.{comes_before, precedes}
use Rattle.desk_rules.specs.Maintenance.{flies}
use Rattle.desk_rules.specs.Words.{Flies}
use Rattle.desk_rules.specs.Least.{leg}
use Rattle.desk_rules.proofs.Tests.{none_below-holds, none_below-from}
use Rattle.desk_rules.proofs.RotationLaws.{precedes-holds}
use Rattle.desk_rules.proofs.MaintenanceLaws.{flies-holds, flies-from}
use Rattle.desk_rules.proofs.FindLaws.{first_of_numbers, numbers_none}
use Rattle.plan_reads.specs.Last.{stand}
use Rattle.added_legs.specs.declared.added.Added.{Added}
use Rattle.added_legs.specs.Merged.{is_last_leg, last_leg, plane_end, minutes_to, added_for, leg_for, row_for, merged_day, merged_plan}
use Rattle.added_legs.specs.Words.{EndsAt, IsFlownBeside}
use Rattle.added_legs.proofs.MergedLaws.{new_leg, new_row}

-- of two legs of an aircraft that are not one, one comes before the other
one_of_rows : (x y : ℕ) (p : Plane) (dx dy : Minute) → (x < y) ⊎ (y < x) → comes_before x (Flown p dx) y (Flown p dy) ≡ false → comes_before y (Flown p dy) x (Flown p dx) ≡ true
one_of_rows x y p dx dy apart off = grind (arith, nat_tests)

one_before : (p x y : ℕ) (P : PlanRows) (dx dy : ℕ) → Flies P x p dx → Flies P y p dy → (x < y) ⊎ (y < x) → precedes P x y ≡ false → precedes P y x ≡ true
one_before p x y P dx dy flown other apart off =
    let first : comes_before x (Flown (record { 0 = p }) (record { 0 = dx })) y (Flown (record { 0 = p }) (record { 0 = dy })) ≡ false = rw (flown, other) at off in
    rw (flown, other) (one_of_rows x y (record { 0 = p }) (record { 0 = dx }) (record { 0 = dy }) apart first)

-- the leg that is last is the one that is found
pub last_found : (I : Situation) (P : PlanRows) (p x d : ℕ) → x < legs_of I → Flies P x p d → none_below (legs_of I) (λ z. precedes P x z) ≡ true → last_leg I P p ≡ Some (leg x)
unfolding last_leg
last_found I P p x d lt flown last =
    first_of_numbers (is_last_leg I P p) leg (legs_of I) x lt
    (and_from (flies P p x) (none_below (legs_of I) (λ z. precedes P x z)) (flies-from P p x d flown) last)
    (λ y before. elim (cases_Bool (is_last_leg I P p (leg y))) [
      | inr off ↦ off
      | inl on ↦
          let parts = and_parts (flies P p y) (none_below (legs_of I) (λ z. precedes P y z)) on in
          let own : precedes P x y ≡ false = none_below-holds (legs_of I) (λ z. precedes P x z) last y (omega arith) in
          let later : precedes P y x ≡ false = none_below-holds (legs_of I) (λ z. precedes P y z) parts.1 x lt in
          absurd (true≢false (sym (one_before p x y P d _ flown (flies-holds P p y parts.0) (inr before) own) ∙ later))
    ])

pub none_found : (I : Situation) (P : PlanRows) (p : ℕ) → ((x : ℕ) → x < legs_of I → flies P p x ≡ false) → last_leg I P p ≡ None
unfolding last_leg
none_found I P p none =
    numbers_none (is_last_leg I P p) leg (legs_of I) (λ x lt. and_left (flies P p x) (none_below (legs_of I) (λ z. precedes P x z)) (none x lt))

not_flown : (P : PlanRows) (p x : ℕ) → ((d : ℕ) → Flies P x p d → ⊥) → flies P p x ≡ false
not_flown P p x none =
    elim (cases_Bool (flies P p x)) [
      | inr off ↦ off
      | inl on ↦ absurd (none _ (flies-holds P p x on))
    ]

pub ends_at : (I : Situation) (P : PlanRows) (p : ℕ) → EndsAt I P p (plane_end I P p)
unfolding plane_end
ends_at I P p = record {
  last = λ x d lt flown last.
      ap (stand I p) (last_found I P p x d lt flown (none_below-from (legs_of I) (λ z. precedes P x z) (λ z below before. last z below (precedes-holds P x z before))));
  none = λ none. ap (stand I p) (none_found I P p (λ x lt. not_flown P p x (λ d flown. none x d lt flown)));
}

-- ---- the added leg of an aircraft in the merged day

beside : (I : Situation) (P : PlanRows) (p : ℕ) (a : Added) → IsFlownBeside I P p a (leg_for I P p (Some a)) (row_for p (Some a))
beside I P p a = record {
  leaves = ends_at I P p;
  arrives = refl;
  flown = refl;
  minutes = λ minutes is. (let same : minutes_to I P p a.dest ≡ minutes = ap (λ (way : Option ℕ). unwrap_or way 0) is in (same, same));
  alone = refl;
}

pub is_beside : (I : Situation) (P : PlanRows) (A : List Added) (p : ℕ) (a : Added) → length P.rows ≡ legs_of I → p < planes_of I → added_for A p ≡ Some a → IsFlownBeside I P p a (leg_at (merged_day I P A) (legs_of I + p)) (row_at (merged_plan I P A) (legs_of I + p))
is_beside I P A p a all lt is =
    subst (λ (l : LegInfo). IsFlownBeside I P p a l (row_at (merged_plan I P A) (legs_of I + p))) (sym (new_leg I P A p lt ∙ ap (leg_for I P p) is))
    (subst (λ (r : Row). IsFlownBeside I P p a (leg_for I P p (Some a)) r) (sym (new_row I P A p all lt ∙ ap (row_for p) is))
    (beside I P p a))
