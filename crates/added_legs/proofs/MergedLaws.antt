-- The legs and the rows of the merged day and the merged plan.
use Rattle.std.proofs.Common.{◌≡◌, ℕ, zero, suc, ◌+◌, ◌<◌, ◌⊎◌, inl, inr, List, [], ◌∷◌, length, get_or, map, refl, sym, ap, ◌∙◌, arith, length-append}
use Rattle.std.proofs.lemmas.List.{length-map, get_or-map, get_or_append_left, get_or-append-add, get_or_push}
use Rattle.desk_data.specs.declared.row.Row.TheVariants.{Cancelled}
use Rattle.desk_data.specs.Situation.{Situation, legs_of, planes_of, leg_at, no_leg}
use Rattle.desk_data.specs.PlanRows.{PlanRows, row_at}
use Rattle.desk_rules.specs.Numbers.{numbers}
use Rattle.desk_rules.proofs.HourLaws.{length-numbers}
use Rattle.added_legs.specs.declared.added.Added.{Added}
use Rattle.added_legs.specs.Merged.{added_for, leg_for, row_for, added_legs, added_rows, merged_day, merged_plan}
use Rattle.added_legs.specs.Words.{IsUntouched}

-- number k stands at place k
below_cases : (k n : ℕ) → k < suc n → (k < n) ⊎ (k ≡ n)
below_cases k n h = grind arith

pub number_at : (n k d : ℕ) → k < n → get_or (numbers n) k d ≡ k
number_at zero k d lt = absurd (omega arith)
number_at (suc n) k d lt =
    elim (below_cases k n lt) [
      | inl less ↦ get_or_append_left (numbers n) (n ∷ []) d k (omega (arith, length-numbers n)) ∙ number_at n k d less
      | inr same ↦ get_or_push (numbers n) n d k (length-numbers n ∙ sym same) ∙ sym same
    ]

-- what is said of each number, at place k
pub number_said : {X : Type 0} (f : ℕ → X) (n k : ℕ) (d : X) → k < n → get_or (map f (numbers n)) k d ≡ f k
number_said f n k d lt =
    get_or-map f (numbers n) k 0 d (omega (arith, length-numbers n)) ∙ ap f (number_at n k 0 lt)

-- ---- the legs of the merged day

pub old_leg : (I : Situation) (P : PlanRows) (A : List Added) (x : ℕ) → x < legs_of I → leg_at (merged_day I P A) x ≡ leg_at I x
old_leg I P A x lt = get_or_append_left I.parts.legs (added_legs I P A) no_leg x lt

pub new_leg : (I : Situation) (P : PlanRows) (A : List Added) (p : ℕ) → p < planes_of I → leg_at (merged_day I P A) (legs_of I + p) ≡ leg_for I P p (added_for A p)
new_leg I P A p lt =
    get_or-append-add I.parts.legs (added_legs I P A) p no_leg
    ∙ number_said (λ (p : ℕ). leg_for I P p (added_for A p)) (planes_of I) p no_leg lt

pub merged_legs : (I : Situation) (P : PlanRows) (A : List Added) → legs_of (merged_day I P A) ≡ legs_of I + planes_of I
merged_legs I P A =
    length-append I.parts.legs (added_legs I P A)
    ∙ ap (λ (k : ℕ). legs_of I + k) (length-map (numbers (planes_of I)) (λ (p : ℕ). leg_for I P p (added_for A p)) ∙ length-numbers (planes_of I))

-- ---- the rows of the merged plan

pub old_row : (I : Situation) (P : PlanRows) (A : List Added) (x : ℕ) → x < length P.rows → row_at (merged_plan I P A) x ≡ row_at P x
old_row I P A x lt = get_or_append_left P.rows (added_rows I A) Cancelled x lt

pub new_row : (I : Situation) (P : PlanRows) (A : List Added) (p : ℕ) → length P.rows ≡ legs_of I → p < planes_of I → row_at (merged_plan I P A) (legs_of I + p) ≡ row_for p (added_for A p)
new_row I P A p all lt =
    ap (λ (n : ℕ). row_at (merged_plan I P A) (n + p)) (sym all)
    ∙ get_or-append-add P.rows (added_rows I A) p Cancelled
    ∙ number_said (λ (p : ℕ). row_for p (added_for A p)) (planes_of I) p Cancelled lt

pub is_untouched : (I : Situation) (P : PlanRows) (A : List Added) → length P.rows ≡ legs_of I → IsUntouched I P A
is_untouched I P A all = record {
  legs = old_leg I P A;
  rows = λ x lt. old_row I P A x (omega (arith, all, lt));
  groups = refl;
  planes = refl;
  airports = refl;
  orders = refl;
  progress = refl;
}
