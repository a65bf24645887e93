-- What is told of each aircraft, one aircraft more.
use Rattle.std.proofs.Common.{◌≡◌, ℕ, ◌+◌, ◌<◌, inl, inr, List, [], ◌∷◌, ◌++◌, length, get_or, sym, ap, subst, ◌∙◌, arith, length-append}
use Rattle.std.specs.Prelude.{Option, None}
use Rattle.std.specs.Option.{ForSome}
use Rattle.std.proofs.lemmas.List.{get_or_append_left, get_or-append-add}
use Rattle.std.proofs.lemmas.Bool.{cases_lt}
use Rattle.desk_data.specs.Situation.{Situation}
use Rattle.desk_data.specs.PlanRows.{PlanRows}
use Rattle.near_dear.specs.Times.{ArePlaneTimes}
use Rattle.near_dear.specs.declared.times.PlaneTimes.{PlaneTimes}
use Rattle.near_search.specs.Rotations.{AreTimes}

pub times-more : (I : Situation) (P : PlanRows) (n : ℕ) (times : List (Option PlaneTimes)) (time : Option PlaneTimes) → AreTimes I P n times → ForSome time (ArePlaneTimes I P n) → AreTimes I P (n + 1) (times ++ time ∷ [])
times-more I P n times time are one =
    let long : length (times ++ time ∷ []) ≡ length times + 1 = length-append times (time ∷ []) in
    let so_far = are.planes in
    record {
      planes = omega (arith, long, so_far);
      each = λ p lt.
          elim (cases_lt p n) [
            | inl less ↦
                let sooner : p < length times = omega (arith, less, so_far) in
                subst (λ (o : Option PlaneTimes). ForSome o (ArePlaneTimes I P p)) (sym (get_or_append_left times (time ∷ []) None p sooner)) (are.each p less)
            | inr past ↦
                let same : n ≡ p = omega (arith, lt, past) in
                let here : length times ≡ p = so_far ∙ same in
                let end : get_or (times ++ time ∷ []) (length times) None ≡ time = ap (λ (k : ℕ). get_or (times ++ time ∷ []) k None) (omega arith) ∙ get_or-append-add times (time ∷ []) 0 None in
                let is : get_or (times ++ time ∷ []) p None ≡ time = ap (λ (k : ℕ). get_or (times ++ time ∷ []) k None) (sym here) ∙ end in
                subst (λ (o : Option PlaneTimes). ForSome o (ArePlaneTimes I P p)) (sym is) (subst (λ (k : ℕ). ForSome time (ArePlaneTimes I P k)) same one)
          ];
    }
