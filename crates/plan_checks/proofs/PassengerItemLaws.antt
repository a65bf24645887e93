-- The first item of passengers that a plan breaks, by rule and one number at a time.
use Rattle.std.proofs.Common.{◌≡◌, ℕ, ◌+◌, Bool, true, false, not, cond, [], ◌∷◌, ◌++◌, refl, ap, ◌∙◌, add-one}
use Rattle.std.specs.Prelude.{find, map, None, Some}
use Rattle.std.specs.Option.{option_or}
use Rattle.std.proofs.lemmas.List.{map-append}
use Rattle.std.proofs.lemmas.List.Folds.{find-append}
use Rattle.desk_data.specs.declared.broken.Broken.{Broken}
use Rattle.desk_data.specs.declared.broken.Broken.TheVariants.{C12, C13, C14, C15}
use Rattle.desk_data.specs.Situation.{Situation}
use Rattle.desk_data.specs.PlanRows.{PlanRows}
use Rattle.desk_rules.specs.Numbers.{numbers}
use Rattle.desk_rules.specs.Carriage.{keeps_c13, keeps_c14, keeps_c15}
use Rattle.desk_rules.specs.Least.{breaks, each_cabin, each_res, pax_items, least_pax, res}

-- one more number, whose item is broken unless its rule is kept
found-more : (I : Situation) (P : PlanRows) (item : ℕ → Broken) (n : ℕ) (kept : Bool) → breaks I P (item n) ≡ not kept → find (breaks I P) (map item (numbers (n + 1))) ≡ option_or (find (breaks I P) (map item (numbers n))) (cond kept None (Some (item n)))
found-more I P item n kept is =
    let one : find (breaks I P) (item n ∷ []) ≡ cond kept None (Some (item n)) = rw is (elim kept as (λ (b : Bool). cond (not b) (Some (item n)) None ≡ cond b None (Some (item n))) [ true ↦ refl | false ↦ refl ]) in
    rw add-one
    (ap (find (breaks I P)) (map-append item (numbers n) (n ∷ []))
    ∙ find-append (breaks I P) (map item (numbers n)) (item n ∷ [])
    ∙ ap (option_or (find (breaks I P) (map item (numbers n)))) one)

pub found-more_c13 : (I : Situation) (P : PlanRows) (r : ℕ) → find (breaks I P) (map (λ r. C13 (res r)) (numbers (r + 1))) ≡ option_or (find (breaks I P) (map (λ r. C13 (res r)) (numbers r))) (cond (keeps_c13 I P r) None (Some (C13 (res r))))
unfolding breaks
found-more_c13 I P r = found-more I P (λ r. C13 (res r)) r (keeps_c13 I P r) refl

pub found-more_c14 : (I : Situation) (P : PlanRows) (r : ℕ) → find (breaks I P) (map (λ r. C14 (res r)) (numbers (r + 1))) ≡ option_or (find (breaks I P) (map (λ r. C14 (res r)) (numbers r))) (cond (keeps_c14 I P r) None (Some (C14 (res r))))
unfolding breaks
found-more_c14 I P r = found-more I P (λ r. C14 (res r)) r (keeps_c14 I P r) refl

pub found-more_c15 : (I : Situation) (P : PlanRows) (r : ℕ) → find (breaks I P) (map (λ r. C15 (res r)) (numbers (r + 1))) ≡ option_or (find (breaks I P) (map (λ r. C15 (res r)) (numbers r))) (cond (keeps_c15 I P r) None (Some (C15 (res r))))
unfolding breaks
found-more_c15 I P r = found-more I P (λ r. C15 (res r)) r (keeps_c15 I P r) refl

-- the items stand by rule
pub least-by_rule : (I : Situation) (P : PlanRows) → least_pax I P ≡ option_or (option_or (option_or (find (breaks I P) (each_cabin I C12)) (find (breaks I P) (each_res I C13))) (find (breaks I P) (each_res I C14))) (find (breaks I P) (each_res I C15))
unfolding least_pax pax_items
least-by_rule I P =
    find-append (breaks I P) (each_cabin I C12 ++ each_res I C13 ++ each_res I C14) (each_res I C15)
    ∙ ap (λ first. option_or first (find (breaks I P) (each_res I C15)))
    (find-append (breaks I P) (each_cabin I C12 ++ each_res I C13) (each_res I C14)
    ∙ ap (λ first. option_or first (find (breaks I P) (each_res I C14))) (find-append (breaks I P) (each_cabin I C12) (each_res I C13)))
