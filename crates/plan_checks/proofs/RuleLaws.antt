-- The items of the rules, and the first that a plan breaks.
use Rattle.std.proofs.Common.{◌≡◌, ℕ, ◌<◌, Bool, not, List, [], ◌∷◌, length, get_or, drop, refl, ap, ◌∙◌, append_assoc, ◌+◌, add-one, drop-cons}
use Rattle.std.specs.Prelude.{find}
use Rattle.std.specs.List.{flat_map}
use Rattle.std.specs.Option.{option_or}
use Rattle.std.proofs.lemmas.List.{append-nil}
use Rattle.std.proofs.lemmas.List.Folds.{find-append}
use Rattle.desk_data.specs.Situation.{Situation}
use Rattle.desk_data.specs.PlanRows.{PlanRows}
use Rattle.desk_rules.specs.Least.{breaks, rotation_items}
use Rattle.plan_checks.specs.declared.rule.Rule.{Rule}
use Rattle.plan_checks.specs.declared.rule.Rule.TheVariants.{C1Due, C2InTime, C3Family, C4Range, C5Location, C6GroundTime, C7Service, C8Maintenance, C9Minutes}
use Rattle.plan_checks.specs.Items.{keeps, item, items_of}

-- an item is broken where its leg or aircraft does not keep the rule
pub breaks-keeps : (I : Situation) (P : PlanRows) (rule : Rule) (n : ℕ) → breaks I P (item rule n) ≡ not (keeps I P rule n)
unfolding breaks
breaks-keeps I P C1Due n = refl
breaks-keeps I P C2InTime n = refl
breaks-keeps I P C3Family n = refl
breaks-keeps I P C4Range n = refl
breaks-keeps I P C5Location n = refl
breaks-keeps I P C6GroundTime n = refl
breaks-keeps I P C7Service n = refl
breaks-keeps I P C8Maintenance n = refl
breaks-keeps I P C9Minutes n = refl

-- the first of the rules that are left: an item of the next one, or the first of those after it
pub next_rule : {R X : Type 0} (p : X → Bool) (items : R → List X) (rules : List R) (i : ℕ) (rule : R) → i < length rules → find p (flat_map items (drop i rules)) ≡ option_or (find p (items (get_or rules i rule))) (find p (flat_map items (drop (i + 1) rules)))
next_rule {R = R} p items rules i rule lt =
    let e : drop i rules ≡ get_or rules i rule ∷ drop (i + 1) rules = rw add-one (drop-cons rules i rule lt) in
    ap (λ (rest : List R). find p (flat_map items rest)) e ∙ find-append p (items (get_or rules i rule)) (flat_map items (drop (i + 1) rules))

-- the items of the nine rules are those of rotations
pub all_items : (I : Situation) → flat_map (items_of I) (C1Due ∷ C2InTime ∷ C3Family ∷ C4Range ∷ C5Location ∷ C6GroundTime ∷ C7Service ∷ C8Maintenance ∷ C9Minutes ∷ []) ≡ rotation_items I
unfolding rotation_items
all_items I = simp (append_assoc, append-nil)
