-- One group more.
use Rattle.std.proofs.Common.{◌≡◌, ℕ, ◌+◌, List, [], ◌∷◌, ◌++◌, sym, ap, ◌∙◌, add-one}
use Rattle.std.specs.Prelude.{slice_index_or}
use Rattle.std.specs.List.{flat_map}
use Rattle.std.proofs.lemmas.List.{append-nil}
use Rattle.std.proofs.lemmas.Grind.{flat_map-append}
use Rattle.desk_data.specs.declared.row.Group.{Group}
use Rattle.desk_data.specs.Situation.{Situation}
use Rattle.desk_data.specs.PlanRows.{PlanRows, groups_at}
use Rattle.desk_rules.specs.Numbers.{numbers}
use Rattle.page_parts.specs.declared.group_changes.ChangedGroup.{ChangedGroup}
use Rattle.page_parts.specs.Groups.{told, if_changed, no_group, changed_in}

pub place_more : (I : Situation) (P Q : PlanRows) (r k : ℕ) (group : Group) → group ≡ slice_index_or (groups_at Q r) k no_group →
    changed_in I P Q r (k + 1) ≡ changed_in I P Q r k ++ if_changed (told I P Q r k group)
place_more I P Q r k group is =
    let f : ℕ → List ChangedGroup = λ place. if_changed (told I P Q r place (slice_index_or (groups_at Q r) place no_group)) in
    rw (add-one k) (
    flat_map-append f (numbers k) (k ∷ [])
    ∙ ap (λ more. flat_map f (numbers k) ++ more) (append-nil (f k))
    ∙ ap (λ (g : Group). flat_map f (numbers k) ++ if_changed (told I P Q r k g)) (sym is)
    )
