-- The group at a place.
use Rattle.std.proofs.Common.{◌≡◌, ℕ, ◌<◌, List, length, get_or, ap, subst, ◌∙◌}
use Rattle.std.proofs.lemmas.List.{get_or_default}
use Rattle.desk_data.specs.declared.row.Group.{Group}
use Rattle.desk_data.specs.PlanRows.{PlanRows, groups_at, AreGroups}
use Rattle.desk_model.specs.Rebook.{count_on}
use Rattle.near_moves.proofs.RebookingLaws.{count_at}
use Rattle.near_pax.specs.Units.{no_group, group_at}

pub group-here : (P : PlanRows) (r place : ℕ) (groups : List Group) (group : Group) → groups ≡ groups_at P r → place < length (groups_at P r) → group ≡ get_or groups place group → group ≡ group_at P r place
group-here P r place groups group are lt is =
    is ∙ ap (λ (gs : List Group). get_or gs place group) are ∙ get_or_default (groups_at P r) place group no_group lt

pub group-count : (P : PlanRows) (r place : ℕ) (groups : List Group) → groups ≡ groups_at P r → AreGroups groups → place < length (groups_at P r) → count_on (group_at P r place).path (groups_at P r) ≡ (group_at P r place).count
group-count P r place groups are sound lt =
    let own : AreGroups (groups_at P r) = subst AreGroups are sound in
    count_at (groups_at P r) place no_group own.ascending lt
