use Rattle.std.proofs.Common.{◌≡◌, ℕ, true, List, sym, ap, ◌∙◌}
use Rattle.std.specs.Ordering.{is_eq}
use Rattle.desk_units.specs.declared.numbers.Leg.{Leg}
use Rattle.desk_units.specs.declared.numbers.Cabin.{Cabin}
use Rattle.desk_data.specs.declared.row.Group.{Group}
use Rattle.desk_data.specs.PlanRows.{path_cmp, same_path}
use Rattle.desk_data.proofs.PathOrder.{is_eq-holds, path_same, path_itself}
use Rattle.plan_pages.proofs.same.is_same_group.Goals as goal

group_is : (g h : Group) → g.count ≡ h.count → g.path ≡ h.path → h ≡ g
group_is g h count path =
    let one : Group = record { count = h.count; path = g.path } in
    let first : g ≡ one = ap (λ (n : ℕ). let it : Group = record { count = n; path = g.path } in it) count in
    let second : one ≡ h = ap (λ (p : List (Leg × Cabin)). let it : Group = record { count = h.count; path = p } in it) path in
    sym (first ∙ second)

pub returns-then-group-other-clause-yes : goal.returns-then-group-other-clause-yes
returns-then-group-other-clause-yes c = λ is.
    (let g = c.args.group.now in
    let h = c.args.other.now in
    let same : same_path g.path h.path ≡ true =
    sym (c.same_path.ensures
    ∙ ap (λ (p : List (Leg × Cabin)). same_path p c.as_slice-then-group-other.result.now) c.as_slice.ensures
    ∙ ap (same_path g.path) c.as_slice-then-group-other.ensures) ∙ is in
    group_is g h c.if-group-other.true (path_same g.path h.path (is_eq-holds (path_cmp g.path h.path) same)))

pub returns-then-group-other-clause-no : goal.returns-then-group-other-clause-no
returns-then-group-other-clause-no c = λ is.
    (let g = c.args.group.now in
    let path : c.args.other.now.path ≡ g.path = ap (λ (it : Group). it.path) is in
    c.same_path.ensures
    ∙ ap (λ (p : List (Leg × Cabin)). same_path p c.as_slice-then-group-other.result.now) c.as_slice.ensures
    ∙ ap (same_path g.path) (c.as_slice-then-group-other.ensures ∙ path)
    ∙ ap is_eq (path_itself g.path))
