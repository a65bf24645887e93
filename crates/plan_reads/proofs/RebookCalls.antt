-- What the calls of Rebook answer.
use Rattle.std.proofs.Common.{◌≡◌, ℕ, ◌+◌, ◌-◌, ◌<◌, ◌≤◌, min, true, List, sym, ap, subst, ◌∙◌, refl}
use Rattle.desk_units.specs.declared.numbers.Leg.{Leg}
use Rattle.desk_units.specs.declared.numbers.Cabin.{Cabin}
use Rattle.desk_data.specs.declared.row.Group.{Group}
use Rattle.plan_moves.specs.Fits.{IsPathIn}
use Rattle.desk_data.specs.Situation.{Situation, legs_of, reservations_of, res_at}
use Rattle.desk_data.specs.PlanRows.{PlanRows, groups_at, with_groups, same_path}
use Rattle.desk_data.specs.Valid.{IsPlanFor}
use Rattle.desk_model.specs.Rebook.{count_on, with_count, with_fewer, groups_after_rebook, after_rebook}
use Rattle.desk_data.proofs.PathOrder.{path_same, is_eq-holds}
use Rattle.desk_model.proofs.RebookLaws.{groups_after_rebook-groups, groups_after_rebook-of, groups_after_rebook-none}
use Rattle.desk_model.proofs.GroupPlans.{groups_at-groups, with_groups-own, after_rebook-same}
use Rattle.plan_reads.specs.Made.{AreWhole}

pub rebooked_is : (path to : List (Leg × Cabin)) (on moving come : ℕ) (groups fewer : List Group) → on ≡ count_on path groups → fewer ≡ with_count path (on - moving) groups → come ≡ count_on to fewer → with_count to (come + moving) fewer ≡ groups_after_rebook path to moving groups
unfolding groups_after_rebook
rebooked_is path to on moving come groups fewer on_is fewer_is come_is =
    let same : fewer ≡ with_fewer path moving groups = fewer_is ∙ ap (λ (n : ℕ). with_count path (n - moving) groups) on_is in
    ap (λ (n : ℕ). with_count to (n + moving) fewer) come_is ∙ ap (λ (gs : List Group). with_count to (count_on to gs + moving) gs) same

-- the groups of a reservation, with some of its passengers on another path
pub rebooked-whole : (I : Situation) (P : PlanRows) (r : ℕ) (path to : List (Leg × Cabin)) (n : ℕ) (made : List Group) → IsPlanFor I P → r < reservations_of I → IsPathIn (legs_of I) path → IsPathIn (legs_of I) to → n ≤ count_on path (groups_at P r) → made ≡ groups_after_rebook path to n (groups_at P r) → AreWhole I r made
rebooked-whole I P r path to n made plan within path_in to_in few is =
    subst (AreWhole I r) (sym is) (record {
      sound = groups_after_rebook-groups path to n (groups_at P r) path_in.short to_in.short (groups_at-groups I P r plan);
      all = groups_after_rebook-of (legs_of I) (res_at I r).count path to n (groups_at P r) path_in.among to_in.among few (plan.groups r within);
    })

-- where nobody goes, or the paths are one, the groups stay
pub rebook-nobody : (I : Situation) (P : PlanRows) (r : ℕ) (path to : List (Leg × Cabin)) (count : ℕ) → IsPlanFor I P → min count (count_on path (groups_at P r)) ≡ 0 → with_groups P r (groups_at P r) ≡ after_rebook P r path to count
unfolding after_rebook
rebook-nobody I P r path to count plan nobody =
    ap (λ (groups : List Group). with_groups P r groups)
    (sym (ap (λ (n : ℕ). groups_after_rebook path to n (groups_at P r)) nobody ∙ groups_after_rebook-none path to (groups_at P r) (groups_at-groups I P r plan)))

pub rebook-one_path : (I : Situation) (P : PlanRows) (r : ℕ) (path to : List (Leg × Cabin)) (count : ℕ) → IsPlanFor I P → true ≡ same_path path to → with_groups P r (groups_at P r) ≡ after_rebook P r path to count
rebook-one_path I P r path to count plan one =
    with_groups-own P r (groups_at P r) refl
    ∙ sym (after_rebook-same I P r path count plan)
    ∙ ap (λ (other : List (Leg × Cabin)). after_rebook P r path other count) (path_same path to (is_eq-holds _ (sym one)))

pub rebook-made : (P : PlanRows) (r : ℕ) (path to : List (Leg × Cabin)) (count n : ℕ) (made : List Group) → n ≡ min count (count_on path (groups_at P r)) → made ≡ groups_after_rebook path to n (groups_at P r) → with_groups P r made ≡ after_rebook P r path to count
unfolding after_rebook
rebook-made P r path to count n made n_is is =
    ap (λ (groups : List Group). with_groups P r groups) (is ∙ ap (λ (m : ℕ). groups_after_rebook path to m (groups_at P r)) n_is)
