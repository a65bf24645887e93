-- Plans with other groups for a reservation.
use Rattle.std.proofs.Common.{◌≡◌, ℕ, zero, suc, ◌+◌, ◌<◌, ◌≤◌, min, ◌⊎◌, inl, inr, cond, List, [], ◌∷◌, ◌++◌, length, get_or, refl, sym, ap, subst, ◌∙◌, arith}
use Rattle.std.specs.Prelude.{map}
use Rattle.std.proofs.lemmas.Bool.{cases_eq, cases_lt}
use Rattle.std.proofs.lemmas.List.{length-set, set-get_or, get_or-set_same, get_or-set_other, get_or_past, map-append, get_or_append_left, get_or-append-add}
use Rattle.std.proofs.lemmas.List.Elements.{All-set, All-get_or, All-nil}
use Rattle.desk_units.specs.declared.numbers.Leg.{Leg}
use Rattle.desk_units.specs.declared.numbers.Cabin.{Cabin}
use Rattle.desk_data.specs.declared.row.Group.{Group}
use Rattle.desk_data.specs.Situation.{Situation, legs_of, reservations_of, res_at}
use Rattle.desk_data.specs.PlanRows.{PlanRows, IsGroup, AreGroups, groups_at, with_groups}
use Rattle.desk_data.specs.Valid.{IsPathOf, AreGroupsOf, IsPlanFor}
use Rattle.desk_rules.specs.Numbers.{numbers}
use Rattle.desk_rules.proofs.HourLaws.{length-numbers}
use Rattle.desk_model.specs.Rebook.{passengers_on, count_on, groups_after_rebook, after_rebook, RebooksPassengers}
use Rattle.desk_data.proofs.PathOrder.{pairs_nil}
use Rattle.desk_model.proofs.RebookLaws.{Ascends, groups_after_rebook-adds, groups_after_rebook-groups, groups_after_rebook-of, groups_after_rebook-same, groups_after_rebook-none}

-- ---- the numbers below n

pub numbers-at : (n k d : ℕ) → k < n → get_or (numbers n) k d ≡ k
numbers-at zero k d lt = absurd (omega arith)
numbers-at (suc n) k d lt =
    let cases : (k < n) ⊎ (k ≡ n) = grind arith in
    elim cases [
      | inl less ↦ get_or_append_left (numbers n) (n ∷ []) d k (rw length-numbers less) ∙ numbers-at n k d less
      | inr last ↦
          ap (λ (j : ℕ). get_or (numbers n ++ n ∷ []) j d) (let e : k ≡ length (numbers n) + 0 = omega (arith, length-numbers n, last) in e)
          ∙ get_or-append-add (numbers n) (n ∷ []) 0 d ∙ sym last
    ]

pub map_numbers-agree : {X : Type 0} (f g : ℕ → X) (n : ℕ) → ((k : ℕ) → k < n → f k ≡ g k) → map f (numbers n) ≡ map g (numbers n)
map_numbers-agree f g zero agree = refl
map_numbers-agree f g (suc n) agree =
    map-append f (numbers n) (n ∷ [])
    ∙ rw (map_numbers-agree f g n (λ k lt. agree k (omega arith)), agree n (omega arith)) (sym (map-append g (numbers n) (n ∷ [])))

-- ---- the groups of one reservation

pub groups_at-groups : (I : Situation) (P : PlanRows) (r : ℕ) → IsPlanFor I P → AreGroups (groups_at P r)
groups_at-groups I P r plan =
    elim (cases_lt r (length P.groups)) [
      | inl within ↦ All-get_or AreGroups P.groups r [] within plan.sound.groups
      | inr past ↦ subst AreGroups (sym (get_or_past P.groups r [] past)) (record { each = All-nil IsGroup; ascending = pairs_nil Ascends })
    ]

pub with_groups-same : (P : PlanRows) (r : ℕ) (groups : List Group) → r < length P.groups → groups_at (with_groups P r groups) r ≡ groups
with_groups-same P r groups within = get_or-set_same P.groups r groups [] within

pub with_groups-other : (P : PlanRows) (r s : ℕ) (groups : List Group) → (s ≡ r → ⊥) → groups_at (with_groups P r groups) s ≡ groups_at P s
with_groups-other P r s groups other = get_or-set_other P.groups r s groups [] other

pub with_groups-own : (P : PlanRows) (r : ℕ) (groups : List Group) → groups ≡ groups_at P r → with_groups P r groups ≡ P
with_groups-own P r groups own = ap (λ (gs : List Group). with_groups P r gs) own ∙ ap (λ (all : List (List Group)). let Q : PlanRows = record P { groups = all } in Q) (set-get_or P.groups r [])

pub with_groups-valid : (I : Situation) (P : PlanRows) (r : ℕ) (groups : List Group) → AreGroups groups → (r < reservations_of I → AreGroupsOf (legs_of I) (res_at I r).count groups) → IsPlanFor I P → IsPlanFor I (with_groups P r groups)
with_groups-valid I P r groups sound all plan = record {
  sound = record { rows = plan.sound.rows; groups = All-set AreGroups P.groups r groups sound plan.sound.groups };
  legs = plan.legs;
  res = length-set P.groups r groups ∙ plan.res;
  rows = plan.rows;
  groups = λ s within.
      elim (cases_eq s r) [
        | inl same ↦
            let there : r < length P.groups = let res = plan.res in omega (arith, res, within, same) in
            subst (λ (k : ℕ). AreGroupsOf (legs_of I) (res_at I k).count (groups_at (with_groups P r groups) k)) (sym same)
            (subst (AreGroupsOf (legs_of I) (res_at I r).count) (sym (with_groups-same P r groups there)) (all (subst (λ (k : ℕ). k < reservations_of I) same within)))
        | inr other ↦ subst (AreGroupsOf (legs_of I) (res_at I s).count) (sym (with_groups-other P r s groups other)) (plan.groups s within)
      ];
}

-- ---- Rebook

pub after_rebook-rebooks : (I : Situation) (P : PlanRows) (r : ℕ) (path to : List (Leg × Cabin)) (count : ℕ) → r < reservations_of I → IsPlanFor I P → RebooksPassengers P (after_rebook P r path to count) r path to (min count (count_on path (groups_at P r)))
unfolding after_rebook
after_rebook-rebooks I P r path to count within plan =
    let n = min count (count_on path (groups_at P r)) in
    let few : n ≤ count_on path (groups_at P r) = omega arith in
    let there : r < length P.groups = let res = plan.res in omega (arith, res, within) in
    record {
      rows = refl;
      others = λ s other. with_groups-other P r s (groups_after_rebook path to n (groups_at P r)) other;
      going = λ test.
          subst (λ (groups : List Group). passengers_on test groups + cond (test path) n 0 ≡ passengers_on test (groups_at P r) + cond (test to) n 0)
          (sym (with_groups-same P r (groups_after_rebook path to n (groups_at P r)) there))
          (groups_after_rebook-adds test path to n (groups_at P r) few);
    }

pub after_rebook-same : (I : Situation) (P : PlanRows) (r : ℕ) (path : List (Leg × Cabin)) (count : ℕ) → IsPlanFor I P → after_rebook P r path path count ≡ P
unfolding after_rebook
after_rebook-same I P r path count plan =
    with_groups-own P r _ (groups_after_rebook-same path (min count (count_on path (groups_at P r))) (groups_at P r) (omega arith) (groups_at-groups I P r plan))

pub after_rebook-none : (I : Situation) (P : PlanRows) (r : ℕ) (path to : List (Leg × Cabin)) (count : ℕ) → IsPlanFor I P → count_on path (groups_at P r) ≡ 0 → after_rebook P r path to count ≡ P
unfolding after_rebook
after_rebook-none I P r path to count plan none =
    let zero_moves : min count (count_on path (groups_at P r)) ≡ 0 = omega (arith, none) in
    with_groups-own P r _
    (ap (λ (n : ℕ). groups_after_rebook path to n (groups_at P r)) zero_moves ∙ groups_after_rebook-none path to (groups_at P r) (groups_at-groups I P r plan))

pub after_rebook-valid : (I : Situation) (P : PlanRows) (r : ℕ) (path to : List (Leg × Cabin)) (count : ℕ) → length path ≤ 8 → length to ≤ 8 → IsPathOf (legs_of I) path → IsPathOf (legs_of I) to → IsPlanFor I P → IsPlanFor I (after_rebook P r path to count)
unfolding after_rebook
after_rebook-valid I P r path to count short short_to among among_to plan =
    let n = min count (count_on path (groups_at P r)) in
    with_groups-valid I P r (groups_after_rebook path to n (groups_at P r))
    (groups_after_rebook-groups path to n (groups_at P r) short short_to (groups_at-groups I P r plan))
    (λ within. groups_after_rebook-of (legs_of I) (res_at I r).count path to n (groups_at P r) among among_to (omega arith) (plan.groups r within))
    plan
