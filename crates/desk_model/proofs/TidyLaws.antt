-- What Tidy does.
use Rattle.std.proofs.Common.{◌≡◌, ℕ, ◌+◌, ◌<◌, ◌≤◌, inl, inr, Bool, true, false, ◌&&◌, not, List, [], ◌∷◌, ◌++◌, length, refl, sym, ap, subst, ◌∙◌, arith}
use Rattle.std.specs.Prelude.{filter, map}
use Rattle.std.specs.List.{All, AllByRecursion, list_all}
use Rattle.std.specs.Ordering.{is_eq}
use Rattle.std.specs.declared.cmp.Ordering.TheVariants.{Less}
use Rattle.std.proofs.lemmas.Bool.{true≢false, cases_Bool, cases_eq, and_parts, and_from, eq-eqb, ne_eqb}
use Rattle.std.proofs.lemmas.List.{length-map, get_or-map}
use Rattle.std.proofs.lemmas.List.Elements.{All-nil, All-append, All-filter, All-map, All-weaker, filter_passes, filter-append, recursion_from_All}
use Rattle.std.proofs.lemmas.List.Folds.{list_all-append}
use Rattle.std.proofs.lemmas.List.Kept.{AllPairs-filter}
use Rattle.std.proofs.lemmas.List.Sums.{sum_by-cons, sum_by-append, list_all-from_AllPass}
use Rattle.desk_units.specs.declared.numbers.Leg.{Leg}
use Rattle.desk_units.specs.declared.numbers.Cabin.{Cabin}
use Rattle.desk_data.specs.declared.row.Group.{Group}
use Rattle.desk_data.specs.Begun.{AreNoMoreCarried}
use Rattle.desk_data.specs.Situation.{Situation, legs_of, reservations_of, res_at, bound}
use Rattle.desk_data.specs.PlanRows.{PlanRows, IsGroup, AreGroups, groups_at, path_cmp, same_path}
use Rattle.desk_data.specs.Valid.{IsPathOf, AreGroupsOf, IsPlanFor}
use Rattle.desk_data.proofs.BoundLaws.{bound-fewer, bound-from, bound-holds}
use Rattle.desk_rules.specs.Numbers.{numbers, implies}
use Rattle.desk_rules.specs.Passengers.{all_flown, connects}
use Rattle.desk_data.specs.Paths.{is_carried}
use Rattle.desk_rules.specs.Carriage.{each_carried, is_good_path, is_in_time_path, keeps_c13, keeps_c14, keeps_c15}
use Rattle.desk_rules.proofs.HourLaws.{length-numbers}
use Rattle.desk_rules.proofs.Tests.{implies-from}
use Rattle.desk_rules.proofs.CarriageLaws.{is_good_path-holds, is_good_path-from, is_in_time-holds, is_in_time-from, keeps_c13-holds, keeps_c14-holds, keeps_c15-holds}
use Rattle.desk_model.specs.Rebook.{passengers_on, count_on, group_of}
use Rattle.desk_model.specs.Tidy.{is_fit_path, IsFit, stays_carried, groups_after_tidy, after_tidy, TidiesReservation}
use Rattle.desk_data.proofs.PathOrder.{path_same, is_eq-holds, pairs_append}
use Rattle.desk_model.proofs.RebookLaws.{amount, Ascends, one_group, one_group-all, one_group-pairs}
use Rattle.desk_model.proofs.GroupPlans.{numbers-at, map_numbers-agree, groups_at-groups}

-- ---- other groups leave what a path's legs say

pub good_path-groups : (I : Situation) (P : PlanRows) (groups : List (List Group)) (r : ℕ) (path : List (Leg × Cabin)) → is_good_path I (record P { groups = groups }) r path ≡ is_good_path I P r path
unfolding is_good_path all_flown connects
good_path-groups I P groups r path = refl

pub in_time-groups : (I : Situation) (P : PlanRows) (groups : List (List Group)) (r : ℕ) (path : List (Leg × Cabin)) → is_in_time_path I (record P { groups = groups }) r path ≡ is_in_time_path I P r path
unfolding is_in_time_path all_flown
in_time-groups I P groups r path = refl

-- ---- some groups, those on paths that pass a test as they are and everyone else not carried

module _ (stays : List (Leg × Cabin) → Bool) where
  abbrev pub leaves : List (Leg × Cabin) → Bool
  leaves path = not (stays path)

  abbrev pub stayers : List Group → List Group
  stayers groups = filter (λ group. stays group.path) groups

  -- the passengers who leave and those who stay are all
  parts_add : (test : List (Leg × Cabin) → Bool) (groups : List Group) → passengers_on (λ path. leaves path && test path) groups + passengers_on test (stayers groups) ≡ passengers_on test groups
  parts_add test [] = refl
  parts_add test (group ∷ groups) =
      let ih = parts_add test groups in
      let leave = sum_by-cons (amount (λ path. leaves path && test path)) group groups in
      let all = sum_by-cons (amount test) group groups in
      elim (cases_Bool (stays group.path)) [
        | inl passes ↦
            let none : amount (λ path. leaves path && test path) group ≡ 0 = rw passes refl in
            let kept : stayers (group ∷ groups) ≡ group ∷ stayers groups = rw passes refl in
            let one = sum_by-cons (amount test) group (stayers groups) in
            ap (λ (rest : List Group). passengers_on (λ path. leaves path && test path) (group ∷ groups) + passengers_on test rest) kept ∙ omega (arith, ih, leave, all, none, one)
        | inr fails ↦
            let own : amount (λ path. leaves path && test path) group ≡ amount test group = rw fails refl in
            let gone : stayers (group ∷ groups) ≡ stayers groups = rw fails refl in
            ap (λ (rest : List Group). passengers_on (λ path. leaves path && test path) (group ∷ groups) + passengers_on test rest) gone ∙ omega (arith, ih, leave, all, own)
      ]

  -- a test that only paths that stay pass counts them all
  stayers-all : (test : List (Leg × Cabin) → Bool) (groups : List Group) → ((path : List (Leg × Cabin)) → test path ≡ true → stays path ≡ true) → passengers_on test (stayers groups) ≡ passengers_on test groups
  stayers-all test [] within = refl
  stayers-all test (group ∷ groups) within =
      let ih = stayers-all test groups within in
      let all = sum_by-cons (amount test) group groups in
      elim (cases_Bool (stays group.path)) [
        | inl passes ↦
            let kept : stayers (group ∷ groups) ≡ group ∷ stayers groups = rw passes refl in
            let one = sum_by-cons (amount test) group (stayers groups) in
            ap (passengers_on test) kept ∙ omega (arith, ih, all, one)
        | inr fails ↦
            let not_counted : test group.path ≡ false = elim (cases_Bool (test group.path)) [ inl counted ↦ absurd (true≢false (sym (within group.path counted) ∙ fails)) | inr no_count ↦ no_count ] in
            let none : amount test group ≡ 0 = rw not_counted refl in
            let gone : stayers (group ∷ groups) ≡ stayers groups = rw fails refl in
            ap (passengers_on test) gone ∙ omega (arith, ih, all, none)
      ]

  -- a test that no path that stays passes counts none
  stayers-none : (test : List (Leg × Cabin) → Bool) (groups : List Group) → ((path : List (Leg × Cabin)) → stays path ≡ true → test path ≡ false) → passengers_on test (stayers groups) ≡ 0
  stayers-none test [] apart = refl
  stayers-none test (group ∷ groups) apart =
      let ih = stayers-none test groups apart in
      elim (cases_Bool (stays group.path)) [
        | inl passes ↦
            let none : amount test group ≡ 0 = rw (apart group.path passes) refl in
            let kept : stayers (group ∷ groups) ≡ group ∷ stayers groups = rw passes refl in
            let one = sum_by-cons (amount test) group (stayers groups) in
            ap (passengers_on test) kept ∙ omega (arith, ih, one, none)
        | inr fails ↦
            let gone : stayers (group ∷ groups) ≡ stayers groups = rw fails refl in
            ap (passengers_on test) gone ∙ ih
      ]

  abbrev pub tidy_groups : List Group → List Group
  tidy_groups groups = group_of (passengers_on leaves groups) [] ++ stayers groups

  -- what is carried on the tidy_groups groups
  tidy_groups-count : (test : List (Leg × Cabin) → Bool) (groups : List Group) → test [] ≡ false → passengers_on test (tidy_groups groups) ≡ passengers_on test (stayers groups)
  tidy_groups-count test groups empty =
      let both = sum_by-append (amount test) (group_of (passengers_on leaves groups) []) (stayers groups) in
      let one : passengers_on test (group_of (passengers_on leaves groups) []) ≡ 0 = one_group test [] (passengers_on leaves groups) ∙ rw empty refl in
      omega (arith, both, one)

  all_pass-stayers : (groups : List Group) → All (λ (group : Group). stays group.path ≡ true) (stayers groups)
  all_pass-stayers groups = filter_passes (λ (group : Group). stays group.path) groups

  stayers-again : (groups : List Group) → AllByRecursion (λ (group : Group). stays group.path ≡ true) groups → stayers groups ≡ groups
  stayers-again [] all = refl
  stayers-again (group ∷ groups) all = rw all.0 (ap (λ (rest : List Group). group ∷ rest) (stayers-again groups all.1))

  leaving-none : (groups : List Group) → AllByRecursion (λ (group : Group). stays group.path ≡ true) groups → passengers_on leaves groups ≡ 0
  leaving-none [] all = refl
  leaving-none (group ∷ groups) all =
      let none : amount leaves group ≡ 0 = rw all.0 refl in
      omega (arith, sum_by-cons (amount leaves) group groups, none, leaving-none groups all.1)

  -- groups of n passengers who are not carried and of others who all stay are tidy
  tidy_groups-again : (n : ℕ) (groups : List Group) → stays [] ≡ false → AllByRecursion (λ (group : Group). stays group.path ≡ true) groups → tidy_groups (group_of n [] ++ groups) ≡ group_of n [] ++ groups
  tidy_groups-again n groups empty all =
      let both = sum_by-append (amount leaves) (group_of n []) groups in
      let one : passengers_on leaves (group_of n []) ≡ n = one_group leaves [] n ∙ rw empty refl in
      let count : passengers_on leaves (group_of n [] ++ groups) ≡ n = omega (arith, both, one, leaving-none groups all) in
      let front : stayers (group_of n []) ≡ [] =
      elim (cases_eq n 0) [
        | inl none ↦ rw (eq-eqb n 0 none) refl
        | inr some ↦ rw (ne_eqb n 0 some) (rw empty refl)
      ] in
      let kept : stayers (group_of n [] ++ groups) ≡ groups =
      filter-append (λ (group : Group). stays group.path) (group_of n []) groups ∙ rw (front, stayers-again groups all) refl in
      rw (count, kept) refl

  tidy_groups-groups : (groups : List Group) → ((path : List (Leg × Cabin)) → stays path ≡ true → path_cmp [] path ≡ Less) → AreGroups groups → AreGroups (tidy_groups groups)
  tidy_groups-groups groups carried sound =
      let n = passengers_on leaves groups in
      let others : (one : Group) → one.path ≡ [] → 1 ≤ one.count → All (Ascends one) (stayers groups) =
      λ one is some. All-weaker (λ (group : Group). stays group.path ≡ true) (Ascends one)
      (λ group passes. subst (λ (path : List (Leg × Cabin)). path_cmp path group.path ≡ Less) (sym is) (carried group.path passes)) (stayers groups) (all_pass-stayers groups) in
      record {
        each = All-append IsGroup (group_of n []) (stayers groups)
            (one_group-all IsGroup [] n (λ group is some. record { some = some; short = subst (λ (path : List (Leg × Cabin)). length path ≤ 8) (sym is) (omega arith) }))
            (All-filter (λ (group : Group). stays group.path) IsGroup groups sound.each);
        ascending = pairs_append Ascends (group_of n []) (stayers groups) (one_group-pairs [] n)
            (AllPairs-filter Ascends (λ (group : Group). stays group.path) groups sound.ascending)
            (one_group-all (λ (one : Group). All (Ascends one) (stayers groups)) [] n others);
      }

  leaves_alone : (groups : List Group) → passengers_on (λ path. leaves path && true) groups ≡ passengers_on leaves groups
  leaves_alone [] = refl
  leaves_alone (group ∷ groups) =
      let same : amount (λ path. leaves path && true) group ≡ amount leaves group = elim (cases_Bool (stays group.path)) [ inl passes ↦ rw passes refl | inr fails ↦ rw fails refl ] in
      omega (arith, sum_by-cons (amount (λ path. leaves path && true)) group groups, sum_by-cons (amount leaves) group groups, same, leaves_alone groups)

  tidy_groups-of : (legs count : ℕ) (groups : List Group) → AreGroupsOf legs count groups → AreGroupsOf legs count (tidy_groups groups)
  tidy_groups-of legs count groups sound =
      let n = passengers_on leaves groups in
      let P : Group → Type 0 = λ group. IsPathOf legs group.path in
      record {
        paths = All-append P (group_of n []) (stayers groups)
            (one_group-all P [] n (λ group is some. subst (IsPathOf legs) (sym is) (All-nil (λ (pair : Leg × Cabin). pair.0.0 < legs))))
            (All-filter (λ (group : Group). stays group.path) P groups sound.paths);
        all =
            let both = sum_by-append (amount (λ path. true)) (group_of n []) (stayers groups) in
            let one : passengers_on (λ path. true) (group_of n []) ≡ n = one_group (λ path. true) [] n in
            let parts = parts_add (λ path. true) groups in
            let leave : passengers_on (λ path. leaves path && true) groups ≡ n = leaves_alone groups in
            let all = sound.all in
            omega (arith, both, one, parts, leave, all);
      }

-- ---- a reservation

stays_nil : (I : Situation) (P : PlanRows) (r : ℕ) → stays_carried I P r [] ≡ false
stays_nil I P r = refl

carried_after : (path : List (Leg × Cabin)) → is_carried path ≡ true → path_cmp [] path ≡ Less
carried_after [] h = absurd (true≢false (sym h))
carried_after (pair ∷ path) h = refl

stays_after : (I : Situation) (P : PlanRows) (r : ℕ) (path : List (Leg × Cabin)) → stays_carried I P r path ≡ true → path_cmp [] path ≡ Less
stays_after I P r path h = carried_after path (and_parts (is_carried path) (is_fit_path I P r path) h).0

tidy-is : (I : Situation) (P : PlanRows) (r : ℕ) → groups_after_tidy I P r ≡ tidy_groups (stays_carried I P r) (groups_at P r)
unfolding groups_after_tidy
tidy-is I P r = refl

pub after_tidy-at : (I : Situation) (P : PlanRows) (r : ℕ) → r < reservations_of I → groups_at (after_tidy I P) r ≡ groups_after_tidy I P r
unfolding after_tidy
after_tidy-at I P r within =
    get_or-map (groups_after_tidy I P) (numbers (reservations_of I)) r 0 [] (rw length-numbers within)
    ∙ ap (groups_after_tidy I P) (numbers-at (reservations_of I) r 0 within)

pub after_tidy-rows : (I : Situation) (P : PlanRows) → (after_tidy I P).rows ≡ P.rows
unfolding after_tidy
after_tidy-rows I P = refl

pub after_tidy-valid : (I : Situation) (P : PlanRows) → IsPlanFor I P → IsPlanFor I (after_tidy I P)
unfolding after_tidy
after_tidy-valid I P plan = record {
  sound = record {
    rows = plan.sound.rows;
    groups = All-map AreGroups (groups_after_tidy I P) (numbers (reservations_of I)) (λ k d within.
        subst AreGroups (sym (tidy-is I P _)) (tidy_groups-groups (stays_carried I P _) (groups_at P _) (stays_after I P _) (groups_at-groups I P _ plan)));
  };
  legs = plan.legs;
  res = length-map (numbers (reservations_of I)) (groups_after_tidy I P) ∙ length-numbers (reservations_of I);
  rows = plan.rows;
  groups = λ r within.
      subst (AreGroupsOf (legs_of I) (res_at I r).count) (sym (unfold after_tidy in after_tidy-at I P r within ∙ tidy-is I P r))
      (tidy_groups-of (stays_carried I P r) (legs_of I) (res_at I r).count (groups_at P r) (plan.groups r within));
}

-- ---- what is carried then

-- no more passengers are carried than before
tidy-no_more : (I : Situation) (P : PlanRows) (r : ℕ) → r < reservations_of I → AreNoMoreCarried (groups_at (after_tidy I P) r) (groups_at P r)
tidy-no_more I P r within test =
    let stays = stays_carried I P r in
    let carried : List (Leg × Cabin) → Bool = λ path. is_carried path && test path in
    let there : groups_at (after_tidy I P) r ≡ tidy_groups stays (groups_at P r) = after_tidy-at I P r within ∙ tidy-is I P r in
    let same : passengers_on carried (groups_at (after_tidy I P) r) ≡ passengers_on carried (stayers stays (groups_at P r)) = ap (passengers_on carried) there ∙ tidy_groups-count stays carried (groups_at P r) refl in
    let parts = parts_add stays carried (groups_at P r) in
    omega (arith, same, parts)

fit_parts : (I : Situation) (P : PlanRows) (r : ℕ) (path : List (Leg × Cabin)) → is_fit_path I P r path ≡ true → (is_good_path I P r path ≡ true) × (is_in_time_path I P r path ≡ true) × (bound I r (groups_at P r) path ≡ true)
unfolding is_fit_path
fit_parts I P r path h =
    let outer = and_parts (is_good_path I P r path && is_in_time_path I P r path) (bound I r (groups_at P r) path) h in
    let inner = and_parts (is_good_path I P r path) (is_in_time_path I P r path) outer.0 in
    (inner.0, inner.1, outer.1)

fit_from : (I : Situation) (P : PlanRows) (r : ℕ) (path : List (Leg × Cabin)) → is_good_path I P r path ≡ true → is_in_time_path I P r path ≡ true → bound I r (groups_at P r) path ≡ true → is_fit_path I P r path ≡ true
unfolding is_fit_path
fit_from I P r path good in_time is_bound =
    and_from (is_good_path I P r path && is_in_time_path I P r path) (bound I r (groups_at P r) path) (and_from (is_good_path I P r path) (is_in_time_path I P r path) good in_time) is_bound

pub is_fit-holds : (I : Situation) (P : PlanRows) (r : ℕ) (path : List (Leg × Cabin)) → is_fit_path I P r path ≡ true → IsFit I P r path
is_fit-holds I P r path fit =
    let parts = fit_parts I P r path fit in
    record { there = is_good_path-holds I P r path parts.0; in_time = is_in_time-holds I P r path parts.1; keeps = bound-holds I r (groups_at P r) path parts.2 }

pub is_fit-from : (I : Situation) (P : PlanRows) (r : ℕ) (path : List (Leg × Cabin)) → IsFit I P r path → is_fit_path I P r path ≡ true
is_fit-from I P r path fit =
    fit_from I P r path (is_good_path-from I P r path fit.there) (is_in_time-from I P r path fit.in_time) (bound-from I r (groups_at P r) path fit.keeps)

tidy-good : (I : Situation) (P : PlanRows) (r : ℕ) (path : List (Leg × Cabin)) → is_good_path I (after_tidy I P) r path ≡ is_good_path I P r path
unfolding after_tidy
tidy-good I P r path = good_path-groups I P (map (groups_after_tidy I P) (numbers (reservations_of I))) r path

tidy-in_time : (I : Situation) (P : PlanRows) (r : ℕ) (path : List (Leg × Cabin)) → is_in_time_path I (after_tidy I P) r path ≡ is_in_time_path I P r path
unfolding after_tidy
tidy-in_time I P r path = in_time-groups I P (map (groups_after_tidy I P) (numbers (reservations_of I))) r path

-- a path that is fit before the step is fit after it
pub tidy-fit : (I : Situation) (P : PlanRows) (r : ℕ) (path : List (Leg × Cabin)) → r < reservations_of I → is_fit_path I P r path ≡ true → is_fit_path I (after_tidy I P) r path ≡ true
tidy-fit I P r path within fit =
    let parts = fit_parts I P r path fit in
    fit_from I (after_tidy I P) r path
    (tidy-good I P r path ∙ parts.0)
    (tidy-in_time I P r path ∙ parts.1)
    (bound-fewer I r (groups_at (after_tidy I P) r) (groups_at P r) path (tidy-no_more I P r within) parts.2)

-- each path that stays carried is fit after the step, and stays carried then
staying_fit : (I : Situation) (P : PlanRows) (r : ℕ) (path : List (Leg × Cabin)) → r < reservations_of I → stays_carried I P r path ≡ true → stays_carried I (after_tidy I P) r path ≡ true
staying_fit I P r path within stays =
    let parts = and_parts (is_carried path) (is_fit_path I P r path) stays in
    and_from (is_carried path) (is_fit_path I (after_tidy I P) r path) parts.0 (tidy-fit I P r path within parts.1)

tidy_again : (I : Situation) (P : PlanRows) → map (groups_after_tidy I (after_tidy I P)) (numbers (reservations_of I)) ≡ map (groups_after_tidy I P) (numbers (reservations_of I)) → after_tidy I (after_tidy I P) ≡ after_tidy I P
unfolding after_tidy
tidy_again I P same = ap (λ (groups : List (List Group)). let Q : PlanRows = record P { groups = groups } in Q) same

pub after_tidy-twice : (I : Situation) (P : PlanRows) → after_tidy I (after_tidy I P) ≡ after_tidy I P
after_tidy-twice I P =
    let each : (r : ℕ) → r < reservations_of I → groups_after_tidy I (after_tidy I P) r ≡ groups_after_tidy I P r =
    λ r within.
    let Q = after_tidy I P in
    let n = passengers_on (leaves (stays_carried I P r)) (groups_at P r) in
    let kept = stayers (stays_carried I P r) (groups_at P r) in
    let there : groups_at Q r ≡ group_of n [] ++ kept = after_tidy-at I P r within ∙ tidy-is I P r in
    let all : AllByRecursion (λ (group : Group). stays_carried I Q r group.path ≡ true) kept =
    recursion_from_All (λ (group : Group). stays_carried I Q r group.path ≡ true) kept
    (All-weaker (λ (group : Group). stays_carried I P r group.path ≡ true) (λ (group : Group). stays_carried I Q r group.path ≡ true)
    (λ group stays. staying_fit I P r group.path within stays) kept (all_pass-stayers (stays_carried I P r) (groups_at P r))) in
    tidy-is I Q r ∙ ap (tidy_groups (stays_carried I Q r)) there ∙ tidy_groups-again (stays_carried I Q r) n kept (stays_nil I Q r) all ∙ sym (tidy-is I P r) in
    let same : map (groups_after_tidy I (after_tidy I P)) (numbers (reservations_of I)) ≡ map (groups_after_tidy I P) (numbers (reservations_of I)) =
    map_numbers-agree (groups_after_tidy I (after_tidy I P)) (groups_after_tidy I P) (reservations_of I) each in
    tidy_again I P same

-- ---- the three rules

-- a test that each path which stays carried passes holds of each carried path then
tidy-each : (I : Situation) (P : PlanRows) (r : ℕ) (test : List (Leg × Cabin) → Bool) → r < reservations_of I → ((path : List (Leg × Cabin)) → stays_carried I P r path ≡ true → test path ≡ true) → each_carried (after_tidy I P) r test ≡ true
tidy-each I P r test within passes =
    let stays = stays_carried I P r in
    let n = passengers_on (leaves stays) (groups_at P r) in
    let holds : Group → Bool = λ group. implies (is_carried group.path) (test group.path) in
    let there : groups_at (after_tidy I P) r ≡ group_of n [] ++ stayers stays (groups_at P r) = after_tidy-at I P r within ∙ tidy-is I P r in
    let front : list_all holds (group_of n []) ≡ true =
    elim (cases_eq n 0) [
      | inl none ↦ rw (eq-eqb n 0 none) refl
      | inr some ↦ rw (ne_eqb n 0 some) refl
    ] in
    let back : list_all holds (stayers stays (groups_at P r)) ≡ true =
    list_all-from_AllPass holds (stayers stays (groups_at P r))
    (All-weaker (λ (group : Group). stays group.path ≡ true) (λ (group : Group). holds group ≡ true)
    (λ group stay. implies-from (is_carried group.path) (test group.path) (λ carried. passes group.path stay))
    (stayers stays (groups_at P r)) (all_pass-stayers stays (groups_at P r))) in
    ap (list_all holds) there ∙ list_all-append holds (group_of n []) (stayers stays (groups_at P r)) ∙ and_from (list_all holds (group_of n [])) (list_all holds (stayers stays (groups_at P r))) front back

tidy-c13 : (I : Situation) (P : PlanRows) (r : ℕ) → r < reservations_of I → keeps_c13 I (after_tidy I P) r ≡ true
unfolding keeps_c13
tidy-c13 I P r within =
    tidy-each I P r (is_good_path I (after_tidy I P) r) within
    (λ path stays. tidy-good I P r path ∙ (fit_parts I P r path (and_parts (is_carried path) (is_fit_path I P r path) stays).1).0)

tidy-c14 : (I : Situation) (P : PlanRows) (r : ℕ) → r < reservations_of I → keeps_c14 I (after_tidy I P) r ≡ true
unfolding keeps_c14
tidy-c14 I P r within =
    tidy-each I P r (is_in_time_path I (after_tidy I P) r) within
    (λ path stays. tidy-in_time I P r path ∙ (fit_parts I P r path (and_parts (is_carried path) (is_fit_path I P r path) stays).1).1)

tidy-c15 : (I : Situation) (P : PlanRows) (r : ℕ) → r < reservations_of I → keeps_c15 I (after_tidy I P) r ≡ true
unfolding keeps_c15
tidy-c15 I P r within =
    tidy-each I P r (bound I r (groups_at (after_tidy I P) r)) within
    (λ path stays. bound-fewer I r (groups_at (after_tidy I P) r) (groups_at P r) path (tidy-no_more I P r within)
    (fit_parts I P r path (and_parts (is_carried path) (is_fit_path I P r path) stays).1).2)

-- ---- who stays and who leaves

-- the passengers on a carried path are those of it among the groups that stay
tidy-count : (I : Situation) (P : PlanRows) (r : ℕ) (path : List (Leg × Cabin)) → r < reservations_of I → is_carried path ≡ true → count_on path (groups_at (after_tidy I P) r) ≡ count_on path (stayers (stays_carried I P r) (groups_at P r))
tidy-count I P r path within carried =
    let test : List (Leg × Cabin) → Bool = λ other. same_path other path in
    ap (passengers_on test) (after_tidy-at I P r within ∙ tidy-is I P r)
    ∙ tidy_groups-count (stays_carried I P r) test (groups_at P r) (ap is_eq (carried_after path carried))

pub after_tidy-tidies : (I : Situation) (P : PlanRows) (r : ℕ) → r < reservations_of I → TidiesReservation I P (after_tidy I P) r
after_tidy-tidies I P r within =
    let stays = stays_carried I P r in
    record {
      stay = λ path stay.
          let carried = (and_parts (is_carried path) (is_fit_path I P r path) stay).0 in
          tidy-count I P r path within carried
          ∙ stayers-all stays (λ other. same_path other path) (groups_at P r) (λ other same.
          subst (λ (p : List (Leg × Cabin)). stays p ≡ true) (sym (path_same other path (is_eq-holds (path_cmp other path) same))) stay);
      leave = λ path carried unfit.
          let gone : stays path ≡ false = rw (carried, unfit) refl in
          tidy-count I P r path within carried
          ∙ stayers-none stays (λ other. same_path other path) (groups_at P r) (λ other stay.
          elim (cases_Bool (same_path other path)) [
            | inl same ↦ absurd (true≢false (sym (subst (λ (p : List (Leg × Cabin)). stays p ≡ true) (path_same other path (is_eq-holds (path_cmp other path) same)) stay) ∙ gone))
            | inr different ↦ different
          ]);
      c13 = keeps_c13-holds I (after_tidy I P) r (tidy-c13 I P r within);
      c14 = keeps_c14-holds I (after_tidy I P) r (tidy-c14 I P r within);
      c15 = keeps_c15-holds I (after_tidy I P) r (tidy-c15 I P r within);
    }
