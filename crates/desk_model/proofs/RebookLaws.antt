-- What Rebook does.
use Rattle.std.proofs.Common.{◌≡◌, ℕ, ◌+◌, ◌-◌, ◌≤◌, inl, inr, Bool, true, false, cond, List, [], ◌∷◌, ◌++◌, length, refl, sym, ap, subst, ◌∙◌, arith}
use Rattle.std.specs.Prelude.{filter}
use Rattle.std.specs.List.{All, AllPairs, AllByRecursion}
use Rattle.std.specs.Ordering.{is_lt, is_eq, is_gt}
use Rattle.std.specs.declared.cmp.Ordering.TheVariants.{Less, Greater}
use Rattle.std.proofs.lemmas.Bool.{cases_Bool, cases_eq, eq-eqb, ne_eqb}
use Rattle.std.proofs.lemmas.List.{append-nil}
use Rattle.std.proofs.lemmas.List.Elements.{All-nil, All-cons, All-append, All-filter, All-weaker, filter_passes, filter-append, recursion_from_All}
use Rattle.std.proofs.lemmas.List.Kept.{AllPairs-filter}
use Rattle.std.proofs.lemmas.List.Sums.{sum_by-cons, sum_by-append}
use Rattle.desk_units.specs.declared.numbers.Leg.{Leg}
use Rattle.desk_units.specs.declared.numbers.Cabin.{Cabin}
use Rattle.desk_data.specs.declared.row.Group.{Group}
use Rattle.desk_data.specs.PlanRows.{path_cmp, IsGroup, AreGroups, same_path}
use Rattle.desk_data.specs.Valid.{IsPathOf, AreGroupsOf}
use Rattle.desk_model.specs.Rebook.{passengers_on, count_on, is_before, is_after, group_of, with_count, with_fewer, with_more, groups_after_rebook}
use Rattle.desk_data.proofs.PathOrder.{by_order, is_lt-holds, is_gt-holds, path_total, path_same, path_itself, path_after, path_before, pairs_head, pairs_tail, pairs_nil, pairs_append}

-- the passengers of a group, if its path passes a test
abbrev pub amount : (List (Leg × Cabin) → Bool) → Group → ℕ
amount test group = cond (test group.path) group.count 0

abbrev is_on : List (Leg × Cabin) → Group → Bool
is_on path group = is_eq (path_cmp group.path path)

-- ---- passengers are before a path, on it or after it

parts_add : (test : List (Leg × Cabin) → Bool) (path : List (Leg × Cabin)) (groups : List Group) → passengers_on test (filter (is_before path) groups) + (passengers_on test (filter (is_on path) groups) + passengers_on test (filter (is_after path) groups)) ≡ passengers_on test groups
parts_add test path [] = refl
parts_add test path (group ∷ groups) =
    let ih = parts_add test path groups in
    let all = sum_by-cons (amount test) group groups in
    by_order (path_cmp group.path path)
    (λ less. let one = sum_by-cons (amount test) group (filter (is_before path) groups) in rw less (omega (arith, ih, all, one)))
    (λ same. let one = sum_by-cons (amount test) group (filter (is_on path) groups) in rw same (omega (arith, ih, all, one)))
    (λ more. let one = sum_by-cons (amount test) group (filter (is_after path) groups) in rw more (omega (arith, ih, all, one)))

-- those on the path are there by its test
on_path : (test : List (Leg × Cabin) → Bool) (path : List (Leg × Cabin)) (b : Bool) (groups : List Group) → test path ≡ b → passengers_on test (filter (is_on path) groups) ≡ cond b (count_on path groups) 0
on_path test path true [] is = refl
on_path test path false [] is = refl
on_path test path true (group ∷ groups) is =
    let ih = on_path test path true groups is in
    let count = sum_by-cons (amount (λ other. same_path other path)) group groups in
    by_order (path_cmp group.path path)
    (λ less. let none : amount (λ other. same_path other path) group ≡ 0 = rw less refl in rw less (omega (arith, ih, count, none)))
    (λ same.
    let one = sum_by-cons (amount test) group (filter (is_on path) groups) in
    let here : amount test group ≡ group.count = rw (path_same group.path path same, is) refl in
    let counts : amount (λ other. same_path other path) group ≡ group.count = rw same refl in
    let kept : filter (is_on path) (group ∷ groups) ≡ group ∷ filter (is_on path) groups = rw same refl in
    ap (passengers_on test) kept ∙ omega (arith, ih, count, one, here, counts))
    (λ more. let none : amount (λ other. same_path other path) group ≡ 0 = rw more refl in rw more (omega (arith, ih, count, none)))
on_path test path false (group ∷ groups) is =
    let ih = on_path test path false groups is in
    by_order (path_cmp group.path path)
    (λ less. rw less ih)
    (λ same.
    let one = sum_by-cons (amount test) group (filter (is_on path) groups) in
    let here : amount test group ≡ 0 = rw (path_same group.path path same, is) refl in
    let kept : filter (is_on path) (group ∷ groups) ≡ group ∷ filter (is_on path) groups = rw same refl in
    ap (passengers_on test) kept ∙ omega (arith, ih, one, here))
    (λ more. rw more ih)

pub one_group : (test : List (Leg × Cabin) → Bool) (path : List (Leg × Cabin)) (n : ℕ) → passengers_on test (group_of n path) ≡ cond (test path) n 0
one_group test path n =
    elim (cases_eq n 0) [
      | inl none ↦ rw (eq-eqb n 0 none, none) (elim (cases_Bool (test path)) [ inl passes ↦ rw passes refl | inr fails ↦ rw fails refl ])
      | inr some ↦ rw (ne_eqb n 0 some) (omega arith)
    ]

-- another count on a path: there are as many fewer on paths that have it among them as were on it, and as many more as are
pub with_count-adds : (test : List (Leg × Cabin) → Bool) (path : List (Leg × Cabin)) (n : ℕ) (groups : List Group) → passengers_on test (with_count path n groups) + cond (test path) (count_on path groups) 0 ≡ passengers_on test groups + cond (test path) n 0
with_count-adds test path n groups =
    let all = sum_by-append (amount test) (filter (is_before path) groups) (group_of n path ++ filter (is_after path) groups) in
    let later = sum_by-append (amount test) (group_of n path) (filter (is_after path) groups) in
    let one = one_group test path n in
    let on = on_path test path (test path) groups refl in
    let parts = parts_add test path groups in
    omega (arith, all, later, one, on, parts)

fewer-adds : (test : List (Leg × Cabin) → Bool) (path : List (Leg × Cabin)) (n : ℕ) (groups : List Group) → n ≤ count_on path groups → passengers_on test (with_fewer path n groups) + cond (test path) n 0 ≡ passengers_on test groups
fewer-adds test path n groups few =
    let whole = with_count-adds test path (count_on path groups - n) groups in
    elim (cases_Bool (test path)) [
      | inl passes ↦ let here = rw passes at whole in rw passes (omega (arith, here, few))
      | inr fails ↦ let here = rw fails at whole in rw fails (omega (arith, here))
    ]

more-adds : (test : List (Leg × Cabin) → Bool) (path : List (Leg × Cabin)) (n : ℕ) (groups : List Group) → passengers_on test (with_more path n groups) ≡ passengers_on test groups + cond (test path) n 0
more-adds test path n groups =
    let whole = with_count-adds test path (count_on path groups + n) groups in
    elim (cases_Bool (test path)) [
      | inl passes ↦ let here = rw passes at whole in rw passes (omega (arith, here))
      | inr fails ↦ let here = rw fails at whole in rw fails (omega (arith, here))
    ]

pub groups_after_rebook-adds : (test : List (Leg × Cabin) → Bool) (path to : List (Leg × Cabin)) (n : ℕ) (groups : List Group) → n ≤ count_on path groups → passengers_on test (groups_after_rebook path to n groups) + cond (test path) n 0 ≡ passengers_on test groups + cond (test to) n 0
unfolding groups_after_rebook
groups_after_rebook-adds test path to n groups few =
    omega (arith, fewer-adds test path n groups few, more-adds test to n (with_fewer path n groups))

-- ---- the groups stay in order

-- one group's path comes before another's
abbrev pub Ascends : Group → Group → Type 0
Ascends a b = path_cmp a.path b.path ≡ Less

pub one_group-all : (P : Group → Type 0) (path : List (Leg × Cabin)) (n : ℕ) → ((group : Group) → group.path ≡ path → 1 ≤ group.count → P group) → All P (group_of n path)
one_group-all P path n holds =
    elim (cases_eq n 0) [
      | inl none ↦ rw (eq-eqb n 0 none) (All-nil P)
      | inr some ↦ rw (ne_eqb n 0 some) (All-cons P (record { count = n; path = path }) [] (holds (record { count = n; path = path }) refl (omega arith)) (All-nil P))
    ]

pub one_group-pairs : (path : List (Leg × Cabin)) (n : ℕ) → AllPairs Ascends (group_of n path)
one_group-pairs path n =
    elim (cases_eq n 0) [
      | inl none ↦ rw (eq-eqb n 0 none) (pairs_nil Ascends)
      | inr some ↦ rw (ne_eqb n 0 some) (λ i j d before within. absurd (omega arith))
    ]

after_all : (path : List (Leg × Cabin)) (groups : List Group) → All (λ (group : Group). path_cmp path group.path ≡ Less) (filter (is_after path) groups)
after_all path groups =
    All-weaker (λ (group : Group). is_after path group ≡ true) (λ (group : Group). path_cmp path group.path ≡ Less)
    (λ group passes. path_after group.path path (is_gt-holds (path_cmp group.path path) passes))
    (filter (is_after path) groups) (filter_passes (is_after path) groups)

-- a group before the path comes before the path's group and before those after it
before_all : (path : List (Leg × Cabin)) (n : ℕ) (groups : List Group) (group : Group) → path_cmp group.path path ≡ Less → All (Ascends group) (group_of n path ++ filter (is_after path) groups)
before_all path n groups group less =
    All-append (Ascends group) (group_of n path) (filter (is_after path) groups)
    (one_group-all (Ascends group) path n (λ one is some. subst (λ (other : List (Leg × Cabin)). path_cmp group.path other ≡ Less) (sym is) less))
    (All-weaker (λ (other : Group). path_cmp path other.path ≡ Less) (Ascends group) (λ other more. path_total.trans group.path path other.path less more)
    (filter (is_after path) groups) (after_all path groups))

with_count-pairs : (path : List (Leg × Cabin)) (n : ℕ) (groups : List Group) → AllPairs Ascends groups → AllPairs Ascends (with_count path n groups)
with_count-pairs path n groups pairs =
    pairs_append Ascends (filter (is_before path) groups) (group_of n path ++ filter (is_after path) groups)
    (AllPairs-filter Ascends (is_before path) groups pairs)
    (pairs_append Ascends (group_of n path) (filter (is_after path) groups) (one_group-pairs path n) (AllPairs-filter Ascends (is_after path) groups pairs)
    (one_group-all (λ (one : Group). All (Ascends one) (filter (is_after path) groups)) path n (λ one is some.
    subst (λ (other : List (Leg × Cabin)). All (λ (group : Group). path_cmp other group.path ≡ Less) (filter (is_after path) groups)) (sym is) (after_all path groups))))
    (All-weaker (λ (group : Group). is_before path group ≡ true) (λ (group : Group). All (Ascends group) (group_of n path ++ filter (is_after path) groups))
    (λ group passes. before_all path n groups group (is_lt-holds (path_cmp group.path path) passes))
    (filter (is_before path) groups) (filter_passes (is_before path) groups))

-- what holds of each group and of each on the path holds of each then
with_count-all : (P : Group → Type 0) (path : List (Leg × Cabin)) (n : ℕ) (groups : List Group) → All P groups → ((group : Group) → group.path ≡ path → 1 ≤ group.count → P group) → All P (with_count path n groups)
with_count-all P path n groups each one =
    All-append P (filter (is_before path) groups) (group_of n path ++ filter (is_after path) groups)
    (All-filter (is_before path) P groups each)
    (All-append P (group_of n path) (filter (is_after path) groups) (one_group-all P path n one) (All-filter (is_after path) P groups each))

with_count-groups : (path : List (Leg × Cabin)) (n : ℕ) (groups : List Group) → length path ≤ 8 → AreGroups groups → AreGroups (with_count path n groups)
with_count-groups path n groups short sound = record {
  each = with_count-all IsGroup path n groups sound.each (λ group is some. record { some = some; short = subst (λ (other : List (Leg × Cabin)). length other ≤ 8) (sym is) short });
  ascending = with_count-pairs path n groups sound.ascending;
}

pub groups_after_rebook-groups : (path to : List (Leg × Cabin)) (n : ℕ) (groups : List Group) → length path ≤ 8 → length to ≤ 8 → AreGroups groups → AreGroups (groups_after_rebook path to n groups)
unfolding groups_after_rebook
groups_after_rebook-groups path to n groups short short_to sound =
    with_count-groups to (count_on to (with_fewer path n groups) + n) (with_fewer path n groups) short_to
    (with_count-groups path (count_on path groups - n) groups short sound)

pub groups_after_rebook-of : (legs count : ℕ) (path to : List (Leg × Cabin)) (n : ℕ) (groups : List Group) → IsPathOf legs path → IsPathOf legs to → n ≤ count_on path groups → AreGroupsOf legs count groups → AreGroupsOf legs count (groups_after_rebook path to n groups)
unfolding groups_after_rebook
groups_after_rebook-of legs count path to n groups among among_to few sound =
    let P : Group → Type 0 = λ group. IsPathOf legs group.path in
    let on : (of : List (Leg × Cabin)) → IsPathOf legs of → (group : Group) → group.path ≡ of → 1 ≤ group.count → P group =
    λ of is group same some. subst (IsPathOf legs) (sym same) is in
    record {
      paths = with_count-all P to (count_on to (with_fewer path n groups) + n) (with_fewer path n groups)
          (with_count-all P path (count_on path groups - n) groups sound.paths (on path among)) (on to among_to);
      all = let adds = groups_after_rebook-adds (λ other. true) path to n groups few in let all = sound.all in omega (arith, adds, all);
    }

-- ---- where nothing is rebooked

all_after-before : (path : List (Leg × Cabin)) (groups : List Group) → AllByRecursion (λ (group : Group). path_cmp group.path path ≡ Greater) groups → filter (is_before path) groups ≡ []
all_after-before path [] all = refl
all_after-before path (group ∷ groups) all = rw all.0 (all_after-before path groups all.1)

all_after-after : (path : List (Leg × Cabin)) (groups : List Group) → AllByRecursion (λ (group : Group). path_cmp group.path path ≡ Greater) groups → filter (is_after path) groups ≡ groups
all_after-after path [] all = refl
all_after-after path (group ∷ groups) all = rw all.0 (ap (λ (rest : List Group). group ∷ rest) (all_after-after path groups all.1))

all_after-count : (path : List (Leg × Cabin)) (groups : List Group) → AllByRecursion (λ (group : Group). path_cmp group.path path ≡ Greater) groups → count_on path groups ≡ 0
all_after-count path [] all = refl
all_after-count path (group ∷ groups) all =
    let none : amount (λ other. same_path other path) group ≡ 0 = rw all.0 refl in
    omega (arith, sum_by-cons (amount (λ other. same_path other path)) group groups, none, all_after-count path groups all.1)

-- the groups after the first one are after a path that is not after it
rest_after : (path : List (Leg × Cabin)) (group : Group) (groups : List Group) → AllPairs Ascends (group ∷ groups) → ((other : Group) → Ascends group other → path_cmp path other.path ≡ Less) → AllByRecursion (λ (other : Group). path_cmp other.path path ≡ Greater) groups
rest_after path group groups pairs first =
    recursion_from_All (λ (other : Group). path_cmp other.path path ≡ Greater) groups
    (All-weaker (Ascends group) (λ (other : Group). path_cmp other.path path ≡ Greater) (λ other less. path_before path other.path (first other less)) groups (pairs_head Ascends group groups pairs))

-- the groups with the count that they have are the groups
with_count-own : (path : List (Leg × Cabin)) (groups : List Group) → AllByRecursion IsGroup groups → AllPairs Ascends groups → with_count path (count_on path groups) groups ≡ groups
with_count-own path [] each pairs = refl
with_count-own path (group ∷ groups) each pairs =
    let counts = sum_by-cons (amount (λ other. same_path other path)) group groups in
    by_order (path_cmp group.path path)
    (λ less.
    let none : amount (λ other. same_path other path) group ≡ 0 = rw less refl in
    let count : count_on path (group ∷ groups) ≡ count_on path groups = omega (arith, counts, none) in
    let step : with_count path (count_on path groups) (group ∷ groups) ≡ group ∷ with_count path (count_on path groups) groups = rw less refl in
    ap (λ (n : ℕ). with_count path n (group ∷ groups)) count ∙ step
    ∙ ap (λ (rest : List Group). group ∷ rest) (with_count-own path groups each.1 (pairs_tail Ascends group groups pairs)))
    (λ same.
    let is : group.path ≡ path = path_same group.path path same in
    let rest = rest_after path group groups pairs (λ other less. subst (λ (p : List (Leg × Cabin)). path_cmp p other.path ≡ Less) is less) in
    let own : amount (λ other. same_path other path) group ≡ group.count = rw same refl in
    let count : count_on path (group ∷ groups) ≡ group.count = omega (arith, counts, own, all_after-count path groups rest) in
    let some = each.0.some in
    let not_none : group.count ≡ 0 → ⊥ = λ e. omega (arith, e, some) in
    let one : group_of group.count path ≡ group ∷ [] =
    rw (ne_eqb group.count 0 not_none) (ap (λ (p : List (Leg × Cabin)). let g : Group = record { count = group.count; path = p } in g ∷ []) (sym is)) in
    let front : filter (is_before path) (group ∷ groups) ≡ [] = rw same (all_after-before path groups rest) in
    let back : filter (is_after path) (group ∷ groups) ≡ groups = rw same (all_after-after path groups rest) in
    ap (λ (n : ℕ). with_count path n (group ∷ groups)) count ∙ rw (front, one, back) refl)
    (λ more.
    let rest = rest_after path group groups pairs (λ other less. path_total.trans path group.path other.path (path_after group.path path more) less) in
    let none : amount (λ other. same_path other path) group ≡ 0 = rw more refl in
    let count : count_on path (group ∷ groups) ≡ 0 = omega (arith, counts, none, all_after-count path groups rest) in
    let front : filter (is_before path) (group ∷ groups) ≡ [] = rw more (all_after-before path groups rest) in
    let back : filter (is_after path) (group ∷ groups) ≡ group ∷ groups = rw more (ap (λ (gs : List Group). group ∷ gs) (all_after-after path groups rest)) in
    ap (λ (n : ℕ). with_count path n (group ∷ groups)) count ∙ rw (front, back) refl)

filter_again : (p : Group → Bool) (groups : List Group) → filter p (filter p groups) ≡ filter p groups
filter_again p [] = refl
filter_again p (group ∷ groups) =
    elim (cases_Bool (p group)) [
      | inl passes ↦ rw passes (rw passes (ap (λ (rest : List Group). group ∷ rest) (filter_again p groups)))
      | inr fails ↦ rw fails (filter_again p groups)
    ]

filter_other : (p q : Group → Bool) → ((group : Group) → p group ≡ true → q group ≡ false) → (groups : List Group) → filter q (filter p groups) ≡ []
filter_other p q apart [] = refl
filter_other p q apart (group ∷ groups) =
    elim (cases_Bool (p group)) [
      | inl passes ↦ rw passes (rw (apart group passes) (filter_other p q apart groups))
      | inr fails ↦ rw fails (filter_other p q apart groups)
    ]

filter_one : (q : Group → Bool) (path : List (Leg × Cabin)) (n : ℕ) → ((group : Group) → group.path ≡ path → q group ≡ false) → filter q (group_of n path) ≡ []
filter_one q path n fails =
    elim (cases_eq n 0) [
      | inl none ↦ rw (eq-eqb n 0 none) refl
      | inr some ↦ rw (ne_eqb n 0 some) (rw (fails (record { count = n; path = path }) refl) refl)
    ]

not_before : (path : List (Leg × Cabin)) (group : Group) → group.path ≡ path → is_before path group ≡ false
not_before path group is = ap (λ (p : List (Leg × Cabin)). is_lt (path_cmp p path)) is ∙ ap is_lt (path_itself path)

not_after : (path : List (Leg × Cabin)) (group : Group) → group.path ≡ path → is_after path group ≡ false
not_after path group is = ap (λ (p : List (Leg × Cabin)). is_gt (path_cmp p path)) is ∙ ap is_gt (path_itself path)

with_count-before : (path : List (Leg × Cabin)) (n : ℕ) (groups : List Group) → filter (is_before path) (with_count path n groups) ≡ filter (is_before path) groups
with_count-before path n groups =
    filter-append (is_before path) (filter (is_before path) groups) (group_of n path ++ filter (is_after path) groups)
    ∙ rw (
      filter_again (is_before path) groups,
      filter-append (is_before path) (group_of n path) (filter (is_after path) groups),
      filter_one (is_before path) path n (not_before path),
      filter_other (is_after path) (is_before path) (λ group passes. ap is_lt (is_gt-holds (path_cmp group.path path) passes)) groups,
    )
    (append-nil (filter (is_before path) groups))

with_count-after : (path : List (Leg × Cabin)) (n : ℕ) (groups : List Group) → filter (is_after path) (with_count path n groups) ≡ filter (is_after path) groups
with_count-after path n groups =
    filter-append (is_after path) (filter (is_before path) groups) (group_of n path ++ filter (is_after path) groups)
    ∙ rw (
      filter_other (is_before path) (is_after path) (λ group passes. ap is_gt (is_lt-holds (path_cmp group.path path) passes)) groups,
      filter-append (is_after path) (group_of n path) (filter (is_after path) groups),
      filter_one (is_after path) path n (not_after path),
      filter_again (is_after path) groups,
    )
    refl

-- the last count decides
with_count-twice : (path : List (Leg × Cabin)) (m n : ℕ) (groups : List Group) → with_count path m (with_count path n groups) ≡ with_count path m groups
with_count-twice path m n groups =
    ap (λ (front : List Group). front ++ (group_of m path ++ filter (is_after path) (with_count path n groups))) (with_count-before path n groups)
    ∙ ap (λ (back : List Group). filter (is_before path) groups ++ (group_of m path ++ back)) (with_count-after path n groups)

with_count-count : (path : List (Leg × Cabin)) (n : ℕ) (groups : List Group) → count_on path (with_count path n groups) ≡ n
with_count-count path n groups =
    let here : same_path path path ≡ true = ap is_eq (path_itself path) in
    let adds = rw here at (with_count-adds (λ other. same_path other path) path n groups) in
    omega (arith, adds)

pub groups_after_rebook-same : (path : List (Leg × Cabin)) (n : ℕ) (groups : List Group) → n ≤ count_on path groups → AreGroups groups → groups_after_rebook path path n groups ≡ groups
unfolding groups_after_rebook
groups_after_rebook-same path n groups few sound =
    let count : count_on path (with_fewer path n groups) + n ≡ count_on path groups = omega (arith, with_count-count path (count_on path groups - n) groups, few) in
    ap (λ (k : ℕ). with_count path k (with_fewer path n groups)) count
    ∙ with_count-twice path (count_on path groups) (count_on path groups - n) groups
    ∙ with_count-own path groups (recursion_from_All IsGroup groups sound.each) sound.ascending

pub groups_after_rebook-none : (path to : List (Leg × Cabin)) (groups : List Group) → AreGroups groups → groups_after_rebook path to 0 groups ≡ groups
unfolding groups_after_rebook
groups_after_rebook-none path to groups sound =
    let each = recursion_from_All IsGroup groups sound.each in
    let fewer : with_fewer path 0 groups ≡ groups =
    ap (λ (k : ℕ). with_count path k groups) (let e : count_on path groups - 0 ≡ count_on path groups = omega arith in e) ∙ with_count-own path groups each sound.ascending in
    ap (with_more to 0) fewer
    ∙ ap (λ (k : ℕ). with_count to k groups) (let e : count_on to groups + 0 ≡ count_on to groups = omega arith in e)
    ∙ with_count-own to groups each sound.ascending
