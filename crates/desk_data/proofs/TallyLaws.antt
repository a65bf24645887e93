-- The tally of a reservation once legs are frozen: its entries are in order, and say of any legs how many passengers have flown just these.
use Rattle.std.proofs.Common.{◌≡◌, ℕ, ◌+◌, ◌≤◌, inl, inr, ◌⊎◌, Bool, true, false, ◌&&◌, cond, List, [], ◌∷◌, ◌++◌, length, refl, sym, ap, subst, ◌∙◌, arith}
use Rattle.std.specs.Prelude.{Option, sum_by, map, filter, take}
use Rattle.std.specs.List.{All, AllPairs, AllByRecursion, filter_map, list_any, prefix_len}
use Rattle.std.proofs.lemmas.Bool.{cases_Bool, cases_eq, ne_eqb, eq-eqb, or_left, or_right}
use Rattle.std.proofs.lemmas.List.{length-take}
use Rattle.std.proofs.lemmas.List.Elements.{All-append, All-cons, All-nil, All-head, All-tail, All-map, All-weaker, All-filter, recursion_from_All}
use Rattle.std.proofs.lemmas.List.Folds.{list_any-append}
use Rattle.std.proofs.lemmas.List.Kept.{AllPairs-cons}
use Rattle.std.proofs.lemmas.List.Sums.{sum_by-cons, take_while-cons}
use Rattle.desk_units.specs.declared.numbers.Cabin.{Cabin}
use Rattle.desk_units.specs.declared.numbers.Leg.{Leg}
use Rattle.desk_data.specs.declared.row.Row.{Row}
use Rattle.desk_data.specs.declared.row.Group.{Group}
use Rattle.desk_data.specs.Paths.{is_carried}
use Rattle.desk_data.specs.PlanRows.{PlanRows, AreGroups, IsGroup, same_path, path_cmp, groups_at}
use Rattle.desk_data.specs.Progress.{count_then, entry_of, lists_gone, tally_then}
use Rattle.desk_data.specs.Situation.{PassengersGone, Situation, gone_in, carried_gone, count_gone, tallied, tally_at}
use Rattle.desk_data.specs.Valid.{AreTallied, IsTallied}
use Rattle.desk_data.proofs.CountLaws.{IsEntry, at_frozen, count_then-le}
use Rattle.desk_data.proofs.GoneLists.{IsBefore, is_among, lists-all, lists-ascend, lists-have}
use Rattle.desk_data.proofs.PathOrder.{is_eq-holds, path_same, pairs_head, pairs_nil, pairs_tail}

-- ---- the entries of some lists, by their counts

abbrev entries_of : (List (Leg × Cabin) → ℕ) → List (List (Leg × Cabin)) → List PassengersGone
entries_of count lists = filter_map (λ legs. entry_of (count legs) legs) lists

entries_all : (P : PassengersGone → Type 0) (Q : List (Leg × Cabin) → Type 0) (count : List (Leg × Cabin) → ℕ) (lists : List (List (Leg × Cabin))) → ((legs : List (Leg × Cabin)) → Q legs → 1 ≤ count legs → P (legs, count legs)) → All Q lists → All P (entries_of count lists)
entries_all P Q count [] each all = All-nil P
entries_all P Q count (one ∷ lists) each all =
    let rest = entries_all P Q count lists each (All-tail Q one lists all) in
    elim (cases_eq (count one) 0) [
      | inl none ↦ rw (eq-eqb (count one) 0 none) rest
      | inr some ↦ rw (ne_eqb (count one) 0 some) (All-cons P (one, count one) (entries_of count lists) (each one (All-head Q one lists all) (omega (arith, some))) rest)
    ]

abbrev pub IsEntryBefore : PassengersGone → PassengersGone → Type 0
IsEntryBefore a b = IsBefore a.0 b.0

entries_ascend : (count : List (Leg × Cabin) → ℕ) (lists : List (List (Leg × Cabin))) → AllPairs IsBefore lists → AllPairs IsEntryBefore (entries_of count lists)
entries_ascend count [] up = pairs_nil IsEntryBefore
entries_ascend count (one ∷ lists) up =
    let rest = entries_ascend count lists (pairs_tail IsBefore one lists up) in
    elim (cases_eq (count one) 0) [
      | inl none ↦ rw (eq-eqb (count one) 0 none) rest
      | inr some ↦
          rw (ne_eqb (count one) 0 some)
          (AllPairs-cons IsEntryBefore (one, count one) (entries_of count lists)
          (entries_all (λ (entry : PassengersGone). IsBefore one entry.0) (IsBefore one) count lists (λ legs over found. over) (pairs_head IsBefore one lists up))
          rest)
    ]

among_later : (one : List (Leg × Cabin)) (lists : List (List (Leg × Cabin))) (legs : List (Leg × Cabin)) → same_path one legs ≡ false → is_among legs (one ∷ lists) ≡ true → is_among legs lists ≡ true
among_later one lists legs other some = rw other at some

-- what the entries say of some legs is the count of these, where it is 0 or they are among the lists
entries_count : (count : List (Leg × Cabin) → ℕ) (lists : List (List (Leg × Cabin))) (legs : List (Leg × Cabin)) → (count legs ≡ 0) ⊎ (is_among legs lists ≡ true) → count_gone (entries_of count lists) legs ≡ count legs
entries_count count [] legs (inl none) = sym none
entries_count count [] legs (inr some) = absurd cc
entries_count count (one ∷ lists) legs which =
    elim (cases_Bool (same_path one legs)) [
      | inl same ↦
          let is : one ≡ legs = path_same one legs (is_eq-holds (path_cmp one legs) same) in
          elim (cases_eq (count one) 0) [
            | inl none ↦ rw (eq-eqb (count one) 0 none) (entries_count count lists legs (inl (ap count (sym is) ∙ none)))
            | inr some ↦ rw (ne_eqb (count one) 0 some, same) (ap count is)
          ]
      | inr other ↦
          let later : (count legs ≡ 0) ⊎ (is_among legs lists ≡ true) = elim which [ inl none ↦ inl none | inr some ↦ inr (among_later one lists legs other some) ] in
          let rest = entries_count count lists legs later in
          elim (cases_eq (count one) 0) [
            | inl none ↦ rw (eq-eqb (count one) 0 none) rest
            | inr some ↦ rw (ne_eqb (count one) 0 some, other) rest
          ]
    ]

-- ---- the lists of which passengers are counted

-- the beginning of a list that passes a test passes it, and is no longer
taken_passes : {X : Type 0} (p : X → Bool) (xs : List X) → All (λ x. p x ≡ true) (take (prefix_len p xs) xs)
taken_passes {X} p [] = All-nil (λ (x : X). p x ≡ true)
taken_passes {X} p (x ∷ xs) =
    elim (cases_Bool (p x)) [
      | inl passes ↦
          let is : take (prefix_len p (x ∷ xs)) (x ∷ xs) ≡ x ∷ take (prefix_len p xs) xs = take_while-cons p x xs ∙ rw passes refl in
          subst (All (λ (y : X). p y ≡ true)) (sym is) (All-cons (λ (y : X). p y ≡ true) x (take (prefix_len p xs) xs) passes (taken_passes p xs))
      | inr fails ↦
          let is : take (prefix_len p (x ∷ xs)) (x ∷ xs) ≡ [] = take_while-cons p x xs ∙ rw fails refl in
          subst (All (λ (y : X). p y ≡ true)) (sym is) (All-nil (λ (y : X). p y ≡ true))
    ]

taken_short : {X : Type 0} (n : ℕ) (xs : List X) (most : ℕ) → length xs ≤ most → length (take n xs) ≤ most
taken_short n xs most short = omega (arith, length-take n xs)

-- at most 8 legs, each of which is frozen
pub record IsGone (frozen : List (Option Row)) (legs : List (Leg × Cabin)) : Type 0 where
  pub short : length legs ≤ 8
  pub left : All (λ pair. at_frozen frozen pair ≡ true) legs

lists_were : (I : Situation) (frozen : List (Option Row)) (r : ℕ) → ((pair : Leg × Cabin) → at_frozen I.progress.frozen pair ≡ true → at_frozen frozen pair ≡ true) → AreTallied I.progress.frozen (tally_at I r) → All (IsGone frozen) (map (λ entry. entry.0) (tally_at I r))
lists_were I frozen r grows tallied =
    All-map (IsGone frozen) (λ (entry : PassengersGone). entry.0) (tally_at I r)
    (All-weaker (IsTallied I.progress.frozen) (λ (entry : PassengersGone). IsGone frozen entry.0)
    (λ entry is. record { short = is.short; left = All-weaker (λ (pair : Leg × Cabin). at_frozen I.progress.frozen pair ≡ true) (λ (pair : Leg × Cabin). at_frozen frozen pair ≡ true) grows entry.0 is.left })
    (tally_at I r) tallied.each)

lists_left : (frozen : List (Option Row)) (groups : List Group) → All IsGroup groups → All (IsGone frozen) (map (λ group. gone_in frozen group.path) (filter (λ group. is_carried group.path) groups))
lists_left frozen groups sound =
    let carried = filter (λ (group : Group). is_carried group.path) groups in
    All-map (IsGone frozen) (λ (group : Group). gone_in frozen group.path) carried
    (All-weaker IsGroup (λ (group : Group). IsGone frozen (gone_in frozen group.path))
    (λ group is. record { short = taken_short (prefix_len (at_frozen frozen) group.path) group.path 8 is.short; left = taken_passes (at_frozen frozen) group.path })
    carried (All-filter (λ (group : Group). is_carried group.path) IsGroup groups sound))

lists_gone-all : (I : Situation) (P : PlanRows) (frozen : List (Option Row)) (r : ℕ) → ((pair : Leg × Cabin) → at_frozen I.progress.frozen pair ≡ true → at_frozen frozen pair ≡ true) → AreTallied I.progress.frozen (tally_at I r) → AreGroups (groups_at P r) → All (IsGone frozen) (lists_gone I P frozen r)
lists_gone-all I P frozen r grows tallied sound =
    let were = map (λ (entry : PassengersGone). entry.0) (tally_at I r) in
    let left = map (λ (group : Group). gone_in frozen group.path) (filter (λ (group : Group). is_carried group.path) (groups_at P r)) in
    lists-all (IsGone frozen) [] (were ++ left) (All-nil (IsGone frozen)) (All-append (IsGone frozen) were left (lists_were I frozen r grows tallied) (lists_left frozen (groups_at P r) sound.each))

-- ---- the tally is one

-- what a tally was, of passengers of whom there are at most 1,000, and a plan of groups of the same
pub tally_then-tallied : (I : Situation) (P : PlanRows) (frozen : List (Option Row)) (r : ℕ) → ((pair : Leg × Cabin) → at_frozen I.progress.frozen pair ≡ true → at_frozen frozen pair ≡ true) → AreTallied I.progress.frozen (tally_at I r) → AreGroups (groups_at P r) → sum_by (λ group. group.count) (groups_at P r) ≤ 1000 → AreTallied frozen (tally_then I P frozen r)
tally_then-tallied I P frozen r grows tallied sound most =
    let count = count_then I P frozen r in
    let lists = lists_gone I P frozen r in
    let entries : AllByRecursion (IsEntry I.progress.frozen) (tally_at I r) =
    recursion_from_All (IsEntry I.progress.frozen) (tally_at I r)
    (All-weaker (IsTallied I.progress.frozen) (IsEntry I.progress.frozen) (λ entry is. record { few = is.few; left = recursion_from_All (λ (pair : Leg × Cabin). at_frozen I.progress.frozen pair ≡ true) entry.0 is.left }) (tally_at I r) tallied.each) in
    record {
      each = entries_all (IsTallied frozen) (IsGone frozen) count lists
          (λ legs is some. record { some = some; few = count_then-le I P frozen r legs entries grows most; short = is.short; left = is.left })
          (lists_gone-all I P frozen r grows tallied sound);
      ascending = entries_ascend count lists (lists-ascend [] (map (λ (entry : PassengersGone). entry.0) (tally_at I r) ++ map (λ (group : Group). gone_in frozen group.path) (filter (λ (group : Group). is_carried group.path) (groups_at P r))) (pairs_nil IsBefore));
    }

-- ---- any legs that some have flown are among the lists

any_left : {X : Type 0} (p : X → Bool) (xs ys : List X) → list_any p xs ≡ true → list_any p (xs ++ ys) ≡ true
any_left p xs ys some = list_any-append p xs ys ∙ or_left (list_any p xs) (list_any p ys) some

any_right : {X : Type 0} (p : X → Bool) (xs ys : List X) → list_any p ys ≡ true → list_any p (xs ++ ys) ≡ true
any_right p xs ys some = list_any-append p xs ys ∙ or_right (list_any p xs) (list_any p ys) some

tallied_among : (entries : List PassengersGone) (legs : List (Leg × Cabin)) → 1 ≤ count_gone entries legs → is_among legs (map (λ entry. entry.0) entries) ≡ true
tallied_among [] legs some = absurd (omega (arith, some))
tallied_among (entry ∷ entries) legs some =
    elim (cases_Bool (same_path entry.0 legs)) [
      | inl same ↦ rw same refl
      | inr other ↦
          let rest : 1 ≤ count_gone entries legs = rw other at some in
          rw other (tallied_among entries legs rest)
    ]

carried_among : (frozen : List (Option Row)) (groups : List Group) (legs : List (Leg × Cabin)) → 1 ≤ carried_gone frozen groups legs → is_among legs (map (λ group. gone_in frozen group.path) (filter (λ group. is_carried group.path) groups)) ≡ true
carried_among frozen [] legs some = absurd (omega (arith, some))
carried_among frozen (group ∷ groups) legs some =
    let count = λ (one : Group). cond (is_carried one.path && same_path (gone_in frozen one.path) legs) one.count 0 in
    let whole : carried_gone frozen (group ∷ groups) legs ≡ count group + carried_gone frozen groups legs = sum_by-cons count group groups in
    elim (cases_Bool (is_carried group.path)) [
      | inr stays ↦
          let none : count group ≡ 0 = rw stays refl in
          let rest : 1 ≤ carried_gone frozen groups legs = omega (arith, whole, none, some) in
          rw stays (carried_among frozen groups legs rest)
      | inl goes ↦ elim (cases_Bool (same_path (gone_in frozen group.path) legs)) [
        | inl same ↦ rw (goes, same) refl
        | inr other ↦
            let none : count group ≡ 0 = rw (goes, other) refl in
            let rest : 1 ≤ carried_gone frozen groups legs = omega (arith, whole, none, some) in
            rw (goes, other) (carried_among frozen groups legs rest)
      ]
    ]

count_among : (I : Situation) (P : PlanRows) (frozen : List (Option Row)) (r : ℕ) (legs : List (Leg × Cabin)) → (count_then I P frozen r legs ≡ 0) ⊎ (is_among legs (lists_gone I P frozen r) ≡ true)
count_among I P frozen r legs =
    let found = λ (one : List (Leg × Cabin)). same_path one legs in
    let were = map (λ (entry : PassengersGone). entry.0) (tally_at I r) in
    let left = map (λ (group : Group). gone_in frozen group.path) (filter (λ (group : Group). is_carried group.path) (groups_at P r)) in
    elim (cases_eq (carried_gone frozen (groups_at P r) legs) 0) [
      | inr some ↦ inr (lists-have [] (were ++ left) legs (any_right found were left (carried_among frozen (groups_at P r) legs (omega (arith, some)))))
      | inl none ↦ elim (cases_eq (tallied I r legs) 0) [
        | inr some ↦ inr (lists-have [] (were ++ left) legs (any_left found were left (tallied_among (tally_at I r) legs (omega (arith, some)))))
        | inl neither ↦ inl (omega (arith, none, neither))
      ]
    ]

-- the tally says of any legs how many have then flown just these
pub tally_then-count : (I : Situation) (P : PlanRows) (frozen : List (Option Row)) (r : ℕ) (legs : List (Leg × Cabin)) → count_gone (tally_then I P frozen r) legs ≡ count_then I P frozen r legs
tally_then-count I P frozen r legs = entries_count (count_then I P frozen r) (lists_gone I P frozen r) legs (count_among I P frozen r legs)

-- ---- no count is more than there may be passengers

counts_few : (entries : List PassengersGone) (legs : List (Leg × Cabin)) → All (λ entry. entry.1 ≤ 1000) entries → count_gone entries legs ≤ 1000
counts_few [] legs few = omega arith
counts_few (entry ∷ entries) legs few =
    elim (cases_Bool (same_path entry.0 legs)) [
      | inl same ↦ let here : entry.1 ≤ 1000 = All-head (λ (one : PassengersGone). one.1 ≤ 1000) entry entries few in rw same here
      | inr other ↦ rw other (counts_few entries legs (All-tail (λ (one : PassengersGone). one.1 ≤ 1000) entry entries few))
    ]

pub count_gone-le : (frozen : List (Option Row)) (entries : List PassengersGone) (legs : List (Leg × Cabin)) → AreTallied frozen entries → count_gone entries legs ≤ 1000
count_gone-le frozen entries legs tallied = counts_few entries legs (All-weaker (IsTallied frozen) (λ (entry : PassengersGone). entry.1 ≤ 1000) (λ entry is. is.few) entries tallied.each)
