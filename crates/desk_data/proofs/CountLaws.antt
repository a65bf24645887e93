-- How many passengers may have flown some legs: never more than there are.
use Rattle.std.proofs.Common.{◌≡◌, ℕ, ◌+◌, ◌-◌, ◌≤◌, inl, inr, Bool, true, false, ◌&&◌, cond, List, [], ◌∷◌, refl, sym, ap, subst, ◌∙◌, arith}
use Rattle.std.specs.Prelude.{Option, None, Some, is_some, find, take_while, sum_by, slice_index_or}
use Rattle.std.specs.List.{AllByRecursion}
use Rattle.std.proofs.lemmas.Bool.{cases_Bool, and_parts, and_from, true≢false}
use Rattle.std.proofs.lemmas.List.Sums.{take_while-cons, sum_by-le-sum_by}
use Rattle.desk_units.specs.declared.numbers.Leg.{Leg}
use Rattle.desk_units.specs.declared.numbers.Cabin.{Cabin}
use Rattle.desk_data.specs.declared.row.Row.{Row}
use Rattle.desk_data.specs.declared.row.Group.{Group}
use Rattle.desk_data.specs.Paths.{is_carried}
use Rattle.desk_data.specs.PlanRows.{PlanRows, same_path, path_cmp, groups_at}
use Rattle.desk_data.specs.Situation.{PassengersGone, Situation, gone_in, carried_gone, count_in, tally_at}
use Rattle.desk_data.specs.Progress.{count_then}
use Rattle.desk_data.proofs.PathOrder.{path_same, is_eq-holds}

-- where all that a weaker test takes passes the stronger one, both take the same
take_while-same : {X : Type 0} (f g : X → Bool) (xs : List X) → ((x : X) → f x ≡ true → g x ≡ true) → AllByRecursion (λ x. f x ≡ true) (take_while g xs) → take_while f xs ≡ take_while g xs
take_while-same f g [] weaker all = refl
take_while-same {X} f g (x ∷ xs) weaker all =
    elim (cases_Bool (g x)) [
      | inl passes ↦
          let whole : take_while g (x ∷ xs) ≡ x ∷ take_while g xs = take_while-cons g x xs ∙ rw passes refl in
          let parts : AllByRecursion (λ y. f y ≡ true) (x ∷ take_while g xs) = subst (AllByRecursion (λ (y : X). f y ≡ true)) whole all in
          let first : f x ≡ true = parts.0 in
          let own : take_while f (x ∷ xs) ≡ x ∷ take_while f xs = take_while-cons f x xs ∙ rw first refl in
          own ∙ ap (λ (ys : List X). x ∷ ys) (take_while-same f g xs weaker parts.1) ∙ sym whole
      | inr fails ↦
          let none : f x ≡ false = elim (cases_Bool (f x)) [ inl holds ↦ absurd (true≢false (sym (weaker x holds) ∙ fails)) | inr misses ↦ misses ] in
          let left : take_while f (x ∷ xs) ≡ [] = take_while-cons f x xs ∙ rw none refl in
          let right : take_while g (x ∷ xs) ≡ [] = take_while-cons g x xs ∙ rw fails refl in
          left ∙ sym right
    ]

-- whether a pair's leg is frozen
abbrev pub at_frozen : List (Option Row) → Leg × Cabin → Bool
at_frozen frozen pair = is_some (slice_index_or frozen pair.0.0 None)

less_if : (a b : Bool) (n : ℕ) → (a ≡ true → b ≡ true) → cond a n 0 ≤ cond b n 0
less_if false b n h = omega arith
less_if true b n h = rw (h refl) (omega arith)

-- of lists that were all frozen before, no more are carried so than before
pub carried_before : (old new : List (Option Row)) (groups : List Group) (legs : List (Leg × Cabin)) → ((pair : Leg × Cabin) → at_frozen old pair ≡ true → at_frozen new pair ≡ true) → AllByRecursion (λ pair. at_frozen old pair ≡ true) legs → carried_gone new groups legs ≤ carried_gone old groups legs
carried_before old new groups legs grows all =
    sum_by-le-sum_by (λ (group : Group). cond (is_carried group.path && same_path (gone_in new group.path) legs) group.count 0) (λ (group : Group). cond (is_carried group.path && same_path (gone_in old group.path) legs) group.count 0) groups
    (λ group. less_if (is_carried group.path && same_path (gone_in new group.path) legs) (is_carried group.path && same_path (gone_in old group.path) legs) group.count
    (λ here.
    let parts = and_parts (is_carried group.path) (same_path (gone_in new group.path) legs) here in
    let is : gone_in new group.path ≡ legs = path_same (gone_in new group.path) legs (is_eq-holds (path_cmp (gone_in new group.path) legs) parts.1) in
    let same : gone_in old group.path ≡ gone_in new group.path = take_while-same (at_frozen old) (at_frozen new) group.path grows (subst (AllByRecursion (λ (pair : Leg × Cabin). at_frozen old pair ≡ true)) (sym is) all) in
    and_from (is_carried group.path) (same_path (gone_in old group.path) legs) parts.0 (subst (λ (gone : List (Leg × Cabin)). same_path gone legs ≡ true) (sym same) parts.1)))

at_most : (b : Bool) (n : ℕ) → cond b n 0 ≤ n
at_most true n = omega arith
at_most false n = omega arith

pub carried_all : (frozen : List (Option Row)) (groups : List Group) (legs : List (Leg × Cabin)) → carried_gone frozen groups legs ≤ sum_by (λ group. group.count) groups
carried_all frozen groups legs =
    sum_by-le-sum_by (λ (group : Group). cond (is_carried group.path && same_path (gone_in frozen group.path) legs) group.count 0) (λ (group : Group). group.count) groups
    (λ group. at_most (is_carried group.path && same_path (gone_in frozen group.path) legs) group.count)

-- what an entry says that is found
record IsFound (old : List (Option Row)) (legs : List (Leg × Cabin)) (n : ℕ) : Type 0 where
  few : n ≤ 1000
  left : AllByRecursion (λ (pair : Leg × Cabin). at_frozen old pair ≡ true) legs

pub record IsEntry (old : List (Option Row)) (entry : PassengersGone) : Type 0 where
  pub few : entry.1 ≤ 1000
  pub left : AllByRecursion (λ (pair : Leg × Cabin). at_frozen old pair ≡ true) entry.0

found : (old : List (Option Row)) (entries : List PassengersGone) (legs : List (Leg × Cabin)) (e : PassengersGone) → AllByRecursion (IsEntry old) entries → find (λ entry. same_path entry.0 legs) entries ≡ Some e → IsFound old legs e.1
found old [] legs e all is = absurd cc
found old (entry ∷ entries) legs e all is =
    elim (cases_Bool (same_path entry.0 legs)) [
      | inl passes ↦
          let here : Some entry ≡ Some e = rw passes at is in
          let same : entry ≡ e = cc in
          let list : entry.0 ≡ legs = path_same entry.0 legs (is_eq-holds (path_cmp entry.0 legs) passes) in
          subst (λ (x : PassengersGone). IsFound old legs x.1) same (record { few = all.0.few; left = subst (AllByRecursion (λ (pair : Leg × Cabin). at_frozen old pair ≡ true)) list all.0.left })
      | inr fails ↦ found old entries legs e all.1 (rw fails at is)
    ]

count_by_entry : (old new : List (Option Row)) (entries : List PassengersGone) (groups : List Group) (legs : List (Leg × Cabin)) (o : Option PassengersGone) → find (λ entry. same_path entry.0 legs) entries ≡ o → AllByRecursion (IsEntry old) entries → ((pair : Leg × Cabin) → at_frozen old pair ≡ true → at_frozen new pair ≡ true) → sum_by (λ group. group.count) groups ≤ 1000 → carried_gone new groups legs + (count_in o - carried_gone old groups legs) ≤ 1000
count_by_entry old new entries groups legs None is all grows few = let most = carried_all new groups legs in omega (arith, most, few)
count_by_entry old new entries groups legs (Some e) is all grows few =
    let at = found old entries legs e all is in
    let most = carried_all new groups legs in
    let less = carried_before old new groups legs grows at.left in
    omega (arith, most, few, less, at.few)

pub count_then-le : (I : Situation) (P : PlanRows) (new : List (Option Row)) (r : ℕ) (legs : List (Leg × Cabin)) → AllByRecursion (IsEntry I.progress.frozen) (tally_at I r) → ((pair : Leg × Cabin) → at_frozen I.progress.frozen pair ≡ true → at_frozen new pair ≡ true) → sum_by (λ group. group.count) (groups_at P r) ≤ 1000 → count_then I P new r legs ≤ 1000
count_then-le I P new r legs all grows few = count_by_entry I.progress.frozen new (tally_at I r) (groups_at P r) legs (find (λ (entry : PassengersGone). same_path entry.0 legs) (tally_at I r)) refl all grows few
