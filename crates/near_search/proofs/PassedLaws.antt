-- Paths that are passed over, and moves that are left.
use Rattle.std.proofs.Common.{◌≡◌, ℕ, ◌<◌, ◌%◌, inl, inr, Bool, true, false, eqb, List, [], ◌∷◌, ◌++◌, length, refl, sym, ap, subst, ◌∙◌, arith}
use Rattle.std.specs.Prelude.{Option, None, Some, find, All, MatchOption}
use Rattle.std.specs.Option.{option_or}
use Rattle.std.specs.List.{AllByRecursion}
use Rattle.std.proofs.lemmas.Bool.{cases_Bool}
use Rattle.std.proofs.lemmas.List.Elements.{All-head, All-tail, All-from_recursion, recursion_from_All}
use Rattle.std.proofs.lemmas.List.Folds.{find-append}
use Rattle.plan_moves.specs.declared.moves.Move.{Move}
use Rattle.plan_moves.specs.Fits.{Fits}
use Rattle.desk_data.specs.Situation.{Situation, reservations_of}
use Rattle.desk_data.specs.PlanRows.{PlanRows, groups_at}
use Rattle.near_moves.specs.Units.{MoveUnit, owner}
use Rattle.near_moves.specs.Near.{unit_moves, moves_of, of_shard}
use Rattle.near_moves.specs.Descent.{is_better}
use Rattle.near_pax.specs.Units.{group_at, unit_at}
use Rattle.near_pax.specs.declared.pax.PaxMoves.{PaxMoves}
use Rattle.near_pax.specs.Left.{left, unit_left, units_left}
use Rattle.near_notes.specs.DayNotes.{IsInVain}
use Rattle.near_search.specs.Passed.{IsPast, GoesOn}

-- ---- parts of a list

front_by : {X : Type 0} (Q : X → Type 0) (xs ys : List X) → AllByRecursion Q (xs ++ ys) → AllByRecursion Q xs
front_by Q [] ys all = tt
front_by Q (x ∷ xs) ys all = (all.0, front_by Q xs ys all.1)

back_by : {X : Type 0} (Q : X → Type 0) (xs ys : List X) → AllByRecursion Q (xs ++ ys) → AllByRecursion Q ys
back_by Q [] ys all = all
back_by Q (x ∷ xs) ys all = back_by Q xs ys all.1

pub all-front : {X : Type 0} (Q : X → Type 0) (xs ys : List X) → All Q (xs ++ ys) → All Q xs
all-front Q xs ys all = All-from_recursion Q xs (front_by Q xs ys (recursion_from_All Q (xs ++ ys) all))

pub all-back : {X : Type 0} (Q : X → Type 0) (xs ys : List X) → All Q (xs ++ ys) → All Q ys
all-back Q xs ys all = All-from_recursion Q ys (back_by Q xs ys (recursion_from_All Q (xs ++ ys) all))

-- where no element of the first list passes, the first that passes is in the second
pub find-after : {X : Type 0} (p : X → Bool) (xs ys : List X) → find p xs ≡ None → find p (xs ++ ys) ≡ find p ys
find-after p xs ys none = find-append p xs ys ∙ ap (λ (o : Option _). option_or o (find p ys)) none

pub find_none : {X : Type 0} (p : X → Bool) (xs : List X) → AllByRecursion (λ x. p x ≡ false) xs → find p xs ≡ None
find_none p [] fails = refl
find_none p (x ∷ xs) fails = rw fails.0 (find_none p xs fails.1)

both_by : {X : Type 0} (Q : X → Type 0) (xs ys : List X) → AllByRecursion Q xs → AllByRecursion Q ys → AllByRecursion Q (xs ++ ys)
both_by Q [] ys front back = back
both_by Q (x ∷ xs) ys front back = (front.0, both_by Q xs ys front.1 back)

found_first : {X : Type 0} (p : X → Bool) (x : X) (xs : List X) → p x ≡ true → find p (x ∷ xs) ≡ Some x
found_first p x xs passes = rw passes refl

found_later : {X : Type 0} (p : X → Bool) (x : X) (xs : List X) → p x ≡ false → find p (x ∷ xs) ≡ find p xs
found_later p x xs fails = rw fails refl

some-none : {X : Type 0} (x : X) → Some x ≡ None → ⊥
some-none x is = absurd cc

-- where none is found, none is better
none_by : {X : Type 0} (p : X → Bool) (xs : List X) → find p xs ≡ None → AllByRecursion (λ x. p x ≡ false) xs
none_by p [] none = tt
none_by p (x ∷ xs) none =
    elim (cases_Bool (p x)) [
      | inl passes ↦ absurd (some-none x (sym (found_first p x xs passes) ∙ none))
      | inr fails ↦ (fails, none_by p xs (sym (found_later p x xs fails) ∙ none))
    ]

pub none_found : {X : Type 0} (p : X → Bool) (xs : List X) → find p xs ≡ None → All (λ x. p x ≡ false) xs
none_found p xs none = All-from_recursion (λ x. p x ≡ false) xs (none_by p xs none)

-- ---- units that are passed over

pub past-none : (I : Situation) (P : PlanRows) (units : List MoveUnit) → IsPast I P units units
past-none I P units = record { same = refl; fits = λ all. all; fewer = omega arith }

-- one more: no rebooking off its path is better
pub past-more : (I : Situation) (P : PlanRows) (before now units_after : List MoveUnit) (r place : ℕ) → IsPast I P before now → now ≡ unit_at P r place ∷ units_after → IsInVain I P r (group_at P r place) → IsPast I P before units_after
past-more I P before now units_after r place past is vain =
    let u = unit_at P r place in
    let worse = recursion_from_All (λ (m : Move). is_better I P m ≡ false) (unit_moves I P u) vain in
    let first : find (is_better I P) (moves_of I P now) ≡ find (is_better I P) (moves_of I P units_after) =
    ap (λ (us : List MoveUnit). find (is_better I P) (moves_of I P us)) is
    ∙ find-after (is_better I P) (unit_moves I P u) (moves_of I P units_after) (find_none (is_better I P) (unit_moves I P u) worse) in
    let few = past.fewer in
    record {
      same = past.same ∙ first;
      fits = λ all. all-back (Fits I) (unit_moves I P u) (moves_of I P units_after) (subst (λ (us : List MoveUnit). All (Fits I) (moves_of I P us)) is (past.fits all));
      fewer = omega (arith, few, ap length is);
    }

-- the moves of the next one are made
pub past-goes : (I : Situation) (P : PlanRows) (before now : List MoveUnit) (r place : ℕ) (moves : PaxMoves) → IsPast I P before now → now ≡ unit_at P r place ∷ units_left I P moves → unit_left I P moves ≡ unit_moves I P (unit_at P r place) → r < reservations_of I → place < length (groups_at P r) → GoesOn I P before r place moves
past-goes I P before now r place moves past is made res there =
    let units_after = units_left I P moves in
    let all_left : left I P moves ≡ moves_of I P now =
    ap (λ (ms : List Move). ms ++ moves_of I P units_after) made ∙ sym (ap (moves_of I P) is) in
    let few = past.fewer in
    record {
      same = past.same ∙ sym (ap (find (is_better I P)) all_left);
      fits = λ all. subst (All (Fits I)) (sym all_left) (past.fits all);
      fewer = omega (arith, few, ap length is);
      within = res;
      there = there;
      unit = made;
    }

-- none is left
pub past-all : (I : Situation) (P : PlanRows) (before now : List MoveUnit) → IsPast I P before now → now ≡ [] → find (is_better I P) (moves_of I P before) ≡ None
past-all I P before now past none = past.same ∙ ap (λ (us : List MoveUnit). find (is_better I P) (moves_of I P us)) none

-- ---- shards

shard_by : (I : Situation) (P : PlanRows) (Q : Move → Type 0) (s n : ℕ) (us : List MoveUnit) → AllByRecursion Q (moves_of I P us) → AllByRecursion Q (moves_of I P (of_shard s n us))
shard_by I P Q s n [] all = tt
shard_by I P Q s n (u ∷ us) all =
    let rest = shard_by I P Q s n us (back_by Q (unit_moves I P u) (moves_of I P us) all) in
    elim (cases_Bool (eqb (owner u % n) s)) [
      | inl passes ↦ rw passes (both_by Q (unit_moves I P u) (moves_of I P (of_shard s n us)) (front_by Q (unit_moves I P u) (moves_of I P us) all) rest)
      | inr fails ↦ rw fails rest
    ]

-- what holds of all moves of some units holds of those of a shard
pub shard-all : (I : Situation) (P : PlanRows) (Q : Move → Type 0) (s n : ℕ) (us : List MoveUnit) → All Q (moves_of I P us) → All Q (moves_of I P (of_shard s n us))
shard-all I P Q s n us all = All-from_recursion Q (moves_of I P (of_shard s n us)) (shard_by I P Q s n us (recursion_from_All Q (moves_of I P us) all))

-- ---- one after another

-- the one that is given is the first of those that were left
pub next-is : (o : Option Move) (m : Move) (before after : List Move) → MatchOption o (before ≡ []) (λ (x : Move). before ≡ x ∷ after) → o ≡ Some m → before ≡ m ∷ after
next-is None m before after gives is = absurd cc
next-is (Some x) m before after gives is = let same : x ≡ m = cc in gives ∙ ap (λ (y : Move). y ∷ after) same

-- it fits, and so do those after it
pub first-fits : (I : Situation) (m : Move) (before after : List Move) → before ≡ m ∷ after → All (Fits I) before → Fits I m
first-fits I m before after is all = All-head (Fits I) m after (subst (All (Fits I)) is all)

pub rest-fits : (I : Situation) (m : Move) (before after : List Move) → before ≡ m ∷ after → All (Fits I) before → All (Fits I) after
rest-fits I m before after is all = All-tail (Fits I) m after (subst (All (Fits I)) is all)

-- where it is not better, the first better one is among those after it
pub rest-found : (I : Situation) (P : PlanRows) (m : Move) (before after : List Move) → before ≡ m ∷ after → is_better I P m ≡ false → find (is_better I P) after ≡ find (is_better I P) before
rest-found I P m before after is worse =
    let step : find (is_better I P) (m ∷ after) ≡ find (is_better I P) after = rw worse refl in
    sym (ap (find (is_better I P)) is ∙ step)

-- the first that passes of the first list is the first of both
pub find-before : {X : Type 0} (p : X → Bool) (xs ys : List X) (x : X) → find p xs ≡ Some x → find p (xs ++ ys) ≡ Some x
find-before p xs ys x is = find-append p xs ys ∙ ap (λ (o : Option _). option_or o (find p ys)) is
