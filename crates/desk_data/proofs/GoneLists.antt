-- The lists of legs that passengers may have flown: in the order of paths, each once, and all of them.
use Rattle.std.proofs.Common.{◌≡◌, ℕ, zero, suc, ◌<◌, inl, inr, Bool, true, false, List, [], ◌∷◌, ◌++◌, length, get_or, take, refl, sym, ap, subst, ◌∙◌, arith}
use Rattle.std.specs.Prelude.{filter, fold}
use Rattle.std.specs.List.{All, AllPairs, insert, list_any}
use Rattle.std.specs.Ordering.{is_lt, is_gt}
use Rattle.std.specs.declared.cmp.Ordering.TheVariants.{Less, Equal, Greater}
use Rattle.std.proofs.lemmas.Bool.{cases_Bool, or_left, or_right, or_cases}
use Rattle.std.proofs.lemmas.List.Elements.{All-append, All-cons, All-filter, All-head, All-tail, All-weaker, filter_passes}
use Rattle.std.proofs.lemmas.List.Folds.{list_any-append}
use Rattle.std.proofs.lemmas.List.Kept.{AllPairs-cons, AllPairs-filter}
use Rattle.desk_units.specs.declared.numbers.Cabin.{Cabin}
use Rattle.desk_units.specs.declared.numbers.Leg.{Leg}
use Rattle.desk_data.specs.PlanRows.{path_cmp, same_path}
use Rattle.desk_data.specs.Progress.{with_list}
use Rattle.desk_data.proofs.PathOrder.{by_order, is_lt-holds, is_eq-holds, is_gt-holds, path_total, path_same, path_itself, path_after, path_before, pairs_append, pairs_head, pairs_tail}

-- one list of pairs comes before another
abbrev pub IsBefore : List (Leg × Cabin) → List (Leg × Cabin) → Type 0
IsBefore a b = path_cmp a b ≡ Less

-- whether a list of pairs is among some
abbrev pub is_among : List (Leg × Cabin) → List (List (Leg × Cabin)) → Bool
is_among legs lists = list_any (λ one. same_path one legs) lists

-- ---- one list more

before_one : (lists : List (List (Leg × Cabin))) (one : List (Leg × Cabin)) → All (λ other. IsBefore other one) (filter (λ other. is_lt (path_cmp other one)) lists)
before_one lists one =
    All-weaker (λ (other : List (Leg × Cabin)). is_lt (path_cmp other one) ≡ true) (λ (other : List (Leg × Cabin)). IsBefore other one)
    (λ other h. is_lt-holds (path_cmp other one) h)
    (filter (λ (other : List (Leg × Cabin)). is_lt (path_cmp other one)) lists)
    (filter_passes (λ (other : List (Leg × Cabin)). is_lt (path_cmp other one)) lists)

after_one : (lists : List (List (Leg × Cabin))) (one : List (Leg × Cabin)) → All (IsBefore one) (filter (λ other. is_gt (path_cmp other one)) lists)
after_one lists one =
    All-weaker (λ (other : List (Leg × Cabin)). is_gt (path_cmp other one) ≡ true) (IsBefore one)
    (λ other h. path_after other one (is_gt-holds (path_cmp other one) h))
    (filter (λ (other : List (Leg × Cabin)). is_gt (path_cmp other one)) lists)
    (filter_passes (λ (other : List (Leg × Cabin)). is_gt (path_cmp other one)) lists)

pub with_list-ascends : (lists : List (List (Leg × Cabin))) (one : List (Leg × Cabin)) → AllPairs IsBefore lists → AllPairs IsBefore (with_list lists one)
with_list-ascends lists one up =
    let lows = filter (λ (other : List (Leg × Cabin)). is_lt (path_cmp other one)) lists in
    let highs = filter (λ (other : List (Leg × Cabin)). is_gt (path_cmp other one)) lists in
    let above : All (IsBefore one) highs = after_one lists one in
    pairs_append IsBefore lows (one ∷ highs)
    (AllPairs-filter IsBefore (λ (other : List (Leg × Cabin)). is_lt (path_cmp other one)) lists up)
    (AllPairs-cons IsBefore one highs above (AllPairs-filter IsBefore (λ (other : List (Leg × Cabin)). is_gt (path_cmp other one)) lists up))
    (All-weaker (λ (other : List (Leg × Cabin)). IsBefore other one) (λ (other : List (Leg × Cabin)). All (IsBefore other) (one ∷ highs))
    (λ low under. All-cons (IsBefore low) one highs under (All-weaker (IsBefore one) (IsBefore low) (λ high over. path_total.trans low one high under over) highs above))
    lows (before_one lists one))

pub with_list-all : (P : List (Leg × Cabin) → Type 0) (lists : List (List (Leg × Cabin))) (one : List (Leg × Cabin)) → All P lists → P one → All P (with_list lists one)
with_list-all P lists one all here =
    let lows = filter (λ (other : List (Leg × Cabin)). is_lt (path_cmp other one)) lists in
    let highs = filter (λ (other : List (Leg × Cabin)). is_gt (path_cmp other one)) lists in
    All-append P lows (one ∷ highs)
    (All-filter (λ (other : List (Leg × Cabin)). is_lt (path_cmp other one)) P lists all)
    (All-cons P one highs here (All-filter (λ (other : List (Leg × Cabin)). is_gt (path_cmp other one)) P lists all))

-- what passes one test is among those that pass another one
any_filtered : {X : Type 0} (p q : X → Bool) (xs : List X) → ((x : X) → p x ≡ true → q x ≡ true) → list_any p xs ≡ true → list_any p (filter q xs) ≡ true
any_filtered p q [] passes some = some
any_filtered {X} p q (x ∷ xs) passes some =
    elim (cases_Bool (p x)) [
      | inl here ↦ rw (passes x here, here) refl
      | inr misses ↦
          let later : list_any p xs ≡ true = rw misses at some in
          let rest = any_filtered p q xs passes later in
          elim (cases_Bool (q x)) [ inl kept ↦ rw (kept, misses) rest | inr dropped ↦ rw dropped rest ]
    ]

any_left : {X : Type 0} (p : X → Bool) (xs ys : List X) → list_any p xs ≡ true → list_any p (xs ++ ys) ≡ true
any_left p xs ys some = list_any-append p xs ys ∙ or_left (list_any p xs) (list_any p ys) some

any_right : {X : Type 0} (p : X → Bool) (xs ys : List X) → list_any p ys ≡ true → list_any p (xs ++ ys) ≡ true
any_right p xs ys some = list_any-append p xs ys ∙ or_right (list_any p xs) (list_any p ys) some

pub with_list-has : (lists : List (List (Leg × Cabin))) (one legs : List (Leg × Cabin)) → same_path one legs ≡ true → is_among legs (with_list lists one) ≡ true
with_list-has lists one legs same =
    let lows = filter (λ (other : List (Leg × Cabin)). is_lt (path_cmp other one)) lists in
    let highs = filter (λ (other : List (Leg × Cabin)). is_gt (path_cmp other one)) lists in
    any_right (λ (other : List (Leg × Cabin)). same_path other legs) lows (one ∷ highs) (rw same refl)

pub with_list-keeps : (lists : List (List (Leg × Cabin))) (one legs : List (Leg × Cabin)) → is_among legs lists ≡ true → is_among legs (with_list lists one) ≡ true
with_list-keeps lists one legs some =
    let lows = filter (λ (other : List (Leg × Cabin)). is_lt (path_cmp other one)) lists in
    let highs = filter (λ (other : List (Leg × Cabin)). is_gt (path_cmp other one)) lists in
    let found = λ (other : List (Leg × Cabin)). same_path other legs in
    let is = λ (other : List (Leg × Cabin)) (h : same_path other legs ≡ true). path_same other legs (is_eq-holds (path_cmp other legs) h) in
    by_order (path_cmp legs one)
    (λ less. any_left found lows (one ∷ highs) (any_filtered found (λ (other : List (Leg × Cabin)). is_lt (path_cmp other one)) lists (λ other h. rw (is other h, less) refl) some))
    (λ same. with_list-has lists one legs (rw (sym (path_same legs one same), path_itself legs) refl))
    (λ more. any_right found lows (one ∷ highs)
    (or_right (same_path one legs) (list_any found highs) (any_filtered found (λ (other : List (Leg × Cabin)). is_gt (path_cmp other one)) lists (λ other h. rw (is other h, more) refl) some)))

-- ---- some lists more

pub lists-ascend : (lists ones : List (List (Leg × Cabin))) → AllPairs IsBefore lists → AllPairs IsBefore (fold with_list lists ones)
lists-ascend lists [] up = up
lists-ascend lists (one ∷ ones) up = lists-ascend (with_list lists one) ones (with_list-ascends lists one up)

pub lists-all : (P : List (Leg × Cabin) → Type 0) (lists ones : List (List (Leg × Cabin))) → All P lists → All P ones → All P (fold with_list lists ones)
lists-all P lists [] all more = all
lists-all P lists (one ∷ ones) all more = lists-all P (with_list lists one) ones (with_list-all P lists one all (All-head P one ones more)) (All-tail P one ones more)

lists-keep : (lists ones : List (List (Leg × Cabin))) (legs : List (Leg × Cabin)) → is_among legs lists ≡ true → is_among legs (fold with_list lists ones) ≡ true
lists-keep lists [] legs some = some
lists-keep lists (one ∷ ones) legs some = lists-keep (with_list lists one) ones legs (with_list-keeps lists one legs some)

pub lists-have : (lists ones : List (List (Leg × Cabin))) (legs : List (Leg × Cabin)) → is_among legs ones ≡ true → is_among legs (fold with_list lists ones) ≡ true
lists-have lists [] legs some = absurd cc
lists-have lists (one ∷ ones) legs some =
    elim (or_cases (same_path one legs) (is_among legs ones) some) [
      | inl here ↦ lists-keep (with_list lists one) ones legs (with_list-has lists one legs here)
      | inr later ↦ lists-have (with_list lists one) ones legs later
    ]

-- ---- where a list comes among some in order

filter_none : {X : Type 0} (p : X → Bool) (xs : List X) → All (λ x. p x ≡ false) xs → filter p xs ≡ []
filter_none p [] none = refl
filter_none {X} p (x ∷ xs) none = let first : p x ≡ false = All-head (λ (y : X). p y ≡ false) x xs none in rw first (filter_none p xs (All-tail (λ (y : X). p y ≡ false) x xs none))

filter_all : {X : Type 0} (p : X → Bool) (xs : List X) → All (λ x. p x ≡ true) xs → filter p xs ≡ xs
filter_all p [] all = refl
filter_all {X} p (x ∷ xs) all = let first : p x ≡ true = All-head (λ (y : X). p y ≡ true) x xs all in rw first (ap (λ (ys : List X). x ∷ ys) (filter_all p xs (All-tail (λ (y : X). p y ≡ true) x xs all)))

-- it comes first
pub with_list-first : (lists : List (List (Leg × Cabin))) (one : List (Leg × Cabin)) → All (IsBefore one) lists → with_list lists one ≡ one ∷ lists
with_list-first lists one above =
    let low = λ (other : List (Leg × Cabin)). is_lt (path_cmp other one) in
    let high = λ (other : List (Leg × Cabin)). is_gt (path_cmp other one) in
    let no_low : filter low lists ≡ [] = filter_none low lists (All-weaker (IsBefore one) (λ (other : List (Leg × Cabin)). low other ≡ false) (λ other h. rw (path_before one other h) refl) lists above) in
    let all_high : filter high lists ≡ lists = filter_all high lists (All-weaker (IsBefore one) (λ (other : List (Leg × Cabin)). high other ≡ true) (λ other h. rw (path_before one other h) refl) lists above) in
    ap (λ (lows : List (List (Leg × Cabin))). lows ++ (one ∷ filter high lists)) no_low ∙ ap (λ (highs : List (List (Leg × Cabin))). one ∷ highs) all_high

with_list-after : (first : List (Leg × Cabin)) (lists : List (List (Leg × Cabin))) (one : List (Leg × Cabin)) → IsBefore first one → with_list (first ∷ lists) one ≡ first ∷ with_list lists one
with_list-after first lists one before = rw before refl

with_list-again : (one : List (Leg × Cabin)) (lists : List (List (Leg × Cabin))) → All (IsBefore one) lists → with_list (one ∷ lists) one ≡ one ∷ lists
with_list-again one lists above =
    let skips : with_list (one ∷ lists) one ≡ with_list lists one = rw (path_itself one) refl in
    skips ∙ with_list-first lists one above

-- those before place n come before it, and the one at n after it
pub with_list-at : (lists : List (List (Leg × Cabin))) (one : List (Leg × Cabin)) (n : ℕ) → AllPairs IsBefore lists → n < length lists → All (λ other. IsBefore other one) (take n lists) → path_cmp (get_or lists n []) one ≡ Greater → with_list lists one ≡ insert lists n one
with_list-at [] one n up within before after = absurd (omega arith)
with_list-at (first ∷ lists) one zero up within before after =
    let here : IsBefore one first = path_after first one after in
    with_list-first (first ∷ lists) one (All-cons (IsBefore one) first lists here (All-weaker (IsBefore first) (IsBefore one) (λ other over. path_total.trans one first other here over) lists (pairs_head IsBefore first lists up)))
with_list-at (first ∷ lists) one (suc n) up within before after =
    with_list-after first lists one (All-head (λ (other : List (Leg × Cabin)). IsBefore other one) first (take n lists) before)
    ∙ ap (λ (rest : List (List (Leg × Cabin))). first ∷ rest) (with_list-at lists one n (pairs_tail IsBefore first lists up) (omega (arith, within)) (All-tail (λ (other : List (Leg × Cabin)). IsBefore other one) first (take n lists) before) after)

-- those before place n come before it, and it is the one at n
pub with_list-there : (lists : List (List (Leg × Cabin))) (one : List (Leg × Cabin)) (n : ℕ) → AllPairs IsBefore lists → n < length lists → All (λ other. IsBefore other one) (take n lists) → path_cmp (get_or lists n []) one ≡ Equal → with_list lists one ≡ lists
with_list-there [] one n up within before same = absurd (omega arith)
with_list-there (first ∷ lists) one zero up within before same =
    let is : first ≡ one = path_same first one same in
    subst (λ (other : List (Leg × Cabin)). with_list (first ∷ lists) other ≡ first ∷ lists) is (with_list-again first lists (pairs_head IsBefore first lists up))
with_list-there (first ∷ lists) one (suc n) up within before same =
    with_list-after first lists one (All-head (λ (other : List (Leg × Cabin)). IsBefore other one) first (take n lists) before)
    ∙ ap (λ (rest : List (List (Leg × Cabin))). first ∷ rest) (with_list-there lists one n (pairs_tail IsBefore first lists up) (omega (arith, within)) (All-tail (λ (other : List (Leg × Cabin)). IsBefore other one) first (take n lists) before) same)

-- all come before it
pub with_list-last : (lists : List (List (Leg × Cabin))) (one : List (Leg × Cabin)) → All (λ other. IsBefore other one) lists → with_list lists one ≡ lists ++ one ∷ []
with_list-last [] one before = refl
with_list-last (first ∷ lists) one before =
    with_list-after first lists one (All-head (λ (other : List (Leg × Cabin)). IsBefore other one) first lists before)
    ∙ ap (λ (rest : List (List (Leg × Cabin))). first ∷ rest) (with_list-last lists one (All-tail (λ (other : List (Leg × Cabin)). IsBefore other one) first lists before))
