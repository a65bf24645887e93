-- The paths that are tried after a stem, in their order.
use Rattle.std.proofs.Common.{◌≡◌, ℕ, ◌+◌, ◌<◌, inl, inr, eqb, List, [], ◌∷◌, ◌++◌, length, map, get_or, refl, sym, ap, ◌∙◌, arith}
use Rattle.std.specs.Prelude.{filter}
use Rattle.std.specs.Ordering.{nat_cmp, ordering_then}
use Rattle.std.specs.List.{All, AllPairs, flat_map}
use Rattle.std.specs.declared.cmp.Ordering.TheVariants.{Less, Equal}
use Rattle.std.proofs.lemmas.Bool.{lt-ltb}
use Rattle.std.proofs.lemmas.Cmp.{nat_cmp_total, tied_itself}
use Rattle.std.proofs.lemmas.List.{get_or-map, length-append, length-map}
use Rattle.std.proofs.lemmas.List.Elements.{All-append, All-nil, All-cons}
use Rattle.std.proofs.lemmas.List.Kept.{AllPairs-cons, AllPairs-filter}
use Rattle.desk_units.specs.declared.numbers.Leg.{Leg}
use Rattle.desk_units.specs.declared.numbers.Cabin.{Cabin}
use Rattle.desk_units.specs.declared.numbers.Cabin.TheVariants as cabin
use Rattle.desk_units.specs.Ranks.{cabin_rank}
use Rattle.desk_data.specs.PlanRows.{pair_cmp, path_cmp}
use Rattle.desk_data.specs.Situation.{Situation, legs_of}
use Rattle.desk_data.proofs.PathOrder.{pair_total, pairs_append, pairs_head, pairs_nil, pairs_tail}
use Rattle.desk_rules.specs.Numbers.{numbers}
use Rattle.near_moves.specs.MoveParts.{leg}
use Rattle.near_moves.specs.Routes.{all_doubles, all_pairs, tried_after}
use Rattle.near_moves.proofs.ListLaws.{All_flat_map, numbers_ordered}
use Rattle.near_moves.specs.StemWords.{IsTriedFirst}

abbrev Pair : Type 0
Pair = Leg × Cabin

-- ---- lists in order

-- one that is put together of lists in order, in the order of what they are made of
ordered_flat_map : {X Y : Type 0} (R : Y → Y → Type 0) (S : X → X → Type 0) (f : X → List Y) (xs : List X) → ((x : X) → AllPairs R (f x)) → ((a b : X) → S a b → All (λ y. All (R y) (f b)) (f a)) → AllPairs S xs → AllPairs R (flat_map f xs)
ordered_flat_map R S f [] own cross ordered = pairs_nil R
ordered_flat_map R S f (x ∷ xs) own cross ordered =
    pairs_append R (f x) (flat_map f xs) (own x)
    (ordered_flat_map R S f xs own cross (pairs_tail S x xs ordered))
    (λ k d within. All_flat_map (R (get_or (f x) k d)) f xs (λ j e there. cross x (get_or xs j e) (pairs_head S x xs ordered j e there) k d within))

ordered_map : {X Y : Type 0} (R : Y → Y → Type 0) (S : X → X → Type 0) (f : X → Y) (d0 : X) (xs : List X) → ((a b : X) → S a b → R (f a) (f b)) → AllPairs S xs → AllPairs R (map f xs)
ordered_map R S f d0 xs keeps ordered = λ i j d before within.
    let inside : j < length xs = omega (arith, within, length-map xs f) in
    rw (get_or-map f xs i d0 d (omega (arith, before, inside)), get_or-map f xs j d0 d inside)
    (keeps (get_or xs i d0) (get_or xs j d0) (ordered i j d0 before inside))

all_map : {X Y : Type 0} (P : Y → Type 0) (f : X → Y) (d0 : X) (xs : List X) → ((x : X) → P (f x)) → All P (map f xs)
all_map P f d0 xs each = λ k d within.
    let inside : k < length xs = omega (arith, within, length-map xs f) in
    rw (get_or-map f xs k d0 d inside) (each (get_or xs k d0))

-- ---- legs with cabins

abbrev no_pair : Pair
no_pair = (leg 0, cabin.F)

abbrev IsBefore : Pair → Pair → Type 0
IsBefore a b = pair_cmp a b ≡ Less

lower_leg : (a b : Pair) → a.0.0 < b.0.0 → pair_cmp a b ≡ Less
lower_leg a b lower = rw (lt-ltb a.0.0 b.0.0 lower) refl

higher_cabin : (x : ℕ) (a b : Cabin) → cabin_rank a < cabin_rank b → pair_cmp (leg x, a) (leg x, b) ≡ Less
higher_cabin x a b higher =
    ap (λ o. ordering_then o (nat_cmp (cabin_rank a) (cabin_rank b))) (tied_itself nat_cmp_total x)
    ∙ rw (lt-ltb (cabin_rank a) (cabin_rank b) higher) refl

abbrev three : ℕ → List Pair
three x = (leg x, cabin.F) ∷ (leg x, cabin.B) ∷ (leg x, cabin.E) ∷ []

three-ordered : (x : ℕ) → AllPairs IsBefore (three x)
three-ordered x =
    let fb = higher_cabin x cabin.F cabin.B (omega arith) in
    let fe = higher_cabin x cabin.F cabin.E (omega arith) in
    let be = higher_cabin x cabin.B cabin.E (omega arith) in
    AllPairs-cons IsBefore (leg x, cabin.F) ((leg x, cabin.B) ∷ (leg x, cabin.E) ∷ [])
    (All-cons (IsBefore (leg x, cabin.F)) (leg x, cabin.B) ((leg x, cabin.E) ∷ []) fb (All-cons (IsBefore (leg x, cabin.F)) (leg x, cabin.E) [] fe (All-nil (IsBefore (leg x, cabin.F)))))
    (AllPairs-cons IsBefore (leg x, cabin.B) ((leg x, cabin.E) ∷ [])
    (All-cons (IsBefore (leg x, cabin.B)) (leg x, cabin.E) [] be (All-nil (IsBefore (leg x, cabin.B))))
    (AllPairs-cons IsBefore (leg x, cabin.E) [] (All-nil (IsBefore (leg x, cabin.E))) (pairs_nil IsBefore)))

each_of_three : (P : Pair → Type 0) (x : ℕ) → ((c : Cabin) → P (leg x, c)) → All P (three x)
each_of_three P x each =
    All-cons P (leg x, cabin.F) ((leg x, cabin.B) ∷ (leg x, cabin.E) ∷ []) (each cabin.F)
    (All-cons P (leg x, cabin.B) ((leg x, cabin.E) ∷ []) (each cabin.B)
    (All-cons P (leg x, cabin.E) [] (each cabin.E) (All-nil P)))

pairs-ordered : (I : Situation) → AllPairs IsBefore (all_pairs I)
unfolding all_pairs
pairs-ordered I =
    ordered_flat_map IsBefore (λ x y. x < y) three (numbers (legs_of I)) three-ordered
    (λ a b lower. each_of_three (λ y. All (IsBefore y) (three b)) a (λ c. each_of_three (IsBefore (leg a, c)) b (λ other. lower_leg (leg a, c) (leg b, other) lower)))
    (numbers_ordered (legs_of I))

-- ---- paths after a stem

same_start : (stem a b : List Pair) → path_cmp (stem ++ a) (stem ++ b) ≡ path_cmp a b
same_start [] a b = refl
same_start (pair ∷ stem) a b =
    ap (λ o. ordering_then o (path_cmp (stem ++ a) (stem ++ b))) (tied_itself pair_total pair)
    ∙ same_start stem a b

abbrev single_of : List Pair → Pair → List Pair
single_of stem pair = stem ++ pair ∷ []

abbrev double_of : Pair → Pair → List Pair
double_of a b = a ∷ b ∷ []

abbrev doubles_from : Situation → Pair → List (List Pair)
doubles_from I a = map (double_of a) (filter (λ b. eqb (cabin_rank a.1) (cabin_rank b.1)) (all_pairs I))

abbrev Comes : List Pair → List Pair → Type 0
Comes a b = path_cmp a b ≡ Less

single_first : (a b : Pair) → IsBefore a b → Comes (a ∷ []) (b ∷ [])
single_first a b before = ap (λ o. ordering_then o Equal) before

first_decides : (a b c d : Pair) → IsBefore a b → Comes (a ∷ c ∷ []) (b ∷ d ∷ [])
first_decides a b c d before = ap (λ o. ordering_then o (path_cmp (c ∷ []) (d ∷ []))) before

second_decides : (a c d : Pair) → IsBefore c d → Comes (a ∷ c ∷ []) (a ∷ d ∷ [])
second_decides a c d before =
    ap (λ o. ordering_then o (path_cmp (c ∷ []) (d ∷ []))) (tied_itself pair_total a)
    ∙ single_first c d before

doubles-ordered : (I : Situation) → AllPairs Comes (all_doubles I)
doubles-ordered I =
    ordered_flat_map Comes IsBefore (doubles_from I) (all_pairs I)
    (λ a. ordered_map Comes IsBefore (double_of a) no_pair (filter (λ b. eqb (cabin_rank a.1) (cabin_rank b.1)) (all_pairs I)) (second_decides a) (AllPairs-filter IsBefore (λ b. eqb (cabin_rank a.1) (cabin_rank b.1)) (all_pairs I) (pairs-ordered I)))
    (λ a b before. all_map (λ y. All (Comes y) (doubles_from I b)) (double_of a) no_pair (filter (λ c. eqb (cabin_rank a.1) (cabin_rank c.1)) (all_pairs I))
    (λ c. all_map (Comes (double_of a c)) (double_of b) no_pair (filter (λ d. eqb (cabin_rank b.1) (cabin_rank d.1)) (all_pairs I)) (λ d. first_decides a b c d before)))
    (pairs-ordered I)

-- how long they are
double_length : (I : Situation) → All (λ d. length d ≡ 2) (all_doubles I)
double_length I =
    All_flat_map (λ d. length d ≡ 2) (doubles_from I) (all_pairs I)
    (λ k d within. all_map (λ two. length two ≡ 2) (double_of (get_or (all_pairs I) k d)) no_pair (filter (λ b. eqb (cabin_rank (get_or (all_pairs I) k d).1) (cabin_rank b.1)) (all_pairs I)) (λ b. refl))

pub tried-ordered : (I : Situation) (stem : List Pair) → AllPairs IsTriedFirst (tried_after I stem)
tried-ordered I stem =
    let singles = map (single_of stem) (all_pairs I) in
    let doubles = map (λ (double : List Pair). stem ++ double) (all_doubles I) in
    let one_more : (pair : Pair) → length (single_of stem pair) ≡ length stem + 1 = λ pair. length-append stem (pair ∷ []) in
    let singles_long : All (λ path. length path ≡ length stem + 1) singles = all_map (λ path. length path ≡ length stem + 1) (single_of stem) no_pair (all_pairs I) one_more in
    let doubles_long : All (λ path. length path ≡ length stem + 2) doubles = λ k d within.
    let inside : k < length (all_doubles I) = omega (arith, within, length-map (all_doubles I) (λ (double : List Pair). stem ++ double)) in
    let two = double_length I k [] inside in
    rw (get_or-map (λ (double : List Pair). stem ++ double) (all_doubles I) k [] d inside) (length-append stem (get_or (all_doubles I) k []) ∙ ap (λ (n : ℕ). length stem + n) two) in
    let longer : All (λ path. All (IsTriedFirst path) doubles) singles = λ k d within j e there.
    let one = singles_long k d within in
    let two = doubles_long j e there in
    inl (omega (arith, one, two)) in
    let first : All (IsTriedFirst stem) (singles ++ doubles) = All-append (IsTriedFirst stem) singles doubles
    (λ k d within. let one = singles_long k d within in inl (omega (arith, one)))
    (λ k d within. let two = doubles_long k d within in inl (omega (arith, two))) in
    AllPairs-cons IsTriedFirst stem (singles ++ doubles) first
    (pairs_append IsTriedFirst singles doubles
    (ordered_map IsTriedFirst IsBefore (single_of stem) no_pair (all_pairs I)
    (λ a b before. inr (one_more a ∙ sym (one_more b), same_start stem (a ∷ []) (b ∷ []) ∙ single_first a b before))
    (pairs-ordered I))
    (λ i j d before within.
    let lj = doubles_long j d within in
    let li = doubles_long i d (omega (arith, before, within)) in
    let inside : j < length (all_doubles I) = omega (arith, within, length-map (all_doubles I) (λ (double : List Pair). stem ++ double)) in
    let gi = get_or-map (λ (double : List Pair). stem ++ double) (all_doubles I) i [] d (omega (arith, before, inside)) in
    let gj = get_or-map (λ (double : List Pair). stem ++ double) (all_doubles I) j [] d inside in
    inr (li ∙ sym lj, rw (gi, gj) (same_start stem (get_or (all_doubles I) i []) (get_or (all_doubles I) j []) ∙ doubles-ordered I i j [] before inside)))
    longer)
