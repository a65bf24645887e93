-- The order of paths, and lists that ascend by it.
use Rattle.std.proofs.Common.{◌≡◌, ℕ, suc, ◌<◌, true, eqb, List, [], ◌∷◌, ◌++◌, refl, sym, ap, subst, ◌∙◌, arith}
use Rattle.std.specs.List.{All, AllPairs}
use Rattle.std.specs.Cmp.{IsTotalOrder}
use Rattle.std.specs.Ordering.{nat_cmp, ordering_then, ordering_reverse, MatchOrdering, is_lt, is_eq, is_gt}
use Rattle.std.specs.declared.cmp.Ordering.{Ordering}
use Rattle.std.specs.declared.cmp.Ordering.TheVariants.{Less, Equal, Greater}
use Rattle.std.proofs.lemmas.Bool.{true≢false, and_from, eq-eqb}
use Rattle.std.proofs.lemmas.Cmp.{ranked, nat_cmp_total, on_total, then_total, lists_total, tied_itself}
use Rattle.std.proofs.lemmas.List.Elements.{All-append}
use Rattle.std.proofs.lemmas.List.Kept.{AllPairs-cons}
use Rattle.desk_units.specs.declared.numbers.Leg.{Leg}
use Rattle.desk_units.specs.declared.numbers.Cabin.{Cabin}
use Rattle.desk_units.specs.Ranks.{cabin_rank}
use Rattle.desk_data.specs.PlanRows.{pair_cmp, path_cmp}
use Rattle.desk_data.proofs.BoundLaws.{same_pair-holds}

-- ---- what an answer of an order says

pub by_order : {G : Type 0} (o : Ordering) → (o ≡ Less → G) → (o ≡ Equal → G) → (o ≡ Greater → G) → G
by_order Less a b c = a refl
by_order Equal a b c = b refl
by_order Greater a b c = c refl

pub is_lt-holds : (o : Ordering) → is_lt o ≡ true → o ≡ Less
is_lt-holds Less h = refl
is_lt-holds Equal h = absurd (true≢false (sym h))
is_lt-holds Greater h = absurd (true≢false (sym h))

pub is_eq-holds : (o : Ordering) → is_eq o ≡ true → o ≡ Equal
is_eq-holds Less h = absurd (true≢false (sym h))
is_eq-holds Equal h = refl
is_eq-holds Greater h = absurd (true≢false (sym h))

pub is_gt-holds : (o : Ordering) → is_gt o ≡ true → o ≡ Greater
is_gt-holds Less h = absurd (true≢false (sym h))
is_gt-holds Equal h = absurd (true≢false (sym h))
is_gt-holds Greater h = refl

then_equal : (a b : Ordering) → ordering_then a b ≡ Equal → (a ≡ Equal) × (b ≡ Equal)
then_equal Less b h = absurd cc
then_equal Equal b h = (refl, h)
then_equal Greater b h = absurd cc

-- ---- paths are in a total order, and two that tie are one

pub pair_total : IsTotalOrder pair_cmp
pair_total = then_total (on_total (λ (pair : Leg × Cabin). pair.0.0) nat_cmp_total) (on_total (λ (pair : Leg × Cabin). cabin_rank pair.1) nat_cmp_total)

pub path_total : IsTotalOrder path_cmp
path_total = lists_total pair_total

nat_same : (x y : ℕ) → nat_cmp x y ≡ Equal → x ≡ y
nat_same x y e = subst (λ (o : Ordering). MatchOrdering o (x < y) (x ≡ y) (y < x)) e (ranked x y (nat_cmp x y) refl)

pair_same : (a b : Leg × Cabin) → pair_cmp a b ≡ Equal → a ≡ b
pair_same a b e =
    let parts = then_equal (nat_cmp a.0.0 b.0.0) (nat_cmp (cabin_rank a.1) (cabin_rank b.1)) e in
    same_pair-holds a b
    (and_from (eqb a.0.0 b.0.0) (eqb (cabin_rank a.1) (cabin_rank b.1))
    (eq-eqb a.0.0 b.0.0 (nat_same a.0.0 b.0.0 parts.0))
    (eq-eqb (cabin_rank a.1) (cabin_rank b.1) (nat_same (cabin_rank a.1) (cabin_rank b.1) parts.1)))

pub path_same : (a b : List (Leg × Cabin)) → path_cmp a b ≡ Equal → a ≡ b
path_same [] [] e = refl
path_same [] (y ∷ ys) e = absurd cc
path_same (x ∷ xs) [] e = absurd cc
path_same (x ∷ xs) (y ∷ ys) e =
    let parts = then_equal (pair_cmp x y) (path_cmp xs ys) e in
    ap (λ (z : Leg × Cabin). z ∷ xs) (pair_same x y parts.0) ∙ ap (λ (zs : List (Leg × Cabin)). y ∷ zs) (path_same xs ys parts.1)

pub path_itself : (a : List (Leg × Cabin)) → path_cmp a a ≡ Equal
path_itself a = tied_itself path_total a

pub path_after : (a b : List (Leg × Cabin)) → path_cmp a b ≡ Greater → path_cmp b a ≡ Less
path_after a b e = path_total.antisymm b a ∙ ap ordering_reverse e

pub path_before : (a b : List (Leg × Cabin)) → path_cmp a b ≡ Less → path_cmp b a ≡ Greater
path_before a b e = path_total.antisymm b a ∙ ap ordering_reverse e

-- ---- lists of which each two elements stand in a relation

pub pairs_head : {X : Type 0} (R : X → X → Type 0) (x : X) (xs : List X) → AllPairs R (x ∷ xs) → All (R x) xs
pairs_head R x xs pairs k d within = pairs 0 (suc k) d (omega arith) (omega arith)

pub pairs_tail : {X : Type 0} (R : X → X → Type 0) (x : X) (xs : List X) → AllPairs R (x ∷ xs) → AllPairs R xs
pairs_tail R x xs pairs i j d before within = pairs (suc i) (suc j) d (omega arith) (omega arith)

pub pairs_nil : {X : Type 0} (R : X → X → Type 0) → AllPairs R []
pairs_nil R i j d before within = absurd (omega arith)

pub pairs_append : {X : Type 0} (R : X → X → Type 0) (xs ys : List X) → AllPairs R xs → AllPairs R ys → All (λ x. All (R x) ys) xs → AllPairs R (xs ++ ys)
pairs_append R [] ys first second across = second
pairs_append R (x ∷ xs) ys first second across =
    AllPairs-cons R x (xs ++ ys) (All-append (R x) xs ys (pairs_head R x xs first) (λ k d within. across 0 x (omega arith) k d within))
    (pairs_append R xs ys (pairs_tail R x xs first) second (λ i d within. across (suc i) d (omega arith)))
