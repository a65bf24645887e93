-- Shards part the units.
use Rattle.std.proofs.Common.{◌≡◌, ℕ, ◌<◌, ◌%◌, inl, inr, Bool, true, false, eqb, List, [], ◌∷◌, refl, sym, ap, subst, ◌∙◌, arith}
use Rattle.std.specs.Prelude.{None, slice_get}
use Rattle.std.specs.List.{find, AllPairs, Contains}
use Rattle.std.proofs.lemmas.Bool.{cases_Bool, eq-eqb, eqb-true}
use Rattle.std.proofs.lemmas.List.Kept.{AllPairs-filter}
use Rattle.plan_moves.specs.declared.moves.Move.{Move}
use Rattle.desk_data.specs.Situation.{Situation}
use Rattle.desk_data.specs.PlanRows.{PlanRows}
use Rattle.near_moves.specs.Units.{MoveUnit, owner}
use Rattle.near_moves.specs.Near.{near, of_shard, shard, units, unit_moves, moves_of}
use Rattle.near_moves.specs.Shards.{IsInAShard}
use Rattle.near_moves.specs.Descent.{is_better, better, first_better}
use Rattle.near_moves.specs.Shards.{IsInOneShard}
use Rattle.near_moves.proofs.ListLaws.{contains_head, contains_tail, contains_none, contains_filter, filter_contains, contains_flat_map, flat_map_contains, All_from_contains, filter_none}
use Rattle.near_moves.proofs.DescentLaws.{find-first, find-none}

remainder : (k n : ℕ) → 0 < n → k % n < n
remainder k n some = omega (arith, some)

pub shard-of : (n : ℕ) (us : List MoveUnit) (u : MoveUnit) → 0 < n → Contains us u → IsInOneShard n us u
shard-of n us u some has = record {
  shard = owner u % n;
  below = remainder (owner u) n some;
  there = contains_filter (λ v. eqb (owner v % n) (owner u % n)) us u has (eq-eqb (owner u % n) (owner u % n) refl);
  only = λ s there. sym (eqb-true (owner u % n) s (filter_contains (λ v. eqb (owner v % n) s) us u there).1);
}

pub shard-others : (s n : ℕ) (us : List MoveUnit) (u : MoveUnit) → Contains (of_shard s n us) u → Contains us u
shard-others s n us u has = (filter_contains (λ v. eqb (owner v % n) s) us u has).0

pub shard-order : (s n : ℕ) (us : List MoveUnit) (test : MoveUnit → MoveUnit → Bool) → AllPairs (λ u v. test u v ≡ true) us → AllPairs (λ u v. test u v ≡ true) (of_shard s n us)
shard-order s n us test pairs = AllPairs-filter (λ u v. test u v ≡ true) (λ v. eqb (owner v % n) s) us pairs

all_of_one : (us : List MoveUnit) → of_shard 0 1 us ≡ us
all_of_one [] = refl
all_of_one (u ∷ us) =
    let here : eqb (owner u % 1) 0 ≡ true = eq-eqb (owner u % 1) 0 (omega arith) in
    rw here (ap (λ vs. u ∷ vs) (all_of_one us))

pub shard-one : (I : Situation) (P : PlanRows) → shard I P 0 1 ≡ near I P
unfolding shard near
shard-one I P = ap (moves_of I P) (all_of_one (units I P))

-- ---- the moves

pub moves-part : (I : Situation) (P : PlanRows) (n : ℕ) (m : Move) → 0 < n → Contains (near I P) m → IsInAShard I P n m
unfolding shard near
moves-part I P n m some has =
    let source = flat_map_contains (unit_moves I P) (units I P) m has in
    let own = shard-of n (units I P) source.from some source.there in
    record {
      number = own.shard;
      below = own.below;
      there = contains_flat_map (unit_moves I P) (of_shard own.shard n (units I P)) source.from m own.there source.is;
    }

pub moves-others : (I : Situation) (P : PlanRows) (s n : ℕ) (m : Move) → Contains (shard I P s n) m → Contains (near I P) m
unfolding shard near
moves-others I P s n m has =
    let source = flat_map_contains (unit_moves I P) (of_shard s n (units I P)) m has in
    contains_flat_map (unit_moves I P) (units I P) source.from m (shard-others s n (units I P) source.from source.there) source.is

-- what a list has does not pass where nothing is found in it
not_found : {X : Type 0} (p : X → Bool) (xs : List X) (x : X) → find p xs ≡ None → Contains xs x → p x ≡ false
not_found p xs x none has =
    elim (cases_Bool (p x)) [
      | inl passes ↦ absurd (contains_none x (subst (λ ys. Contains ys x) (find-none p xs none) (contains_filter p xs x has passes)))
      | inr fails ↦ fails
    ]

-- and nothing is found where nothing that it has passes
found_none : {X : Type 0} (p : X → Bool) (xs : List X) → ((x : X) → Contains xs x → p x ≡ false) → find p xs ≡ None
found_none p [] each = refl
found_none p (x ∷ xs) each = rw (each x (contains_head x xs)) (found_none p xs (λ y has. each y (contains_tail x y xs has)))

pub none-better : (I : Situation) (P : PlanRows) (n : ℕ) → 0 < n → ((s : ℕ) → s < n → first_better I P s n ≡ None) → better I P ≡ []
none-better I P n some none =
    filter_none (is_better I P) (near I P) (All_from_contains (λ m. is_better I P m ≡ false) (near I P) (λ m has.
    let own = moves-part I P n m some has in
    not_found (is_better I P) (shard I P own.number n) m (none own.number own.below) own.there))

pub none-found : (I : Situation) (P : PlanRows) (s n : ℕ) → better I P ≡ [] → first_better I P s n ≡ None
none-found I P s n none =
    found_none (is_better I P) (shard I P s n) (λ m has.
    not_found (is_better I P) (near I P) m (find-first (is_better I P) (near I P) ∙ ap (λ (ms : List Move). slice_get ms 0) none) (moves-others I P s n m has))
