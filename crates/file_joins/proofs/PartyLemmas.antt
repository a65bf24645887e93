-- Passengers by their paths, in a map whose keys are compared as paths are.
use Rattle.std.proofs.Common.{◌≡◌, ℕ, Bool, true, false, cond, not, List, [], ◌∷◌, map, Option, Some, refl, sym, ap, ◌∙◌}
use Rattle.std.specs.Prelude.{is_some}
use Rattle.std.specs.declared.alloc.Global.{Global}
use Rattle.std.specs.declared.vec.Vec.{Vec}
use Rattle.desk_units.specs.declared.numbers.Cabin.{Cabin}
use Rattle.desk_units.specs.declared.numbers.Cabin.TheVariants.{F, B, E}
use Rattle.desk_units.specs.declared.numbers.Leg.{Leg}
use Rattle.desk_units.specs.contracts.numbers.LegOrd.TheImpl as leg_order
use Rattle.desk_units.specs.contracts.numbers.CabinOrd.TheImpl as cabin_order
use Rattle.desk_units.specs.Ranks.{cabin_rank}
use Rattle.desk_data.specs.PlanRows.{pair_cmp, path_cmp}
use Rattle.file_joins.specs.Groups.{Passengers, has_path}
use Rattle.file_joins.specs.Parties.{passengers_in}
use Rattle.std.specs.Map.{lookup}
use Rattle.std.specs.Ordering.{match_ordering, ordering_then}
use Rattle.std.specs.declared.cmp.Ordering.{Ordering}
use Rattle.std.specs.declared.cmp.Ordering.TheVariants.{Less, Equal, Greater}
use Rattle.std.specs.Cmp.Lexicographic.{slice_cmp}
use Rattle.std.specs.Ordering.{nat_cmp}
use Rattle.std.specs.BTreeMap.{BTreeMap, insert_entry, is_at, get}

module _ {K L X : Type 0} (shown : K → L) (C : K → K → Ordering) (D : L → L → Ordering) (same : (a b : K) → C a b ≡ D (shown a) (shown b)) where
  -- an entry as it is seen
  abbrev entry : K × X → L × X
  entry e = (shown e.0, e.1)

  abbrev Behaves : List (K × X) → K → X → Type 0
  Behaves es k v = map entry (insert_entry C es k v) ≡ insert_entry D (map entry es) (shown k) v

  -- an entry that is put in is put in as it is seen
  pub inserted : (es : List (K × X)) (k : K) (v : X) → map entry (insert_entry C es k v) ≡ insert_entry D (map entry es) (shown k) v
  inserted [] k v = refl
  inserted (e ∷ es) k v = by (C k e.0) (D (shown k) (shown e.0)) (same k e.0) (inserted es k v)
    where
      on : (o : Ordering) → Behaves es k v → map entry (match_ordering o ((k, v) ∷ e ∷ es) ((e.0, v) ∷ es) (e ∷ insert_entry C es k v))
          ≡ match_ordering o ((shown k, v) ∷ entry e ∷ map entry es) ((shown e.0, v) ∷ map entry es) (entry e ∷ insert_entry D (map entry es) (shown k) v)
      on Less rest = refl
      on Equal rest = refl
      on Greater rest = ap (λ (r : List (L × X)). entry e ∷ r) rest

      by : (o p : Ordering) → o ≡ p → Behaves es k v → map entry (match_ordering o ((k, v) ∷ e ∷ es) ((e.0, v) ∷ es) (e ∷ insert_entry C es k v))
          ≡ match_ordering p ((shown k, v) ∷ entry e ∷ map entry es) ((shown e.0, v) ∷ map entry es) (entry e ∷ insert_entry D (map entry es) (shown k) v)
      by o p is rest = on o rest ∙ ap (λ (o : Ordering). match_ordering o ((shown k, v) ∷ entry e ∷ map entry es) ((shown e.0, v) ∷ map entry es) (entry e ∷ insert_entry D (map entry es) (shown k) v)) is

  -- what is found is what is seen
  pub found : (es : List (K × X)) (k : K) → lookup (is_at (C k)) es ≡ lookup (is_at (D (shown k))) (map entry es)
  found [] k = refl
  found (e ∷ es) k =
      ap (λ (o : Ordering). cond (is_at (λ (_ : K). o) k) (Some e.1) (lookup (is_at (C k)) es)) (same k e.0)
      ∙ ap (λ (rest : Option X). cond (is_at (D (shown k)) (shown e.0)) (Some e.1) rest) (found es k)

-- lists are compared alike where their elements are
pub same_slices : {A : Type 0} (R S : A → A → Ordering) → ((x y : A) → R x y ≡ S x y) → (xs ys : List A) → slice_cmp R xs ys ≡ slice_cmp S xs ys
same_slices R S same [] [] = refl
same_slices R S same [] (y ∷ ys) = refl
same_slices R S same (x ∷ xs) [] = refl
same_slices R S same (x ∷ xs) (y ∷ ys) =
    ap (λ (o : Ordering). ordering_then o (slice_cmp R xs ys)) (same x y) ∙ ap (ordering_then (S x y)) (same_slices R S same xs ys)

-- pairs of leg and cabin are compared by leg, then by cabin
leg_same : (x y : Leg) → (leg_order.ghosts).cmp x y ≡ nat_cmp x.0 y.0
leg_same x y = refl

cabin_same : (x y : Cabin) → (cabin_order.ghosts).cmp x y ≡ nat_cmp (cabin_rank x) (cabin_rank y)
cabin_same F F = refl
cabin_same F B = refl
cabin_same F E = refl
cabin_same B F = refl
cabin_same B B = refl
cabin_same B E = refl
cabin_same E F = refl
cabin_same E B = refl
cabin_same E E = refl

pub pair_same : (x y : Leg × Cabin) → ordering_then ((leg_order.ghosts).cmp x.0 y.0) ((cabin_order.ghosts).cmp x.1 y.1) ≡ pair_cmp x y
pair_same x y = ap (ordering_then (nat_cmp x.0.0 y.0.0)) (cabin_same x.1 y.1)

abbrev Seats : Type 0
Seats = Vec (Leg × Cabin) Global

abbrev Kept : Type 0
Kept = BTreeMap Seats ℕ

module _ (C : Seats → Seats → Ordering) (same : (a b : Seats) → C a b ≡ path_cmp a.items b.items) (kept : Kept) (key : Seats) (path : List (Leg × Cabin)) where
  -- whether there were passengers on a path
  pub put_new : (before : Option ℕ) (new : Bool) → key.items ≡ path → before ≡ get C kept key → is_some before ≡ not new → new ≡ not (has_path path (passengers_in kept))
  put_new before new seats was none =
      not_not new (is_some before) none
      ∙ ap (λ (o : Option ℕ). not (is_some o)) (was ∙ found_same)
      ∙ ap (λ (p : List (Leg × Cabin)). not (has_path p (passengers_in kept))) seats
    where
      found_same : get C kept key ≡ lookup (is_at (path_cmp key.items)) (passengers_in kept)
      found_same = found (λ (s : Seats). s.items) C path_cmp same kept.entries key

      not_not : (a b : Bool) → b ≡ not a → a ≡ not b
      not_not true b e = sym (ap not e)
      not_not false b e = sym (ap not e)

  -- passengers are put on a path
  pub put_in : (after : Kept) (count : ℕ) → key.items ≡ path → after.entries ≡ insert_entry C kept.entries key count
      → passengers_in after ≡ insert_entry path_cmp (passengers_in kept) path count
  put_in after count seats put =
      ap (λ (es : List (Seats × ℕ)). map (λ (entry : Seats × ℕ). (entry.0.items, entry.1)) es) put
      ∙ inserted (λ (s : Seats). s.items) C path_cmp same kept.entries key count
      ∙ ap (λ (p : List (Leg × Cabin)). insert_entry path_cmp (passengers_in kept) p count) seats
