-- The walk over the units, and over their moves.
use Rattle.std.proofs.Common.{◌≡◌, inl, inr, ℕ, zero, suc, ◌+◌, ◌<◌, ◌≤◌, ◌%◌, Bool, true, false, ◌&&◌, cond, not, leb, eqb, List, [], ◌∷◌, ◌++◌, length, map, drop, take, reverse, refl, sym, ap, subst, ◌∙◌, arith, add-one}
use Rattle.std.specs.Prelude.{Option, Some, None, is_none, filter, option_to_list}
use Rattle.std.specs.Option.{ForSome}
use Rattle.std.specs.List.{All, flat_map}
use Rattle.std.proofs.lemmas.Bool.{cases_Bool, true≢false, and_parts, leb-true, leb-false, le-leb}
use Rattle.std.proofs.lemmas.List.{append_assoc, append-nil, reverse-append}
use Rattle.std.proofs.lemmas.List.Concat.{flat_map_single}
use Rattle.std.proofs.lemmas.List.Elements.{All-nil, All-cons, All-head, All-tail, All-map, All-drop, filter-append}
use Rattle.desk_data.specs.Situation.{Situation, legs_of, planes_of, leg_at, plane_at}
use Rattle.desk_data.specs.PlanRows.{PlanRows}
use Rattle.desk_data.specs.Valid.{IsPlanFor}
use Rattle.plan_moves.specs.declared.moves.Move.{Move}
use Rattle.plan_moves.specs.Fits.{Fits}
use Rattle.desk_rules.specs.Numbers.{numbers}
use Rattle.desk_rules.proofs.HourLaws.{length-numbers}
use Rattle.near_moves.specs.MoveParts.{is_movable_flown, is_restorable, family_of, is_run}
use Rattle.near_moves.specs.Units.{MoveUnit, retimed, swapped, dropped, restored, handed, owner}
use Rattle.near_moves.specs.LegMoves.{retimed_units, later_of_family, swapped_units, dropped_units, restored_units, run_lengths, others_of_family, handed_units}
use Rattle.near_moves.specs.Near.{leg_units, of_shard, moves_of, unit_moves}
use Rattle.near_moves.proofs.ListLaws.{drop_numbers, All_flat_map, for_none, for_some}
use Rattle.near_moves.proofs.UnitLaws.{some-fit}
use Rattle.near_legs.specs.declared.unit.LegUnit.{LegUnit}
use Rattle.near_legs.specs.declared.neighbourhood.Neighbourhood.{Neighbourhood}
use Rattle.near_legs.specs.declared.neighbourhood.Neighbourhood.TheVariants as neighbourhood
use Rattle.near_legs.specs.Choices.{unit_of, IsLegUnit}
use Rattle.near_legs.specs.Walk.{owners, handed_of_run, owned_in, rest_of, next_neighbourhood, after_neighbourhood, UnitWalk, units_left, IsUnitWalk, MoveWalk, left, rank, places_left, is_at_end, at_neighbourhood, at_next_neighbourhood, IsNextUnit}

-- ---- the units of a neighbourhood, in a shard

keeps : (s n o : ℕ) (us : List MoveUnit) → All (λ u. owner u ≡ o) us → eqb (o % n) s ≡ true → filter (λ u. eqb (owner u % n) s) us ≡ us
keeps s n o [] all here = refl
keeps s n o (u ∷ us) all here =
    let own : eqb (owner u % n) s ≡ true = ap (λ (k : ℕ). eqb (k % n) s) (All-head (λ v. owner v ≡ o) u us all) ∙ here in
    rw own (ap (λ vs. u ∷ vs) (keeps s n o us (All-tail (λ v. owner v ≡ o) u us all) here))

drops : (s n o : ℕ) (us : List MoveUnit) → All (λ u. owner u ≡ o) us → eqb (o % n) s ≡ false → filter (λ u. eqb (owner u % n) s) us ≡ []
drops s n o [] all gone = refl
drops s n o (u ∷ us) all gone =
    let own : eqb (owner u % n) s ≡ false = ap (λ (k : ℕ). eqb (k % n) s) (All-head (λ v. owner v ≡ o) u us all) ∙ gone in
    rw own (drops s n o us (All-tail (λ v. owner v ≡ o) u us all) gone)

same_owner : (s n o : ℕ) (us : List MoveUnit) → All (λ u. owner u ≡ o) us → filter (λ u. eqb (owner u % n) s) us ≡ cond (eqb (o % n) s) us []
same_owner s n o us all = elim (cases_Bool (eqb (o % n) s)) [
  | inl here ↦ keeps s n o us all here ∙ sym (ap (λ (b : Bool). cond b us []) here)
  | inr gone ↦ drops s n o us all gone ∙ sym (ap (λ (b : Bool). cond b us []) gone)
]

no_units : (b : Bool) → cond b (let us : List MoveUnit = [] in us) [] ≡ []
no_units true = refl
no_units false = refl

shard-step : (h : ℕ → List MoveUnit) (t : ℕ → Bool) (s n o : ℕ) (xs : List ℕ) → All (λ u. owner u ≡ o) (h o) → (b : Bool) → filter (λ u. eqb (owner u % n) s) (flat_map h (filter t xs)) ≡ flat_map (λ k. cond (eqb (k % n) s) (cond (t k) (h k) []) []) xs
    → filter (λ u. eqb (owner u % n) s) (flat_map h (cond b (o ∷ filter t xs) (filter t xs))) ≡ cond (eqb (o % n) s) (cond b (h o) []) [] ++ flat_map (λ k. cond (eqb (k % n) s) (cond (t k) (h k) []) []) xs
shard-step h t s n o xs own true more =
    filter-append (λ u. eqb (owner u % n) s) (h o) (flat_map h (filter t xs))
    ∙ ap (λ us. us ++ filter (λ u. eqb (owner u % n) s) (flat_map h (filter t xs))) (same_owner s n o (h o) own)
    ∙ ap (λ us. cond (eqb (o % n) s) (h o) [] ++ us) more
shard-step h t s n o xs own false more =
    more ∙ ap (λ us. us ++ flat_map (λ k. cond (eqb (k % n) s) (cond (t k) (h k) []) []) xs) (sym (no_units (eqb (o % n) s)))

neighbourhood-shard : (h : ℕ → List MoveUnit) (t : ℕ → Bool) (s n : ℕ) → ((o : ℕ) → All (λ u. owner u ≡ o) (h o)) → (xs : List ℕ) → filter (λ u. eqb (owner u % n) s) (flat_map h (filter t xs)) ≡ flat_map (λ o. cond (eqb (o % n) s) (cond (t o) (h o) []) []) xs
neighbourhood-shard h t s n own [] = refl
neighbourhood-shard h t s n own (o ∷ xs) = shard-step h t s n o xs (own o) (t o) (neighbourhood-shard h t s n own xs)

-- ---- all of them, at the start

one_owner : (f : ℕ → MoveUnit) (o : ℕ) → owner (f o) ≡ o → All (λ u. owner u ≡ o) (f o ∷ [])
one_owner f o is = All-cons (λ u. owner u ≡ o) (f o) [] is (All-nil (λ u. owner u ≡ o))

retimed-rest : (I : Situation) (P : PlanRows) (s n : ℕ) → of_shard s n (retimed_units I P) ≡ rest_of I P s n neighbourhood.Retimed 0
unfolding retimed_units rest_of
retimed-rest I P s n =
    ap (filter (λ u. eqb (owner u % n) s)) (sym (flat_map_single retimed (filter (is_movable_flown I P) (numbers (legs_of I)))))
    ∙ neighbourhood-shard (λ x. retimed x ∷ []) (is_movable_flown I P) s n (λ o. one_owner retimed o refl) (numbers (legs_of I))

dropped-rest : (I : Situation) (P : PlanRows) (s n : ℕ) → of_shard s n (dropped_units I P) ≡ rest_of I P s n neighbourhood.Dropped 0
unfolding dropped_units rest_of
dropped-rest I P s n =
    ap (filter (λ u. eqb (owner u % n) s)) (sym (flat_map_single dropped (filter (is_movable_flown I P) (numbers (legs_of I)))))
    ∙ neighbourhood-shard (λ x. dropped x ∷ []) (is_movable_flown I P) s n (λ o. one_owner dropped o refl) (numbers (legs_of I))

swapped-rest : (I : Situation) (P : PlanRows) (s n : ℕ) → of_shard s n (swapped_units I) ≡ rest_of I P s n neighbourhood.Swapped 0
unfolding swapped_units rest_of
swapped-rest I P s n =
    neighbourhood-shard (λ p. map (swapped p) (later_of_family I p)) (λ p. not (plane_at I p).surface) s n (λ o. All-map (λ u. owner u ≡ o) (swapped o) (later_of_family I o) (λ k d lt. refl)) (numbers (planes_of I))

restored-rest : (I : Situation) (P : PlanRows) (s n : ℕ) → of_shard s n (restored_units I P) ≡ rest_of I P s n neighbourhood.Restored 0
unfolding restored_units rest_of
restored-rest I P s n =
    neighbourhood-shard (λ x. map (restored x) (family_of I (leg_at I x).plane.0)) (is_restorable I P) s n (λ o. All-map (λ u. owner u ≡ o) (restored o) (family_of I (leg_at I o).plane.0) (λ k d lt. refl)) (numbers (legs_of I))

handed-rest : (I : Situation) (P : PlanRows) (s n : ℕ) → of_shard s n (handed_units I P) ≡ rest_of I P s n neighbourhood.Handed 0
unfolding handed_units rest_of
handed-rest I P s n =
    neighbourhood-shard (λ x. flat_map (handed_of_run I P x) (filter (is_run I P x) run_lengths)) (is_movable_flown I P) s n
    (λ o. All_flat_map (λ u. owner u ≡ o) (handed_of_run I P o) (filter (is_run I P o) run_lengths) (λ k d lt. All-map (λ u. owner u ≡ o) (handed o _) (others_of_family I P o) (λ i e within. refl))) (numbers (legs_of I))

five : (a b d e f : List MoveUnit) → a ++ b ++ d ++ e ++ f ≡ a ++ (b ++ (d ++ (e ++ f)))
five a b d e f = simp append_assoc

pub start-left : (I : Situation) (P : PlanRows) (s n : ℕ) → rest_of I P s n neighbourhood.Retimed 0 ++ after_neighbourhood I P s n neighbourhood.Retimed ≡ of_shard s n (leg_units I P)
unfolding leg_units
start-left I P s n =
    let q = λ (u : MoveUnit). eqb (owner u % n) s in
    let a = retimed_units I P in
    let b = swapped_units I in
    let d = dropped_units I P in
    let e = restored_units I P in
    let f = handed_units I P in
    sym (filter-append q (a ++ b ++ d ++ e) f
    ∙ ap (λ us. us ++ filter q f) (filter-append q (a ++ b ++ d) e ∙ ap (λ us. us ++ filter q e) (filter-append q (a ++ b) d ∙ ap (λ us. us ++ filter q d) (filter-append q a b)))
    ∙ five (filter q a) (filter q b) (filter q d) (filter q e) (filter q f)
    ∙ rw (retimed-rest I P s n, swapped-rest I P s n, dropped-rest I P s n, restored-rest I P s n, handed-rest I P s n) refl)

-- ---- one owner more, and one neighbourhood more

drop_all : {X : Type 0} (xs : List X) (n : ℕ) → length xs ≤ n → drop n xs ≡ []
drop_all [] zero h = refl
drop_all [] (suc n) h = refl
drop_all (x ∷ xs) zero h = absurd (omega (arith, h))
drop_all (x ∷ xs) (suc n) h = drop_all xs n (omega (arith, h))

rest-at : (I : Situation) (P : PlanRows) (s n : ℕ) (f : Neighbourhood) (o : ℕ) → o < owners I f → rest_of I P s n f o ≡ owned_in I P s n f o ++ rest_of I P s n f (o + 1)
unfolding rest_of
rest-at I P s n f o lt = rw add-one (ap (flat_map (owned_in I P s n f)) (drop_numbers (owners I f) o lt))

rest-end : (I : Situation) (P : PlanRows) (s n : ℕ) (f : Neighbourhood) (o : ℕ) → owners I f ≤ o → rest_of I P s n f o ≡ []
unfolding rest_of
rest-end I P s n f o past = ap (flat_map (owned_in I P s n f)) (drop_all (numbers (owners I f)) o (rw length-numbers past))

pub take-left : (I : Situation) (P : PlanRows) (W : UnitWalk) (made : List LegUnit) → W.at_hand ≡ [] → W.owner < owners I W.neighbourhood → map unit_of made ≡ owned_in I P W.shard W.shards W.neighbourhood W.owner → units_left I P (record W { at_hand = made; owner = W.owner + 1 }) ≡ units_left I P W
take-left I P W made empty lt is =
    let after = after_neighbourhood I P W.shard W.shards W.neighbourhood in
    let rest = rest_of I P W.shard W.shards W.neighbourhood (W.owner + 1) in
    ap (λ us. us ++ (rest ++ after)) is
    ∙ sym (append_assoc (owned_in I P W.shard W.shards W.neighbourhood W.owner) rest after)
    ∙ ap (λ us. us ++ after) (sym (rest-at I P W.shard W.shards W.neighbourhood W.owner lt))
    ∙ ap (λ us. map unit_of us ++ (rest_of I P W.shard W.shards W.neighbourhood W.owner ++ after)) (sym empty)

after-next : (I : Situation) (P : PlanRows) (s n : ℕ) (f next : Neighbourhood) → next_neighbourhood f ≡ Some next → after_neighbourhood I P s n f ≡ rest_of I P s n next 0 ++ after_neighbourhood I P s n next
after-next I P s n neighbourhood.Retimed next is = let same : neighbourhood.Swapped ≡ next = cc in ap (λ g. rest_of I P s n g 0 ++ after_neighbourhood I P s n g) same
after-next I P s n neighbourhood.Swapped next is = let same : neighbourhood.Dropped ≡ next = cc in ap (λ g. rest_of I P s n g 0 ++ after_neighbourhood I P s n g) same
after-next I P s n neighbourhood.Dropped next is = let same : neighbourhood.Restored ≡ next = cc in ap (λ g. rest_of I P s n g 0 ++ after_neighbourhood I P s n g) same
after-next I P s n neighbourhood.Restored next is = let same : neighbourhood.Handed ≡ next = cc in sym (append-nil (rest_of I P s n neighbourhood.Handed 0)) ∙ ap (λ g. rest_of I P s n g 0 ++ after_neighbourhood I P s n g) same
after-next I P s n neighbourhood.Handed next is = absurd cc

next-left-at : (I : Situation) (P : PlanRows) (W : UnitWalk) (o : Option Neighbourhood) → next_neighbourhood W.neighbourhood ≡ o → owners I W.neighbourhood ≤ W.owner → units_left I P (at_neighbourhood W o) ≡ units_left I P W
next-left-at I P W None is past = refl
next-left-at I P W (Some next) is past =
    ap (λ us. map unit_of W.at_hand ++ us)
    (sym (after-next I P W.shard W.shards W.neighbourhood next is) ∙ ap (λ us. us ++ after_neighbourhood I P W.shard W.shards W.neighbourhood) (sym (rest-end I P W.shard W.shards W.neighbourhood W.owner past)))

pub next-left : (I : Situation) (P : PlanRows) (W : UnitWalk) → owners I W.neighbourhood ≤ W.owner → units_left I P (at_next_neighbourhood W) ≡ units_left I P W
next-left I P W past = next-left-at I P W (next_neighbourhood W.neighbourhood) refl past

next-walk-at : (I : Situation) (P : PlanRows) (W : UnitWalk) (o : Option Neighbourhood) → IsUnitWalk I P W → IsUnitWalk I P (at_neighbourhood W o)
next-walk-at I P W None walk = walk
next-walk-at I P W (Some next) walk = record { lists = walk.lists; shard = walk.shard; owner = omega arith; at_hand = walk.at_hand }

pub next-walk : (I : Situation) (P : PlanRows) (W : UnitWalk) → IsUnitWalk I P W → IsUnitWalk I P (at_next_neighbourhood W)
next-walk I P W walk = next-walk-at I P W (next_neighbourhood W.neighbourhood) walk

rank-next : (f next : Neighbourhood) → next_neighbourhood f ≡ Some next → rank next ≡ rank f + 1
rank-next neighbourhood.Retimed next is = let same : neighbourhood.Swapped ≡ next = cc in ap rank (sym same)
rank-next neighbourhood.Swapped next is = let same : neighbourhood.Dropped ≡ next = cc in ap rank (sym same)
rank-next neighbourhood.Dropped next is = let same : neighbourhood.Restored ≡ next = cc in ap rank (sym same)
rank-next neighbourhood.Restored next is = let same : neighbourhood.Handed ≡ next = cc in ap rank (sym same)
rank-next neighbourhood.Handed next is = absurd cc

rank-most : (f : Neighbourhood) → rank f ≤ 4
rank-most neighbourhood.Retimed = omega arith
rank-most neighbourhood.Swapped = omega arith
rank-most neighbourhood.Dropped = omega arith
rank-most neighbourhood.Restored = omega arith
rank-most neighbourhood.Handed = omega arith

next-nearer-at : (W : UnitWalk) (o : Option Neighbourhood) → next_neighbourhood W.neighbourhood ≡ o → is_none o ≡ false → W.owner ≤ 20000 → places_left (at_neighbourhood W o) < places_left W
next-nearer-at W None is more few = absurd (true≢false more)
next-nearer-at W (Some next) is more few =
    let higher = rank-next W.neighbourhood next is in
    let most = rank-most next in
    omega (arith, higher, most, few)

still : (I : Situation) (W : UnitWalk) → is_at_end I W ≡ false → owners I W.neighbourhood ≤ W.owner → is_none (next_neighbourhood W.neighbourhood) ≡ false
still I W more past = let test : leb (owners I W.neighbourhood) W.owner ≡ true = le-leb (owners I W.neighbourhood) W.owner past in sym (ap (λ (b : Bool). b && is_none (next_neighbourhood W.neighbourhood)) test) ∙ more

pub next-nearer : (I : Situation) (W : UnitWalk) → is_at_end I W ≡ false → owners I W.neighbourhood ≤ W.owner → W.owner ≤ 20000 → places_left (at_next_neighbourhood W) < places_left W
next-nearer I W more past few = next-nearer-at W (next_neighbourhood W.neighbourhood) refl (still I W more past) few

pub take-nearer : (I : Situation) (W : UnitWalk) (made : List LegUnit) → W.owner < owners I W.neighbourhood → owners I W.neighbourhood ≤ 20000 → places_left (record W { at_hand = made; owner = W.owner + 1 }) < places_left W
take-nearer I W made lt few =
    let most = rank-most W.neighbourhood in
    omega (arith, lt, few, most)

-- ---- what is at hand

after-none : (I : Situation) (P : PlanRows) (s n : ℕ) (f : Neighbourhood) → is_none (next_neighbourhood f) ≡ true → after_neighbourhood I P s n f ≡ []
after-none I P s n neighbourhood.Retimed h = absurd (true≢false (sym h))
after-none I P s n neighbourhood.Swapped h = absurd (true≢false (sym h))
after-none I P s n neighbourhood.Dropped h = absurd (true≢false (sym h))
after-none I P s n neighbourhood.Restored h = absurd (true≢false (sym h))
after-none I P s n neighbourhood.Handed h = refl

pub end-left : (I : Situation) (P : PlanRows) (W : UnitWalk) → is_at_end I W ≡ true → W.at_hand ≡ [] → units_left I P W ≡ []
end-left I P W done empty =
    let parts = and_parts (leb (owners I W.neighbourhood) W.owner) (is_none (next_neighbourhood W.neighbourhood)) done in
    ap (λ us. map unit_of us ++ (rest_of I P W.shard W.shards W.neighbourhood W.owner ++ after_neighbourhood I P W.shard W.shards W.neighbourhood)) empty
    ∙ ap (λ us. us ++ after_neighbourhood I P W.shard W.shards W.neighbourhood) (rest-end I P W.shard W.shards W.neighbourhood W.owner (leb-true (owners I W.neighbourhood) W.owner parts.0))
    ∙ after-none I P W.shard W.shards W.neighbourhood parts.1

next-some : (I : Situation) (P : PlanRows) (u : LegUnit) (xs : List LegUnit) → All (IsLegUnit I P) xs → u ∷ [] ≡ take 1 xs → IsLegUnit I P u × (xs ≡ u ∷ drop 1 xs)
next-some I P u [] all is = absurd cc
next-some I P u (x ∷ xs) all is = let same : u ≡ x = cc in (subst (IsLegUnit I P) (sym same) (All-head (IsLegUnit I P) x xs all), ap (λ y. y ∷ xs) (sym same))

none_taken : (xs : List LegUnit) → [] ≡ take 1 xs → xs ≡ []
none_taken [] is = refl
none_taken (x ∷ xs) is = absurd cc

pub next-is : (I : Situation) (P : PlanRows) (W : UnitWalk) (r : Option LegUnit) → IsUnitWalk I P W → option_to_list r ≡ take 1 W.at_hand → (W.at_hand ≡ [] → is_at_end I W ≡ true) → IsNextUnit I P W r
next-is I P W None walk is done = let empty = none_taken W.at_hand is in end-left I P W (done empty) empty
next-is I P W (Some u) walk is done = next-some I P u W.at_hand walk.at_hand is

-- ---- a walk that goes on, whatever stands for the walk before

pub owner-left : (I : Situation) (P : PlanRows) (V W : UnitWalk) (made : List LegUnit) → V ≡ W → W.at_hand ≡ [] → leb (owners I W.neighbourhood) W.owner ≡ false → map unit_of made ≡ owned_in I P W.shard W.shards W.neighbourhood W.owner → units_left I P (record V { at_hand = made; owner = V.owner + 1 }) ≡ units_left I P W
owner-left I P V W made same empty before is =
    subst (λ (U : UnitWalk). units_left I P (record U { at_hand = made; owner = U.owner + 1 }) ≡ units_left I P W) (sym same)
    (take-left I P W made empty (leb-false (owners I W.neighbourhood) W.owner before) is)

pub owner-nearer : (I : Situation) (V W : UnitWalk) (made : List LegUnit) → V ≡ W → leb (owners I W.neighbourhood) W.owner ≡ false → owners I W.neighbourhood ≤ 20000 → places_left (record V { at_hand = made; owner = V.owner + 1 }) < places_left W
owner-nearer I V W made same before few =
    subst (λ (U : UnitWalk). places_left (record U { at_hand = made; owner = U.owner + 1 }) < places_left W) (sym same)
    (take-nearer I W made (leb-false (owners I W.neighbourhood) W.owner before) few)

pub neighbourhood-left : (I : Situation) (P : PlanRows) (U V W : UnitWalk) → U ≡ at_next_neighbourhood V → V ≡ W → leb (owners I W.neighbourhood) W.owner ≡ true → units_left I P U ≡ units_left I P W
neighbourhood-left I P U V W is same past = ap (units_left I P) (is ∙ ap at_next_neighbourhood same) ∙ next-left I P W (leb-true (owners I W.neighbourhood) W.owner past)

pub neighbourhood-nearer : (I : Situation) (U V W : UnitWalk) → U ≡ at_next_neighbourhood V → V ≡ W → is_at_end I W ≡ false → leb (owners I W.neighbourhood) W.owner ≡ true → W.owner ≤ 20000 → places_left U < places_left W
neighbourhood-nearer I U V W is same more past few =
    subst (λ (T : UnitWalk). places_left T < places_left W) (sym (is ∙ ap at_next_neighbourhood same)) (next-nearer I W more (leb-true (owners I W.neighbourhood) W.owner past) few)

pub skip-walk : (I : Situation) (P : PlanRows) (W : UnitWalk) → IsUnitWalk I P W → IsUnitWalk I P (record W { at_hand = drop 1 W.at_hand })
skip-walk I P W walk = record { lists = walk.lists; shard = walk.shard; owner = walk.owner; at_hand = All-drop (IsLegUnit I P) 1 W.at_hand walk.at_hand }

-- ---- moves that are given

pub given-fit : (I : Situation) (old new : List Move) (r : Option Move) (rest : List Move) → old ≡ new ++ option_to_list r → All (Fits I) (reverse old ++ rest) → All (Fits I) (reverse new ++ rest) × ForSome r (Fits I)
given-fit I old new None rest is fits = (subst (λ (ms : List Move). All (Fits I) (reverse ms ++ rest)) (is ∙ append-nil new) fits, for_none (Fits I))
given-fit I old new (Some m) rest is fits =
    let same : reverse old ++ rest ≡ m ∷ (reverse new ++ rest) = ap (λ (ms : List Move). reverse ms ++ rest) is ∙ ap (λ (ms : List Move). ms ++ rest) (reverse-append new (m ∷ [])) in
    let all : All (Fits I) (m ∷ (reverse new ++ rest)) = subst (All (Fits I)) same fits in
    (All-tail (Fits I) m (reverse new ++ rest) all, for_some (Fits I) m (All-head (Fits I) m (reverse new ++ rest) all))

pub start-fits : (I : Situation) (P : PlanRows) (s n : ℕ) (us : List MoveUnit) → IsPlanFor I P → us ≡ of_shard s n (leg_units I P) → All (Fits I) (moves_of I P us)
start-fits I P s n us plan is = subst (λ vs. All (Fits I) (moves_of I P vs)) (sym is) (some-fit I P (λ u. eqb (owner u % n) s) plan)

-- the moves of the unit at hand, and of those after it
made-left : (I : Situation) (P : PlanRows) (W : UnitWalk) (u : LegUnit) → W.at_hand ≡ u ∷ drop 1 W.at_hand → moves_of I P (units_left I P W) ≡ unit_moves I P (unit_of u) ++ moves_of I P (units_left I P (record W { at_hand = drop 1 W.at_hand }))
made-left I P W u is =
    ap (λ (us : List LegUnit). moves_of I P (map unit_of us ++ (rest_of I P W.shard W.shards W.neighbourhood W.owner ++ after_neighbourhood I P W.shard W.shards W.neighbourhood))) is

pub made-fit : (I : Situation) (P : PlanRows) (old : MoveWalk) (W S : UnitWalk) (u : LegUnit) (made : List Move) → All (Fits I) (left I P old) → old.made ≡ [] → units_left I P W ≡ units_left I P old.units → W.at_hand ≡ u ∷ drop 1 W.at_hand → S ≡ record W { at_hand = drop 1 W.at_hand } → made ≡ unit_moves I P (unit_of u) → All (Fits I) (made ++ moves_of I P (units_left I P S))
made-fit I P old W S u made fits empty same next skipped is =
    let all : left I P old ≡ made ++ moves_of I P (units_left I P S) =
    ap (λ (ms : List Move). ms ++ moves_of I P (units_left I P old.units)) empty
    ∙ ap (moves_of I P) (sym same)
    ∙ made-left I P W u next
    ∙ ap (λ (ms : List Move). ms ++ moves_of I P (units_left I P (record W { at_hand = drop 1 W.at_hand }))) (sym is)
    ∙ ap (λ (T : UnitWalk). made ++ moves_of I P (units_left I P T)) (sym skipped) in
    subst (All (Fits I)) all fits
