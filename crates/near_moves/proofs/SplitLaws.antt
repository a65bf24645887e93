-- The moves of a unit of legs begin with steps of its own legs and aircraft, and all others are of passengers.
use Rattle.std.proofs.Common.{◌≡◌, ℕ, ◌<◌, inl, inr, Bool, true, ◌&&◌, ◌||◌, eqb, not, List, [], ◌∷◌, ◌++◌, map, get_or, refl, sym, subst}
use Rattle.std.specs.Prelude.{None, Some, filter}
use Rattle.std.specs.List.{All, Contains, list_all}
use Rattle.std.proofs.lemmas.Bool.{eq-eqb, and_from, and_parts, or_left, or_right}
use Rattle.std.proofs.lemmas.List.{append_assoc}
use Rattle.std.proofs.lemmas.List.Elements.{All-head, All-tail, All-take, All-filter, All-weaker}
use Rattle.desk_data.specs.declared.row.Row.{Row}
use Rattle.desk_data.specs.declared.row.Row.TheVariants.{Cancelled}
use Rattle.desk_data.specs.Situation.{Situation, legs_of, earliest}
use Rattle.desk_data.specs.PlanRows.{PlanRows, row_at}
use Rattle.plan_moves.specs.declared.moves.Move.{Move}
use Rattle.plan_moves.specs.declared.moves.Step.{Step}
use Rattle.plan_moves.specs.declared.moves.Step.TheVariants.{Set, Push, Swap, Tidy, Refill}
use Rattle.desk_rules.specs.Numbers.{numbers}
use Rattle.desk_rules.specs.Rotations.{dep, precedes}
use Rattle.desk_rules.specs.Maintenance.{flies}
use Rattle.desk_rules.specs.Passengers.{is_flown}
use Rattle.desk_model.specs.Push.{rotation}
use Rattle.desk_model.proofs.RotationOrder.{rotation-flown}
use Rattle.near_moves.specs.MoveParts.{leg, plane, flier, flown_row, legs_from, run}
use Rattle.near_moves.specs.Units.{MoveUnit, retimed, swapped, dropped, restored, handed, rebooked}
use Rattle.near_moves.specs.LegMoves.{other_departures, retiming, retimings, exchange_moments, exchange, exchanges, comes_round, run_lengths, cancelling, dropping, droppings, brings_back, back_departure, restoring_alone, restoring_both, restorings, handing_step, handing}
use Rattle.near_moves.specs.Near.{unit_steps, step_in_time, move_of, unit_moves}
use Rattle.near_moves.proofs.ListLaws.{contains_cases, contains_none, filter_contains, map_contains}
use Rattle.near_moves.specs.Same.{is_of}
use Rattle.near_moves.specs.Steps.{is_among, is_tidying, IsSplit, unit_planes, unit_restores, unit_legs, unit_refills, BeginsFlown}
use Rattle.near_moves.proofs.FrameLaws.{is_of-by}
use Rattle.near_moves.proofs.MoveLaws.{flier-flies}

all-append : (test : Step → Bool) (xs ys : List Step) → list_all test xs ≡ true → list_all test ys ≡ true → list_all test (xs ++ ys) ≡ true
all-append test [] ys first second = second
all-append test (x ∷ xs) ys first second =
    let parts = and_parts (test x) (list_all test xs) first in
    and_from (test x) (list_all test (xs ++ ys)) parts.0 (all-append test xs ys parts.1 second)

all-map : (test : Step → Bool) (f : ℕ → Step) (xs : List ℕ) → All (λ x. test (f x) ≡ true) xs → list_all test (map f xs) ≡ true
all-map test f [] all = refl
all-map test f (x ∷ xs) all =
    let Passes : ℕ → Type 0 = λ y. test (f y) ≡ true in
    and_from (test (f x)) (list_all test (map f xs)) (All-head Passes x xs all) (all-map test f xs (All-tail Passes x xs all))

itself : (p : ℕ) → eqb p p ≡ true
itself p = eq-eqb p p refl

two-true : (a b : Bool) → a ≡ true → b ≡ true → (a && (b && true)) ≡ true
two-true a b first second = and_from a (b && true) first (and_from b true second refl)

-- the steps of a move
record StepsSplit (planes legs refilled : ℕ → Bool) (steps : List Step) : Type 0 where
  first : List Step
  others : List Step
  is : steps ≡ first ++ others
  among : list_all (is_among planes legs) first ≡ true
  tidying : list_all (is_tidying refilled) others ≡ true

set-among : (planes legs : ℕ → Bool) (x p t : ℕ) (was : Row) → legs x ≡ true → planes p ≡ true → is_among planes legs (Set (leg x) was (flown_row p t)) ≡ true
set-among planes legs x p t was here own = and_from (legs x) (planes p || not true) here (or_left (planes p) (not true) own)

own-legs : (I : Situation) (P : PlanRows) (u : MoveUnit) (p x : ℕ) → unit_planes P u p ≡ true → flies P p x ≡ true → unit_legs I P u x ≡ true
own-legs I P u p x own on = or_left (is_of (unit_planes P u) (row_at P x)) (unit_restores I P u x) (is_of-by (unit_planes P u) p (row_at P x) own on)

run-own : (I : Situation) (P : PlanRows) (u : MoveUnit) (x k : ℕ) → unit_planes P u (flier (row_at P x)) ≡ true → All (λ y. unit_legs I P u y ≡ true) (run I P x k)
unfolding legs_from
run-own I P u x k own =
    let p = flier (row_at P x) in
    All-take (λ y. unit_legs I P u y ≡ true) k (legs_from I P x)
    (All-filter (λ y. (eqb y x) || precedes P x y) (λ y. unit_legs I P u y ≡ true) (rotation I P p)
    (All-weaker (λ y. (y < legs_of I) × (flies P p y ≡ true)) (λ y. unit_legs I P u y ≡ true) (λ y both. own-legs I P u p y own both.1) (rotation I P p) (rotation-flown I P p)))

abbrev UnitSplit : Situation → PlanRows → MoveUnit → List Step → Type 0
UnitSplit I P u steps = StepsSplit (unit_planes P u) (unit_legs I P u) (unit_refills I P u) steps

retimed-split : (I : Situation) (P : PlanRows) (x t : ℕ) → is_flown (row_at P x) ≡ true → UnitSplit I P (retimed x) (retiming P x t)
retimed-split I P x t on =
    let p = flier (row_at P x) in
    let own : eqb p p ≡ true = itself p in
    record {
      first = Set (leg x) (row_at P x) (flown_row p t) ∷ Push (plane p) (Some (leg x)) ∷ [];
      others = Tidy ∷ Refill (leg x) ∷ [];
      is = refl;
      among = two-true _ _ (set-among (unit_planes P (retimed x)) (unit_legs I P (retimed x)) x p t (row_at P x) (own-legs I P (retimed x) p x own (flier-flies P x on)) own) own;
      tidying = two-true true _ refl (itself x);
    }

swapped-split : (I : Situation) (P : PlanRows) (p q at : ℕ) → UnitSplit I P (swapped p q) (exchange p q at)
swapped-split I P p q at =
    let one : unit_planes P (swapped p q) p ≡ true = or_left (eqb p p) (eqb p q) (itself p) in
    let two : unit_planes P (swapped p q) q ≡ true = or_right (eqb q p) (eqb q q) (itself q) in
    record {
      first = Swap (plane p) (plane q) (record { 0 = at }) ∷ Push (plane p) None ∷ Push (plane q) None ∷ [];
      others = Tidy ∷ [];
      is = refl;
      among = and_from _ _ (and_from _ _ one two) (two-true _ _ one two);
      tidying = refl;
    }

dropped-split : (I : Situation) (P : PlanRows) (x k : ℕ) → UnitSplit I P (dropped x) (dropping I P x k)
dropped-split I P x k =
    let p = flier (row_at P x) in
    let planes = unit_planes P (dropped x) in
    let legs = unit_legs I P (dropped x) in
    let own : planes p ≡ true = itself p in
    let sets : list_all (is_among planes legs) (map (cancelling P) (run I P x k)) ≡ true =
    all-map (is_among planes legs) (cancelling P) (run I P x k) (λ i d lt. and_from _ true (run-own I P (dropped x) x k own i d lt) refl) in
    record {
      first = map (cancelling P) (run I P x k) ++ Push (plane p) None ∷ [];
      others = Tidy ∷ [];
      is = sym (append_assoc (map (cancelling P) (run I P x k)) (Push (plane p) None ∷ []) (Tidy ∷ []));
      among = all-append (is_among planes legs) (map (cancelling P) (run I P x k)) (Push (plane p) None ∷ []) sets (and_from _ true own refl);
      tidying = refl;
    }

handed-split : (I : Situation) (P : PlanRows) (x k q : ℕ) → UnitSplit I P (handed x k q) (handing I P x k q)
handed-split I P x k q =
    let p = flier (row_at P x) in
    let u = handed x k q in
    let planes = unit_planes P u in
    let legs = unit_legs I P u in
    let own : planes p ≡ true = or_left (eqb p p) (eqb p q) (itself p) in
    let other : planes q ≡ true = or_right (eqb q p) (eqb q q) (itself q) in
    let sets : list_all (is_among planes legs) (map (handing_step P q) (run I P x k)) ≡ true =
    all-map (is_among planes legs) (handing_step P q) (run I P x k) (λ i d lt. set-among planes legs (get_or (run I P x k) i d) q (dep P (get_or (run I P x k) i d)) (row_at P (get_or (run I P x k) i d)) (run-own I P u x k own i d lt) other) in
    record {
      first = map (handing_step P q) (run I P x k) ++ Push (plane q) None ∷ Push (plane p) None ∷ [];
      others = Tidy ∷ [];
      is = sym (append_assoc (map (handing_step P q) (run I P x k)) (Push (plane q) None ∷ Push (plane p) None ∷ []) (Tidy ∷ []));
      among = all-append (is_among planes legs) (map (handing_step P q) (run I P x k)) (Push (plane q) None ∷ Push (plane p) None ∷ []) sets (two-true _ _ other own);
      tidying = refl;
    }

restores-own : (I : Situation) (P : PlanRows) (x p y : ℕ) → unit_restores I P (restored x p) y ≡ true → unit_legs I P (restored x p) y ≡ true
restores-own I P x p y restores = or_right (is_of (unit_planes P (restored x p)) (row_at P y)) (unit_restores I P (restored x p) y) restores

alone-split : (I : Situation) (P : PlanRows) (x p : ℕ) → UnitSplit I P (restored x p) (restoring_alone I x p)
alone-split I P x p =
    let u = restored x p in
    let own : unit_planes P u p ≡ true = itself p in
    let here : unit_restores I P u x ≡ true = or_left (eqb x x) (brings_back I P x x) (itself x) in
    record {
      first = Set (leg x) Cancelled (flown_row p (earliest I x)) ∷ Push (plane p) (Some (leg x)) ∷ [];
      others = Tidy ∷ Refill (leg x) ∷ [];
      is = refl;
      among = two-true _ _ (set-among (unit_planes P u) (unit_legs I P u) x p (earliest I x) Cancelled (restores-own I P x p x here) own) own;
      tidying = two-true true _ refl here;
    }

both-split : (I : Situation) (P : PlanRows) (x p y : ℕ) → brings_back I P x y ≡ true → UnitSplit I P (restored x p) (restoring_both I x p y)
both-split I P x p y back =
    let u = restored x p in
    let own : unit_planes P u p ≡ true = itself p in
    let here : unit_restores I P u x ≡ true = or_left (eqb x x) (brings_back I P x x) (itself x) in
    let there : unit_restores I P u y ≡ true = or_right (eqb y x) (brings_back I P x y) back in
    record {
      first = Set (leg x) Cancelled (flown_row p (earliest I x)) ∷ Set (leg y) Cancelled (flown_row p (back_departure I x p y)) ∷ Push (plane p) None ∷ [];
      others = Tidy ∷ Refill (leg x) ∷ Refill (leg y) ∷ [];
      is = refl;
      among = and_from _ _ (set-among (unit_planes P u) (unit_legs I P u) x p (earliest I x) Cancelled (restores-own I P x p x here) own)
          (two-true _ _ (set-among (unit_planes P u) (unit_legs I P u) y p (back_departure I x p y) Cancelled (restores-own I P x p y there) own) own);
      tidying = two-true _ _ here there;
    }

-- ---- all of them

unit-split : (I : Situation) (P : PlanRows) (u : MoveUnit) (steps : List Step) → BeginsFlown P u → Contains (unit_steps I P u) steps → UnitSplit I P u steps
unfolding unit_steps retimings exchanges droppings restorings
unit-split I P (retimed x) steps on has =
    let at = map_contains (retiming P x) (other_departures I P x) steps has in
    subst (UnitSplit I P (retimed x)) at.is (retimed-split I P x at.from on)
unit-split I P (swapped p q) steps on has =
    let at = map_contains (exchange p q) (exchange_moments I P p q) steps has in
    subst (UnitSplit I P (swapped p q)) at.is (swapped-split I P p q at.from)
unit-split I P (dropped x) steps on has =
    let at = map_contains (dropping I P x) (filter (comes_round I P x) run_lengths) steps has in
    subst (UnitSplit I P (dropped x)) at.is (dropped-split I P x at.from)
unit-split I P (restored x p) steps on has =
    let backs = filter (brings_back I P x) (numbers (legs_of I)) in
    elim (contains_cases (restoring_alone I x p) steps (map (restoring_both I x p) backs) has) [
      | inl alone ↦ subst (UnitSplit I P (restored x p)) alone (alone-split I P x p)
      | inr both ↦
          let at = map_contains (restoring_both I x p) backs steps both in
          let back = filter_contains (brings_back I P x) (numbers (legs_of I)) at.from at.there in
          subst (UnitSplit I P (restored x p)) at.is (both-split I P x p at.from back.1)
    ]
unit-split I P (handed x k q) steps on has =
    elim (contains_cases (handing I P x k q) steps [] has) [
      | inl one ↦ subst (UnitSplit I P (handed x k q)) one (handed-split I P x k q)
      | inr none ↦ absurd (contains_none steps none)
    ]
unit-split I P (rebooked r path) steps on has = absurd on

pub moves-split : (I : Situation) (P : PlanRows) (u : MoveUnit) (m : Move) → BeginsFlown P u → Contains (unit_moves I P u) m → IsSplit (unit_planes P u) (unit_legs I P u) (unit_refills I P u) m
unfolding unit_moves
moves-split I P u m on has =
    let at = map_contains move_of (filter (list_all step_in_time) (unit_steps I P u)) m has in
    let kept = filter_contains (list_all step_in_time) (unit_steps I P u) at.from at.there in
    let split = unit-split I P u at.from on kept.0 in
    subst (IsSplit (unit_planes P u) (unit_legs I P u) (unit_refills I P u)) at.is
    (record { first = split.first; others = split.others; steps = split.is; among = split.among; tidying = split.tidying })
