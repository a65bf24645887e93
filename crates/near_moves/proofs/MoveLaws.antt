-- The moves of a unit are the same in two plans, where its aircraft fly the same.
use Rattle.std.proofs.Common.{◌≡◌, ℕ, ◌+◌, ◌-◌, inl, inr, Bool, true, ◌&&◌, ◌||◌, cond, eqb, ltb, not, List, [], ◌∷◌, ◌++◌, length, take, get_or, refl, sym, ap, ◌∙◌}
use Rattle.std.specs.Prelude.{None, Some, filter, map}
use Rattle.std.specs.List.{All, list_all, list_any}
use Rattle.std.proofs.Math.Path.{fun_ext}
use Rattle.std.proofs.lemmas.Bool.{true≢false, cases_Bool, or_from, eq-eqb}
use Rattle.std.proofs.lemmas.List.Elements.{All-head, All-tail, All-take, All-filter, filter_agree}
use Rattle.desk_data.specs.declared.row.Row.{Row}
use Rattle.desk_data.specs.declared.row.Row.TheVariants.{Flown, Cancelled}
use Rattle.desk_data.specs.Situation.{Situation, legs_of, leg_at, fixed, earliest}
use Rattle.desk_data.specs.PlanRows.{PlanRows, row_at}
use Rattle.plan_moves.specs.declared.moves.Step.{Step}
use Rattle.plan_moves.specs.declared.moves.Step.TheVariants.{Set, Push, Tidy, Refill}
use Rattle.desk_rules.specs.Numbers.{numbers}
use Rattle.desk_rules.specs.Rotations.{departure, dep, precedes}
use Rattle.desk_rules.specs.Maintenance.{is_flown_by, flies}
use Rattle.desk_rules.specs.Passengers.{is_flown}
use Rattle.desk_model.specs.Push.{rotation}
use Rattle.near_moves.specs.MoveParts.{leg, plane, flier, flown_row, legs_from, run, is_run}
use Rattle.near_moves.specs.Units.{MoveUnit, retimed, swapped, dropped, restored, handed, rebooked}
use Rattle.near_moves.specs.LegMoves.{retiming_delays, retimings, departs_at, departures_end, exchange_moments, exchange, exchanges, comes_round, run_lengths, cancelling, dropping, droppings, brings_back, restoring_alone, restoring_both, restorings, handing_step, handing}
use Rattle.near_moves.specs.Near.{unit_steps, step_in_time, move_of, unit_moves}
use Rattle.near_moves.specs.Same.{FliesSame, FlyUnitSame}
use Rattle.near_moves.proofs.PlaneLaws.{flies-same, row-same, from-same, rotation-rows}

-- ---- the aircraft of a leg that is flown

on-flier : (row : Row) → is_flown row ≡ true → is_flown_by (flier row) row ≡ true
on-flier (Flown plane dep) on = eq-eqb plane.0 plane.0 refl
on-flier Cancelled on = absurd cc

pub flier-flies : (P : PlanRows) (x : ℕ) → is_flown (row_at P x) ≡ true → flies P (flier (row_at P x)) x ≡ true
flier-flies P x on = on-flier (row_at P x) on

-- ---- retimed

retimed_by : Situation → ℕ → Row → List (List Step)
retimed_by I x row =
    map
    (λ t. Set (leg x) row (flown_row (flier row) t) ∷ Push (plane (flier row)) (Some (leg x)) ∷ Tidy ∷ Refill (leg x) ∷ [])
    (cond (ltb (earliest I x) (departure row)) (earliest I x ∷ []) [] ++ map (λ later. departure row + later) retiming_delays)

retimings-are : (I : Situation) (P : PlanRows) (x : ℕ) → retimings I P x ≡ retimed_by I x (row_at P x)
unfolding retimings retimed_by
retimings-are I P x = refl

-- ---- swapped

departs-same : (I : Situation) (P Q : PlanRows) (p q : ℕ) → FliesSame P Q p → FliesSame P Q q → (t : ℕ) → departs_at I P p q t ≡ departs_at I Q p q t
departs-same I P Q p q one two t =
    ap (λ (test : ℕ → Bool). list_any test (numbers (legs_of I)))
    (fun_ext (λ (x : ℕ).
    elim (cases_Bool (flies P p x || flies P q x)) [
      | inl on ↦ by_row x (elim (one x) [
        | inl row ↦ row
        | inr off ↦ elim (two x) [
          | inl row ↦ row
          | inr none ↦ absurd (true≢false (sym on ∙ or_from (flies P p x) (flies P q x) off.0 none.0))
        ]
      ])
      | inr off ↦
          let same : (flies P p x || flies P q x) ≡ (flies Q p x || flies Q q x) = ap (λ (b : Bool). b || flies P q x) (flies-same P Q p one x) ∙ ap (λ (b : Bool). flies Q p x || b) (flies-same P Q q two x) in
          ap (λ (b : Bool). not (fixed I x) && (b && (eqb (dep P x) t))) off
          ∙ ap (λ (b : Bool). not (fixed I x) && (b && (eqb (dep Q x) t))) (sym off ∙ same)
    ]))
  where
    by_row : (x : ℕ) → row_at P x ≡ row_at Q x → (not (fixed I x) && ((flies P p x || flies P q x) && (eqb (dep P x) t))) ≡ (not (fixed I x) && ((flies Q p x || flies Q q x) && (eqb (dep Q x) t)))
    by_row x row = ap (λ (r : Row). not (fixed I x) && ((is_flown_by p r || is_flown_by q r) && (eqb (departure r) t))) row

exchanges-same : (I : Situation) (P Q : PlanRows) (p q : ℕ) → FliesSame P Q p → FliesSame P Q q → exchanges I P p q ≡ exchanges I Q p q
unfolding exchanges exchange_moments
exchanges-same I P Q p q one two =
    ap (map (exchange p q)) (filter_agree (departs_at I P p q) (departs_at I Q p q) (departs-same I P Q p q one two) (numbers departures_end))

-- ---- runs

map-same : {X : Type 0} (f g : ℕ → X) (xs : List ℕ) → All (λ x. f x ≡ g x) xs → map f xs ≡ map g xs
map-same f g [] same = refl
map-same f g (x ∷ xs) same =
    rw (All-head (λ (y : ℕ). f y ≡ g y) x xs same, map-same f g xs (All-tail (λ (y : ℕ). f y ≡ g y) x xs same)) refl

module _ (I : Situation) (P Q : PlanRows) (x : ℕ) (on : is_flown (row_at P x) ≡ true) (same : FliesSame P Q (flier (row_at P x))) where
  abbrev p : ℕ
  p = flier (row_at P x)

  row : row_at P x ≡ row_at Q x
  row = row-same P Q p same x (flier-flies P x on)

  legs : legs_from I P x ≡ legs_from I Q x
  legs = from-same I P Q p x same (flier-flies P x on) refl

  run-rows : (k : ℕ) → All (λ y. row_at P y ≡ row_at Q y) (run I P x k)
  unfolding legs_from
  run-rows k =
      All-take (λ y. row_at P y ≡ row_at Q y) k (legs_from I P x)
      (All-filter (λ y. (eqb y x) || precedes P x y) (λ y. row_at P y ≡ row_at Q y) (rotation I P p) (rotation-rows I P Q p same))

  -- ---- dropped

  comes-same : (k : ℕ) → comes_round I P x k ≡ comes_round I Q x k
  unfolding comes_round is_run
  comes-same k =
      ap (λ (xs : List ℕ). ((eqb (length (take k xs)) k) && list_all (λ y. not (fixed I y)) (take k xs)) && ((eqb (leg_at I (get_or (take k xs) (k - 1) x)).dest.0 (leg_at I x).origin.0) || (eqb (length xs) k))) legs

  dropping-same : (k : ℕ) → dropping I P x k ≡ dropping I Q x k
  dropping-same k =
      ap (λ (steps : List Step). steps ++ Push (plane p) None ∷ Tidy ∷ [])
      (map-same (cancelling P) (cancelling Q) (run I P x k) (λ i d lt. ap (λ (r : Row). Set (leg (get_or (run I P x k) i d)) r Cancelled) (run-rows k i d lt))
      ∙ ap (λ (xs : List ℕ). map (cancelling Q) (take k xs)) legs)
      ∙ ap (λ (r : Row). map (cancelling Q) (run I Q x k) ++ Push (plane (flier r)) None ∷ Tidy ∷ []) row

  droppings-same : droppings I P x ≡ droppings I Q x
  unfolding droppings
  droppings-same =
      ap (λ (make : ℕ → List Step). map make (filter (comes_round I P x) run_lengths)) (fun_ext dropping-same)
      ∙ ap (map (dropping I Q x)) (filter_agree (comes_round I P x) (comes_round I Q x) comes-same run_lengths)

  -- ---- handed

  handing-same : (k q : ℕ) → handing I P x k q ≡ handing I Q x k q
  handing-same k q =
      ap (λ (steps : List Step). steps ++ Push (plane q) None ∷ Push (plane p) None ∷ Tidy ∷ [])
      (map-same (handing_step P q) (handing_step Q q) (run I P x k) (λ i d lt. ap (λ (r : Row). Set (leg (get_or (run I P x k) i d)) r (flown_row q (departure r))) (run-rows k i d lt))
      ∙ ap (λ (xs : List ℕ). map (handing_step Q q) (take k xs)) legs)
      ∙ ap (λ (r : Row). map (handing_step Q q) (run I Q x k) ++ Push (plane q) None ∷ Push (plane (flier r)) None ∷ Tidy ∷ []) row

-- ---- restored

restorings-same : (I : Situation) (P Q : PlanRows) (x p : ℕ) → ((y : ℕ) → brings_back I P x y ≡ brings_back I Q x y) → restorings I P x p ≡ restorings I Q x p
unfolding restorings
restorings-same I P Q x p backs =
    ap (λ (test : ℕ → Bool). restoring_alone I x p ∷ map (restoring_both I x p) (filter test (numbers (legs_of I)))) (fun_ext backs)

-- ---- all of them

steps-same : (I : Situation) (P Q : PlanRows) (u : MoveUnit) → FlyUnitSame I P Q u → unit_steps I P u ≡ unit_steps I Q u
unfolding unit_steps
steps-same I P Q (retimed x) h =
    retimings-are I P x ∙ ap (retimed_by I x) (row-same P Q (flier (row_at P x)) h.1 x (flier-flies P x h.0)) ∙ sym (retimings-are I Q x)
steps-same I P Q (swapped p q) h = exchanges-same I P Q p q h.0 h.1
steps-same I P Q (dropped x) h = droppings-same I P Q x h.0 h.1
steps-same I P Q (restored x p) h = restorings-same I P Q x p h.1
steps-same I P Q (handed x k q) h = ap (λ (steps : List Step). steps ∷ []) (handing-same I P Q x h.0 h.1 k q)
steps-same I P Q (rebooked r path) h = absurd h

pub moves-same : (I : Situation) (P Q : PlanRows) (u : MoveUnit) → FlyUnitSame I P Q u → unit_moves I P u ≡ unit_moves I Q u
unfolding unit_moves
moves-same I P Q u same = ap (λ (steps : List (List Step)). map move_of (filter (list_all step_in_time) steps)) (steps-same I P Q u same)
