-- Which legs are dropped together.
use Rattle.std.proofs.Common.{◌≡◌, ℕ, ◌-◌, ◌<◌, ◌≤◌, ◌⊎◌, inl, inr, Bool, true, ◌||◌, eqb, List, length, get_or, map, sym, ap, subst, ◌∙◌, arith}
use Rattle.std.specs.Prelude.{Some, filter, slice_get}
use Rattle.std.specs.List.{Contains}
use Rattle.std.proofs.lemmas.Bool.{and_parts, and_from, eq-eqb, eqb-true}
use Rattle.std.proofs.lemmas.List.{length-take, get_or-take, get_or_default}
use Rattle.std.proofs.lemmas.List.Elements.{Contains-get_or}
use Rattle.std.proofs.lemmas.Option.{slice_get-get_or, get_or_from_slice_get}
use Rattle.desk_data.specs.Situation.{Situation, legs_of, leg_at}
use Rattle.desk_data.specs.PlanRows.{PlanRows}
use Rattle.plan_moves.specs.declared.moves.Step.{Step}
use Rattle.desk_rules.specs.Words.{Precedes}
use Rattle.desk_model.proofs.RotationOrder.{precedes-trans, precedes-itself}
use Rattle.near_moves.specs.MoveParts.{legs_from, run, is_run}
use Rattle.near_moves.specs.LegMoves.{run_end, comes_round, run_lengths, dropping, droppings}
use Rattle.near_moves.specs.Words.{IsFrom}
use Rattle.near_moves.specs.DropWords.{IsLastLeg, DropsRun, IsDropping}
use Rattle.near_moves.proofs.ListLaws.{contains_filter, filter_contains, contains_map, map_contains}
use Rattle.near_moves.proofs.FromLaws.{or_cases, or_left, or_right, from-holds, from-each, from-ordered, run-holds, run-from}
use Rattle.near_moves.proofs.UnitLaws.{lengths_hold, lengths_each}

-- ---- the last leg of a run

end-there : (I : Situation) (P : PlanRows) (x k : ℕ) → 1 ≤ k → k ≤ length (legs_from I P x) → slice_get (run I P x k) (k - 1) ≡ Some (run_end I P x k)
end-there I P x k some long =
    let n = length-take k (legs_from I P x) in
    slice_get-get_or (run I P x k) (k - 1) x (omega (arith, some, long, n))

end-at : (I : Situation) (P : PlanRows) (x k : ℕ) → 1 ≤ k → run_end I P x k ≡ get_or (legs_from I P x) (k - 1) x
end-at I P x k some = get_or-take k (legs_from I P x) (k - 1) x (omega (arith, some))

-- after the last of the legs from a leg on no leg of the aircraft comes
later-from : (I : Situation) (P : PlanRows) (x e y : ℕ) → IsFrom I P x e → y < legs_of I → Precedes P e y → Contains (legs_from I P x) y
later-from I P x e y from within later =
    let before : Precedes P x y = elim from.place [
      | inl same ↦ subst (λ (z : ℕ). Precedes P z y) same later
      | inr ahead ↦ precedes-trans P x e y ahead later
    ] in
    from-each I P x y (record { within = within; plane = from.plane; dep = from.dep; flown = from.flown; place = inr before })

end-last : (I : Situation) (P : PlanRows) (x k : ℕ) → 1 ≤ k → length (legs_from I P x) ≡ k → IsLastLeg I P (get_or (legs_from I P x) (k - 1) x)
end-last I P x k some whole = λ y within later.
    let legs = legs_from I P x in
    let lt : k - 1 < length legs = omega (arith, some, whole) in
    let e = get_or legs (k - 1) x in
    let has = later-from I P x e y (from-holds I P x e (Contains-get_or legs (k - 1) x lt)) within later in
    let j = has.0 in
    let below : j < length legs = has.1 in
    let at : get_or legs j y ≡ y = has.2 in
    let same : get_or legs (k - 1) y ≡ e = get_or_default legs (k - 1) y x lt in
    let cases : (j < k - 1) ⊎ (j ≡ k - 1) = grind (arith, some, whole, below) in
    elim cases [
      | inl less ↦ precedes-itself P y (precedes-trans P y e y
          (subst (λ (z : ℕ). Precedes P y z) same (subst (λ (z : ℕ). Precedes P z (get_or legs (k - 1) y)) at (from-ordered I P x j (k - 1) y less lt))) later)
      | inr here ↦
          let is : e ≡ y = sym same ∙ ap (λ (i : ℕ). get_or legs i y) (sym here) ∙ at in
          precedes-itself P y (subst (λ (z : ℕ). Precedes P z y) is later)
    ]

last-end : (I : Situation) (P : PlanRows) (x k : ℕ) → 1 ≤ k → k ≤ length (legs_from I P x) → IsLastLeg I P (get_or (legs_from I P x) (k - 1) x) → length (legs_from I P x) ≡ k
last-end I P x k some long last =
    let legs = legs_from I P x in
    let cases : (k < length legs) ⊎ (length legs ≡ k) = grind (arith, long) in
    elim cases [
      | inl more ↦
          let next = get_or legs k x in
          let within = (from-holds I P x next (Contains-get_or legs k x more)).within in
          absurd (last next within (from-ordered I P x (k - 1) k x (omega (arith, some)) more))
      | inr whole ↦ whole
    ]

-- ---- runs that come round

abbrev RoundTest : Situation → PlanRows → ℕ → ℕ → Bool
RoundTest I P x k = (eqb (leg_at I (run_end I P x k)).dest.0 (leg_at I x).origin.0) || (eqb (length (legs_from I P x)) k)

pub round-holds : (I : Situation) (P : PlanRows) (x k : ℕ) → 1 ≤ k → k ≤ 4 → comes_round I P x k ≡ true → DropsRun I P x k
unfolding comes_round
round-holds I P x k some most h =
    let parts = and_parts (is_run I P x k) (RoundTest I P x k) h in
    let is_run_of = run-holds I P x k parts.0 in
    let end = run_end I P x k in
    record {
      some = some;
      most = most;
      movable = is_run_of;
      last = end;
      place = end-there I P x k some is_run_of.long;
      round = elim (or_cases (eqb (leg_at I end).dest.0 (leg_at I x).origin.0) (eqb (length (legs_from I P x)) k) parts.1) as (λ o. ((leg_at I end).dest.0 ≡ (leg_at I x).origin.0) ⊎ IsLastLeg I P end) [
        | inl back ↦ inl (eqb-true (leg_at I end).dest.0 (leg_at I x).origin.0 back)
        | inr whole ↦ inr (subst (IsLastLeg I P) (sym (end-at I P x k some)) (end-last I P x k some (eqb-true (length (legs_from I P x)) k whole)))
      ];
    }

pub round-from : (I : Situation) (P : PlanRows) (x k : ℕ) → DropsRun I P x k → comes_round I P x k ≡ true
unfolding comes_round
round-from I P x k is =
    let end = run_end I P x k in
    let same : end ≡ is.last = get_or_from_slice_get (run I P x k) (k - 1) is.last x is.place in
    let test : RoundTest I P x k ≡ true =
    elim is.round [
      | inl back ↦ or_left (eqb (leg_at I end).dest.0 (leg_at I x).origin.0) (eqb (length (legs_from I P x)) k)
          (eq-eqb (leg_at I end).dest.0 (leg_at I x).origin.0 (ap (λ (y : ℕ). (leg_at I y).dest.0) same ∙ back))
      | inr last ↦ or_right (eqb (leg_at I end).dest.0 (leg_at I x).origin.0) (eqb (length (legs_from I P x)) k)
          (eq-eqb (length (legs_from I P x)) k (last-end I P x k is.some is.movable.long (subst (IsLastLeg I P) (sym same ∙ end-at I P x k is.some) last)))
    ] in
    and_from (is_run I P x k) (RoundTest I P x k) (run-from I P x k is.movable) test

pub runs-hold : (I : Situation) (P : PlanRows) (x k : ℕ) → Contains (filter (comes_round I P x) run_lengths) k → DropsRun I P x k
runs-hold I P x k has =
    let parts = filter_contains (comes_round I P x) run_lengths k has in
    let limits = lengths_hold k parts.0 in
    round-holds I P x k limits.0 limits.1 parts.1

pub runs-each : (I : Situation) (P : PlanRows) (x k : ℕ) → DropsRun I P x k → Contains (filter (comes_round I P x) run_lengths) k
runs-each I P x k is = contains_filter (comes_round I P x) run_lengths k (lengths_each k is.some is.most) (round-from I P x k is)

pub drops-hold : (I : Situation) (P : PlanRows) (x : ℕ) (steps : List Step) → Contains (droppings I P x) steps → IsDropping I P x steps
unfolding droppings
drops-hold I P x steps has =
    let of_run = map_contains (dropping I P x) (filter (comes_round I P x) run_lengths) steps has in
    record { legs = of_run.from; drops = runs-hold I P x of_run.from of_run.there; all = sym {a = dropping I P x of_run.from} of_run.is }

pub drops-each : (I : Situation) (P : PlanRows) (x : ℕ) (steps : List Step) → IsDropping I P x steps → Contains (droppings I P x) steps
unfolding droppings
drops-each I P x steps is =
    subst (Contains (map (dropping I P x) (filter (comes_round I P x) run_lengths))) (sym is.all)
    (contains_map (dropping I P x) (filter (comes_round I P x) run_lengths) is.legs (runs-each I P x is.legs is.drops))
