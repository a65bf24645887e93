-- What some legs that are cancelled, and a Push of their aircraft, leave of a plan.
use Rattle.std.proofs.Common.{◌≡◌, ℕ, ◌+◌, ◌≤◌, ◌⊎◌, inl, inr, Bool, true, false, ◌||◌, cond, eqb, List, [], ◌∷◌, ◌++◌, length, get_or, refl, sym, ap, subst, ◌∙◌, arith}
use Rattle.std.specs.Prelude.{None, map, sum_by}
use Rattle.std.specs.List.{Contains, list_any}
use Rattle.std.proofs.lemmas.Bool.{true≢false, cases_Bool, cases_eq, cases_lt, or_parts, eq-eqb, ne_eqb, eqb-true}
use Rattle.std.proofs.lemmas.List.{set_past, get_or_past}
use Rattle.std.proofs.lemmas.List.Folds.{list_any_at}
use Rattle.desk_units.specs.declared.tariff.Term.TheVariants as term
use Rattle.desk_data.specs.declared.row.Row.{Row}
use Rattle.desk_data.specs.declared.row.Row.TheVariants.{Flown, Cancelled}
use Rattle.desk_data.specs.Situation.{Situation, legs_of, leg_at, plane_at}
use Rattle.desk_data.specs.PlanRows.{PlanRows, row_at, with_row}
use Rattle.plan_moves.specs.declared.moves.Step.{Step}
use Rattle.plan_moves.specs.declared.moves.Step.TheVariants.{Push}
use Rattle.desk_rules.specs.Cost.{weight, by_hour, operating_of, operating, operating_cost}
use Rattle.desk_rules.specs.Maintenance.{is_flown_by, flies}
use Rattle.desk_rules.specs.Passengers.{is_flown}
use Rattle.desk_rules.specs.Rows.{is_row}
use Rattle.desk_rules.proofs.LegLaws.{is_row-from}
use Rattle.desk_model.specs.Push.{after_push}
use Rattle.desk_model.specs.Steps.{after_set, after_step, after_steps}
use Rattle.desk_model.proofs.SetLaws.{with_row-same, after_set-sets}
use Rattle.step_laws.proofs.PushedLaws.{pushed-flies}
use Rattle.near_moves.specs.LegMoves.{cancelling}
use Rattle.near_moves.specs.MoveParts.{flier, plane}
use Rattle.near_moves.proofs.KeptLaws.{steps-append}
use Rattle.near_moves.proofs.MoveLaws.{flier-flies}
use Rattle.near_dear.proofs.OwedSumLaws.{two-le, among-le}

-- whether leg y is among some legs
abbrev pub is_among_legs : List ℕ → ℕ → Bool
is_among_legs legs y = list_any (λ x. eqb x y) legs

pub among-has : (legs : List ℕ) (y : ℕ) → Contains legs y → is_among_legs legs y ≡ true
among-has legs y has = list_any_at (λ x. eqb x y) legs has.0 y has.1 (eq-eqb (get_or legs has.0 y) y has.2)

-- the steps before the Tidy
abbrev pub first_steps : PlanRows → ℕ → List ℕ → List Step
first_steps P p legs = map (cancelling P) legs ++ Push (plane p) None ∷ []

-- ---- one leg

set-cancels : (T : PlanRows) (x : ℕ) (was : Row) → (row_at T x ≡ was) ⊎ (row_at T x ≡ Cancelled) → row_at (after_set T x was Cancelled) x ≡ Cancelled
set-cancels T x was at =
    elim (cases_Bool (is_row (row_at T x) was)) [
      | inl is ↦ ap (λ (b : Bool). row_at (cond b (with_row T x Cancelled) T) x) is ∙ here
      | inr other ↦ ap (λ (b : Bool). row_at (cond b (with_row T x Cancelled) T) x) other ∙ stays other at
    ]
  where
    here : row_at (with_row T x Cancelled) x ≡ Cancelled
    here = elim (cases_lt x (length T.rows)) [
      | inl within ↦ with_row-same T x Cancelled within
      | inr past ↦ ap (λ (rows : List Row). get_or rows x Cancelled) (set_past T.rows x Cancelled past) ∙ get_or_past T.rows x Cancelled past
    ]

    stays : is_row (row_at T x) was ≡ false → (row_at T x ≡ was) ⊎ (row_at T x ≡ Cancelled) → row_at T x ≡ Cancelled
    stays other (inl same) = absurd (true≢false (sym (subst (λ (row : Row). is_row (row_at T x) row ≡ true) same (is_row-from (row_at T x))) ∙ other))
    stays other (inr gone) = gone

-- ---- all of them

abbrev pub cancelled : Situation → PlanRows → List ℕ → PlanRows → PlanRows
cancelled I P legs T = after_steps I T (map (cancelling P) legs)

cancels-all : (I : Situation) (P T : PlanRows) (xs : List ℕ) (y : ℕ) → ((z : ℕ) → (row_at T z ≡ row_at P z) ⊎ (row_at T z ≡ Cancelled)) → (is_among_legs xs y ≡ true) ⊎ (row_at T y ≡ Cancelled) → row_at (cancelled I P xs T) y ≡ Cancelled
unfolding after_step
cancels-all I P T [] y so_far (inl has) = absurd cc
cancels-all I P T [] y so_far (inr gone) = gone
cancels-all I P T (x ∷ xs) y so_far at =
    let U = after_set T x (row_at P x) Cancelled in
    let sets = after_set-sets T x (row_at P x) Cancelled in
    let here : row_at U x ≡ Cancelled = set-cancels T x (row_at P x) (so_far x) in
    let then : (z : ℕ) → (row_at U z ≡ row_at P z) ⊎ (row_at U z ≡ Cancelled) = λ z.
    elim (cases_eq z x) [
      | inl is ↦ inr (ap (row_at U) is ∙ here)
      | inr other ↦ elim (so_far z) [
        | inl same ↦ inl (sets.others z other ∙ same)
        | inr gone ↦ inr (sets.others z other ∙ gone)
      ]
    ] in
    let next : (is_among_legs xs y ≡ true) ⊎ (row_at U y ≡ Cancelled) =
    elim (cases_eq y x) [
      | inl is ↦ inr (ap (row_at U) is ∙ here)
      | inr other ↦ elim at [
        | inl has ↦ inl (sym (ap (λ (b : Bool). b || is_among_legs xs y) (ne_eqb x y (λ same. other (sym same)))) ∙ has)
        | inr gone ↦ inr (sets.others y other ∙ gone)
      ]
    ] in
    cancels-all I P U xs y then next

keeps-row : (I : Situation) (P T : PlanRows) (xs : List ℕ) (y : ℕ) → is_among_legs xs y ≡ false → row_at (cancelled I P xs T) y ≡ row_at T y
unfolding after_step
keeps-row I P T [] y off = refl
keeps-row I P T (x ∷ xs) y off =
    let parts = or_parts (eqb x y) (is_among_legs xs y) off in
    let other : y ≡ x → ⊥ = λ is. true≢false (sym (eq-eqb x y (sym is)) ∙ parts.0) in
    keeps-row I P (after_set T x (row_at P x) Cancelled) xs y parts.1 ∙ (after_set-sets T x (row_at P x) Cancelled).others y other

-- ---- and the Push

nobody-flies : (row : Row) → ((k : ℕ) → is_flown_by k row ≡ false) → row ≡ Cancelled
nobody-flies (Flown plane dep) none = absurd (true≢false (sym (eq-eqb plane.0 plane.0 refl) ∙ none plane.0))
nobody-flies Cancelled none = refl

by-flier : (I : Situation) (k x : ℕ) (row : Row) → is_flown_by k row ≡ true → operating_of I x row ≡ by_hour (weight I term.Operating) (plane_at I k).hourly.0 (leg_at I x).block
by-flier I k x (Flown plane dep) on = ap (λ (p : ℕ). by_hour (weight I term.Operating) (plane_at I p).hourly.0 (leg_at I x).block) (eqb-true plane.0 k on)
by-flier I k x Cancelled on = absurd cc

not-flown : (I : Situation) (x : ℕ) (row : Row) → is_flown row ≡ false → operating_of I x row ≡ 0
not-flown I x (Flown plane dep) off = absurd cc
not-flown I x Cancelled off = refl

module _ (I : Situation) (P : PlanRows) (p : ℕ) (legs : List ℕ) where
  abbrev Q : PlanRows
  Q = after_steps I P (first_steps P p legs)

  made : Q ≡ after_push I (cancelled I P legs P) p None
  unfolding after_step
  made = steps-append I P (map (cancelling P) legs) (Push (plane p) None ∷ [])

  same-fliers : (k y : ℕ) → flies Q k y ≡ flies (cancelled I P legs P) k y
  same-fliers k y = ap (λ (R : PlanRows). flies R k y) made ∙ pushed-flies I (cancelled I P legs P) p None k y

  pub gone-after : (y : ℕ) → is_among_legs legs y ≡ true → row_at Q y ≡ Cancelled
  gone-after y has =
      let gone : row_at (cancelled I P legs P) y ≡ Cancelled = cancels-all I P P legs y (λ z. inl refl) (inl has) in
      nobody-flies (row_at Q y) (λ k. same-fliers k y ∙ ap (is_flown_by k) gone)

  -- a leg that is not cancelled costs what it did
  kept-flying : (y : ℕ) → is_among_legs legs y ≡ false → operating I P y ≤ operating I Q y
  kept-flying y off =
      elim (cases_Bool (is_flown (row_at P y))) [
        | inr gone ↦ (let none = not-flown I y (row_at P y) gone in omega (arith, none))
        | inl flown ↦
            let k = flier (row_at P y) in
            let on : flies P k y ≡ true = flier-flies P y flown in
            let then : flies Q k y ≡ true = same-fliers k y ∙ ap (is_flown_by k) (keeps-row I P P legs y off) ∙ on in
            let was = by-flier I k y (row_at P y) on in
            let is = by-flier I k y (row_at Q y) then in
            omega (arith, was, is)
      ]

  part-le : (y : ℕ) → operating I P y ≤ operating I Q y + cond (is_among_legs legs y) (operating I P y) 0
  part-le y =
      elim (cases_Bool (is_among_legs legs y)) [
        | inl has ↦ (let all : cond (is_among_legs legs y) (operating I P y) 0 ≡ operating I P y = rw has refl in omega (arith, all))
        | inr off ↦ (let less = kept-flying y off in omega (arith, less))
      ]

  -- flying saves at most what the cancelled legs cost
  pub flying-saves : operating_cost I P ≤ operating_cost I Q + sum_by (operating I P) legs
  unfolding operating_cost
  flying-saves =
      let sums = two-le (operating I P) (operating I Q) (λ y. cond (is_among_legs legs y) (operating I P y) 0) (legs_of I) part-le in
      let among = among-le (operating I P) (legs_of I) legs in
      omega (arith, sums, among)
