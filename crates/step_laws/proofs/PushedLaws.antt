-- A Push leaves each aircraft its legs.
use Rattle.std.proofs.Common.{◌≡◌, ◌≢◌, ℕ, zero, suc, ◌<◌, ◌≤◌, ◌⊎◌, inl, inr, true, ◌&&◌, not, List, [], ◌∷◌, length, get_or, refl, sym, ap, ◌∙◌, arith}
use Rattle.std.specs.Prelude.{Option, Some, None, fold}
use Rattle.std.specs.List.{AllByRecursion}
use Rattle.std.proofs.lemmas.Bool.{true≢false}
use Rattle.std.proofs.lemmas.Bool.Decides.{nat_tests}
use Rattle.std.proofs.lemmas.List.{get_or-set_same, get_or-set_other}
use Rattle.std.proofs.lemmas.List.Elements.{All-weaker, All-filter, recursion_from_All}
use Rattle.desk_units.specs.declared.numbers.Leg.{Leg}
use Rattle.desk_data.specs.declared.row.Row.{Row}
use Rattle.desk_data.specs.declared.row.Row.TheVariants.{Flown, Cancelled}
use Rattle.desk_data.specs.Situation.{Situation, legs_of, fixed}
use Rattle.desk_data.specs.PlanRows.{PlanRows, row_at, with_row}
use Rattle.desk_rules.specs.Maintenance.{is_flown_by, flies}
use Rattle.desk_rules.proofs.MaintenanceLaws.{flies-holds}
use Rattle.desk_model.specs.Push.{rotation, comes_after, pushed_legs, with_departure, first_departure, after_placing, after_push}
use Rattle.desk_model.proofs.RotationOrder.{rotation-flown}

nat_eq_cases : (p q : ℕ) → (p ≡ q) ⊎ (p ≢ q)
nat_eq_cases p q = grind (arith, nat_tests)

below_cases : (i n : ℕ) → (i < n) ⊎ (n ≤ i)
below_cases i n = grind arith

row_past : (rows : List Row) (x : ℕ) → length rows ≤ x → get_or rows x Cancelled ≡ Cancelled
row_past [] x h = refl
row_past (r ∷ rows) zero h = absurd (omega (arith, h))
row_past (r ∷ rows) (suc x) h = row_past rows x (omega (arith, h))

flown_within : (Q : PlanRows) (p x : ℕ) → flies Q p x ≡ true → x < length Q.rows
flown_within Q p x on =
    elim (below_cases x (length Q.rows)) [
      | inl less ↦ less
      | inr past ↦ absurd (true≢false (sym on ∙ ap (is_flown_by p) (row_past Q.rows x past)))
    ]

with_row-flies : (Q : PlanRows) (p x t q y : ℕ) → flies Q p x ≡ true → (y ≡ x) ⊎ (y ≢ x) → flies (with_row Q x (Flown (record { 0 = p }) (record { 0 = t }))) q y ≡ flies Q q y
with_row-flies Q p x t q y on (inl same) =
    let row : Row = Flown (record { 0 = p }) (record { 0 = t }) in
    let at : row_at (with_row Q x row) x ≡ row = get_or-set_same Q.rows x row Cancelled (flown_within Q p x on) in
    ap (λ (k : ℕ). flies (with_row Q x row) q k) same
    ∙ ap (is_flown_by q) at
    ∙ sym (ap (is_flown_by q) (flies-holds Q p x on))
    ∙ ap (λ (k : ℕ). flies Q q k) (sym same)
with_row-flies Q p x t q y on (inr apart) = ap (is_flown_by q) (get_or-set_other Q.rows x y (Flown (record { 0 = p }) (record { 0 = t })) Cancelled apart)

departure-flies : (Q : PlanRows) (p x q y : ℕ) (o : Option ℕ) → flies Q p x ≡ true → flies (with_departure Q p x o) q y ≡ flies Q q y
departure-flies Q p x q y None on = refl
departure-flies Q p x q y (Some t) on = with_row-flies Q p x t q y on (nat_eq_cases y x)

-- legs that an aircraft flies are placed
placed-flies : (I : Situation) (P Q : PlanRows) (p q y : ℕ) (xs : List ℕ) → ((z : ℕ) → flies Q p z ≡ flies P p z) → AllByRecursion (λ x. flies P p x ≡ true) xs → flies (fold (after_placing I P p) Q xs) q y ≡ flies Q q y
placed-flies I P Q p q y [] same on = refl
placed-flies I P Q p q y (x ∷ xs) same on =
    let here : flies Q p x ≡ true = same x ∙ on.0 in
    let next : (k z : ℕ) → flies (after_placing I P p Q x) k z ≡ flies Q k z = λ k z. departure-flies Q p x k z (first_departure I P Q p x) here in
    placed-flies I P (after_placing I P p Q x) p q y xs (λ z. next p z ∙ same z) on.1 ∙ next q y

pub pushed-flies : (I : Situation) (P : PlanRows) (p : ℕ) (after : Option Leg) (q y : ℕ) → flies (after_push I P p after) q y ≡ flies P q y
unfolding after_push pushed_legs
pushed-flies I P p after q y =
    placed-flies I P P p q y (pushed_legs I P p after) (λ z. refl)
    (recursion_from_All (λ x. flies P p x ≡ true) (pushed_legs I P p after)
    (All-filter (λ x. not (fixed I x) && comes_after P after x) (λ x. flies P p x ≡ true) (rotation I P p)
    (All-weaker (λ x. (x < legs_of I) × (flies P p x ≡ true)) (λ x. flies P p x ≡ true) (λ x both. both.1) (rotation I P p) (rotation-flown I P p))))
