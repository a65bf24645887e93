-- The legs that each aircraft flies, and that a Push leaves them.
use Rattle.std.proofs.Common.{◌≡◌, ◌≢◌, ℕ, zero, suc, ◌+◌, ◌<◌, ◌≤◌, ◌⊎◌, inl, inr, Bool, true, false, ◌&&◌, not, List, [], ◌∷◌, ◌++◌, length, get_or, set, map, refl, sym, ap, subst, ◌∙◌, arith, add-one}
use Rattle.std.specs.Prelude.{Option, Some, None, filter, fold, replicate}
use Rattle.std.specs.List.{AllByRecursion}
use Rattle.std.proofs.Math.Path.{fun_ext}
use Rattle.std.proofs.lemmas.Bool.{true≢false}
use Rattle.std.proofs.lemmas.Bool.Decides.{nat_tests}
use Rattle.std.proofs.lemmas.List.{get_or-set_same, get_or-set_other, get_or-replicate, length-replicate, length-set, map_push, append-nil}
use Rattle.std.proofs.lemmas.List.Elements.{All-weaker, All-filter, filter-append, recursion_from_All}
use Rattle.desk_units.specs.declared.numbers.Leg.{Leg}
use Rattle.desk_data.specs.declared.row.Row.{Row}
use Rattle.desk_data.specs.declared.row.Row.TheVariants.{Flown, Cancelled}
use Rattle.desk_data.specs.Situation.{Situation, legs_of, planes_of, fixed}
use Rattle.desk_data.specs.PlanRows.{PlanRows, row_at, with_row}
use Rattle.desk_rules.specs.Numbers.{numbers}
use Rattle.desk_rules.specs.Maintenance.{is_flown_by, flies}
use Rattle.desk_rules.proofs.MaintenanceLaws.{flies-holds}
use Rattle.desk_model.specs.Push.{rotation, comes_after, pushed_legs, with_departure, first_departure, after_placing, after_push}
use Rattle.desk_model.proofs.RotationOrder.{rotation-flown}
use Rattle.step_laws.proofs.PushedLaws.{pushed-flies}
use Rattle.hour_counts.specs.Flown.{AreFlown, AreFlownOfFirst}

nat_eq_cases : (p q : ℕ) → (p ≡ q) ⊎ (p ≢ q)
nat_eq_cases p q = grind (arith, nat_tests)

-- ---- one leg more

last_flown : (Q : PlanRows) (p n : ℕ) → filter (flies Q p) (numbers (n + 1)) ≡ filter (flies Q p) (numbers n) ++ filter (flies Q p) (n ∷ [])
last_flown Q p n = rw add-one (filter-append (flies Q p) (numbers n) (n ∷ []))

flown_yes : (Q : PlanRows) (p n : ℕ) → flies Q p n ≡ true → filter (flies Q p) (numbers (n + 1)) ≡ filter (flies Q p) (numbers n) ++ n ∷ []
flown_yes Q p n yes_flies = last_flown Q p n ∙ rw yes_flies refl

flown_no : (Q : PlanRows) (p n : ℕ) → flies Q p n ≡ false → filter (flies Q p) (numbers (n + 1)) ≡ filter (flies Q p) (numbers n)
flown_no Q p n not_flies = last_flown Q p n ∙ rw not_flies (append-nil (filter (flies Q p) (numbers n)))

-- none of no legs
pub none_flown : (I : Situation) (Q : PlanRows) (flown : List (List Leg)) (n : ℕ) → n ≡ planes_of I → flown ≡ replicate n [] → AreFlownOfFirst 0 I Q flown
none_flown I Q flown n count is = subst (AreFlownOfFirst 0 I Q) (sym is) (record {
  planes = length-replicate n [] ∙ count;
  each = λ p lt. ap (map (λ (leg : Leg). leg.0)) (get_or-replicate n p [] [] (omega (arith, count, lt)));
})

-- a leg that no aircraft flies
pub cancelled_more : (I : Situation) (Q : PlanRows) (n : ℕ) (flown : List (List Leg)) → row_at Q n ≡ Cancelled → AreFlownOfFirst n I Q flown → AreFlownOfFirst (n + 1) I Q flown
cancelled_more I Q n flown off are = record {
  planes = are.planes;
  each = λ p lt. are.each p lt ∙ sym (flown_no Q p n (ap (is_flown_by p) off));
}

other_plane : (p q : ℕ) (row : Row) → is_flown_by q row ≡ true → p ≢ q → is_flown_by p row ≡ false
other_plane p q (Flown a d) h apart = grind (arith, nat_tests)
other_plane p q Cancelled h apart = refl

legs_with : (Q : PlanRows) (flown : List (List Leg)) (q : ℕ) (leg : Leg) (p : ℕ) → (p ≡ q) ⊎ (p ≢ q) → q < length flown → flies Q q leg.0 ≡ true
    → map (λ (l : Leg). l.0) (get_or flown p []) ≡ filter (flies Q p) (numbers leg.0)
    → map (λ (l : Leg). l.0) (get_or (set flown q (get_or flown q [] ++ leg ∷ [])) p []) ≡ filter (flies Q p) (numbers (leg.0 + 1))
legs_with Q flown q leg p (inl same) lt on is =
    let now : flies Q p leg.0 ≡ true = ap (λ (k : ℕ). flies Q k leg.0) same ∙ on in
    ap (λ (k : ℕ). map (λ (l : Leg). l.0) (get_or (set flown q (get_or flown q [] ++ leg ∷ [])) k [])) same
    ∙ ap (map (λ (l : Leg). l.0)) (get_or-set_same flown q (get_or flown q [] ++ leg ∷ []) [] lt)
    ∙ map_push (λ (l : Leg). l.0) (get_or flown q []) leg
    ∙ ap (λ (k : ℕ). map (λ (l : Leg). l.0) (get_or flown k []) ++ leg.0 ∷ []) (sym same)
    ∙ ap (λ (xs : List ℕ). xs ++ leg.0 ∷ []) is
    ∙ sym (flown_yes Q p leg.0 now)
legs_with Q flown q leg p (inr apart) lt on is =
    ap (map (λ (l : Leg). l.0)) (get_or-set_other flown q p (get_or flown q [] ++ leg ∷ []) [] apart)
    ∙ is
    ∙ sym (flown_no Q p leg.0 (other_plane p q (row_at Q leg.0) on apart))

-- a leg that an aircraft flies
pub flown_more : (I : Situation) (Q : PlanRows) (flown : List (List Leg)) (q : ℕ) (leg : Leg) → q < planes_of I → flies Q q leg.0 ≡ true → AreFlownOfFirst leg.0 I Q flown → AreFlownOfFirst (leg.0 + 1) I Q (set flown q (get_or flown q [] ++ leg ∷ []))
flown_more I Q flown q leg lt on are = record {
  planes = length-set flown q (get_or flown q [] ++ leg ∷ []) ∙ are.planes;
  each = λ p within. legs_with Q flown q leg p (nat_eq_cases p q) (omega (arith, are.planes, lt)) on (are.each p within);
}

-- the legs of each aircraft are those that they were
pub flown-pushed : (I : Situation) (P : PlanRows) (p : ℕ) (after : Option Leg) (flown : List (List Leg)) → AreFlown I P flown → AreFlown I (after_push I P p after) flown
flown-pushed I P p after flown are = record {
  planes = are.planes;
  each = λ q lt. are.each q lt ∙ ap (λ (test : ℕ → Bool). filter test (numbers (legs_of I))) (sym (fun_ext (λ y. pushed-flies I P p after q y)));
}
