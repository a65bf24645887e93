-- What the desk falls back on.
use Rattle.std.proofs.Common.{◌≡◌, ℕ, zero, suc, ◌<◌, ◌≤◌, ◌⊎◌, inl, inr, Bool, true, false, ◌&&◌, not, eqb, List, [], ◌∷◌, get_or, refl, sym, ap, subst, ◌∙◌, arith}
use Rattle.std.specs.Prelude.{Option, None, Some, unwrap_or, map, fold, if◌then◌else◌}
use Rattle.std.specs.List.{All, AllByRecursion, list_any}
use Rattle.std.proofs.lemmas.Bool.{true≢false, cases_Bool, cases_lt, and_parts, and_from, or_cases, or_left, or_right, not-true, not_from_false, eq-eqb, eqb-true}
use Rattle.std.proofs.lemmas.List.{length-map, get_or-map, get_or_past}
use Rattle.std.proofs.lemmas.List.Elements.{All-map, All-weaker, recursion_from_All}
use Rattle.std.proofs.lemmas.List.Folds.{list_any_at, list_any-append}
use Rattle.std.proofs.lemmas.List.Sums.{fold-append}
use Rattle.desk_data.specs.declared.row.Row.{Row}
use Rattle.desk_data.specs.declared.row.Row.TheVariants.{Cancelled}
use Rattle.desk_data.specs.declared.broken.Broken.{Broken}
use Rattle.desk_data.specs.Situation.{Situation, legs_of, planes_of, reservations_of, fixed, called_off, due}
use Rattle.desk_data.specs.PlanRows.{PlanRows, IsRow, row_at}
use Rattle.desk_data.specs.Valid.{IsRowOf, IsValid, IsPlanFor}
use Rattle.desk_data.proofs.DepartureLaws.{due-movable, due-valid}
use Rattle.desk_rules.specs.Numbers.{numbers}
use Rattle.desk_rules.specs.Rotations.{precedes}
use Rattle.desk_rules.specs.Least.{least}
use Rattle.desk_rules.specs.Words.{Precedes, IsFeasible, MeetsC1}
use Rattle.desk_rules.proofs.HourLaws.{length-numbers}
use Rattle.desk_rules.proofs.LeastLaws.{feasible-holds, feasible-from, least-holds}
use Rattle.desk_rules.proofs.RotationLaws.{precedes-holds, precedes-from}
use Rattle.desk_model.specs.declared.fallbacks.Which.TheVariants.{Keep, Shift}
use Rattle.desk_model.specs.declared.fallbacks.Fallback.{Fallback}
use Rattle.desk_model.specs.Push.{after_push}
use Rattle.desk_model.specs.Tidy.{TidiesReservation, after_tidy}
use Rattle.desk_model.specs.Fallback.{with_each_row, settled, cancelled, is_movable_off, is_at_or_before, is_stopped, stopped, first_pushed, all_pushed, shifted, grounded, chosen_or, last_choice, fallback, rows_of, IsFlownBy, IsStopped, CarriesFit, FallsBack}
use Rattle.desk_model.proofs.GroupPlans.{numbers-at}
use Rattle.desk_model.proofs.PushLaws.{after_push-groups, after_push-others, after_push-plane, after_push-valid}
use Rattle.desk_model.proofs.RotationOrder.{flown_once}
use Rattle.desk_model.proofs.TidyLaws.{after_tidy-rows, after_tidy-valid, after_tidy-tidies}
use Rattle.desk_model.proofs.ValidLaws.{row_is_sound, row_of_plan}

-- ---- rows of all legs

each_row-at : (I : Situation) (row : ℕ → Row) (P : PlanRows) (x : ℕ) → x < legs_of I → row_at (with_each_row I row P) x ≡ row x
each_row-at I row P x within =
    get_or-map row (numbers (legs_of I)) x 0 Cancelled (rw length-numbers within)
    ∙ ap row (numbers-at (legs_of I) x 0 within)

each_row-past : (I : Situation) (row : ℕ → Row) (P : PlanRows) (x : ℕ) → legs_of I ≤ x → row_at (with_each_row I row P) x ≡ Cancelled
each_row-past I row P x past = get_or_past (map row (numbers (legs_of I))) x Cancelled (rw (length-map, length-numbers) past)

each_row-valid : (I : Situation) (row : ℕ → Row) (P : PlanRows) → ((x : ℕ) → x < legs_of I → IsRowOf (planes_of I) (row x)) → IsPlanFor I P → IsPlanFor I (with_each_row I row P)
each_row-valid I row P are plan =
    let rows : All (IsRowOf (planes_of I)) (map row (numbers (legs_of I))) =
    All-map (IsRowOf (planes_of I)) row (numbers (legs_of I)) (λ k d within.
    let lt : k < legs_of I = omega (arith, within, length-numbers (legs_of I)) in
    subst (λ (j : ℕ). IsRowOf (planes_of I) (row j)) (sym (numbers-at (legs_of I) k d lt)) (are k lt)) in
    record {
      sound = record { rows = All-weaker (IsRowOf (planes_of I)) IsRow (row_is_sound (planes_of I)) (map row (numbers (legs_of I))) rows; groups = plan.sound.groups };
      legs = length-map (numbers (legs_of I)) row ∙ length-numbers (legs_of I);
      res = plan.res;
      rows = rows;
      groups = plan.groups;
    }

row_past : (I : Situation) (P : PlanRows) (x : ℕ) → legs_of I ≤ x → IsPlanFor I P → row_at P x ≡ Cancelled
row_past I P x past plan = get_or_past P.rows x Cancelled (let legs = plan.legs in omega (arith, legs, past))

-- ---- Settle

pub settled-at : (I : Situation) (P : PlanRows) (x : ℕ) → x < legs_of I → row_at (settled I P) x ≡ unwrap_or (due I x) (row_at P x)
unfolding settled
settled-at I P x within = each_row-at I (λ y. unwrap_or (due I y) (row_at P y)) P x within

settled-past : (I : Situation) (P : PlanRows) (x : ℕ) → legs_of I ≤ x → row_at (settled I P) x ≡ Cancelled
unfolding settled
settled-past I P x past = each_row-past I (λ y. unwrap_or (due I y) (row_at P y)) P x past

pub settled-due : (I : Situation) (P : PlanRows) (x : ℕ) → x < legs_of I → MeetsC1 I (settled I P) x
settled-due I P x within row is = settled-at I P x within ∙ ap (λ (o : Option Row). unwrap_or o (row_at P x)) is

pub settled-movable : (I : Situation) (P : PlanRows) (x : ℕ) → IsPlanFor I P → fixed I x ≡ false → row_at (settled I P) x ≡ row_at P x
settled-movable I P x plan movable =
    elim (cases_lt x (legs_of I)) [
      | inl within ↦ settled-at I P x within ∙ ap (λ (o : Option Row). unwrap_or o (row_at P x)) (due-movable I x movable)
      | inr past ↦ settled-past I P x past ∙ sym (row_past I P x past plan)
    ]

pub settled-groups : (I : Situation) (P : PlanRows) → (settled I P).groups ≡ P.groups
unfolding settled
settled-groups I P = refl

settled_row : (planes : ℕ) (o : Option Row) (own : Row) → ((row : Row) → o ≡ Some row → IsRowOf planes row) → IsRowOf planes own → IsRowOf planes (unwrap_or o own)
settled_row planes None own asked is = is
settled_row planes (Some row) own asked is = asked row refl

pub settled-valid : (I : Situation) (P : PlanRows) → IsValid I → IsPlanFor I P → IsPlanFor I (settled I P)
unfolding settled
settled-valid I P valid plan =
    each_row-valid I (λ x. unwrap_or (due I x) (row_at P x)) P (λ x within. settled_row (planes_of I) (due I x) (row_at P x) (due-valid I x valid within) (row_of_plan I P x within plan)) plan

-- ---- legs that are cancelled

cancelled_row : (test : ℕ → Bool) → PlanRows → ℕ → Row
cancelled_row test P x = if test x then Cancelled else row_at P x

pub cancelled-holds : (I : Situation) (test : ℕ → Bool) (P : PlanRows) (x : ℕ) → test x ≡ true → row_at (cancelled I test P) x ≡ Cancelled
unfolding cancelled cancelled_row
cancelled-holds I test P x holds =
    elim (cases_lt x (legs_of I)) [
      | inl within ↦ each_row-at I (cancelled_row test P) P x within ∙ rw holds refl
      | inr past ↦ each_row-past I (cancelled_row test P) P x past
    ]

pub cancelled-kept : (I : Situation) (test : ℕ → Bool) (P : PlanRows) (x : ℕ) → x < legs_of I → test x ≡ false → row_at (cancelled I test P) x ≡ row_at P x
unfolding cancelled cancelled_row
cancelled-kept I test P x within fails = each_row-at I (cancelled_row test P) P x within ∙ rw fails refl

pub cancelled-other : (I : Situation) (test : ℕ → Bool) (P : PlanRows) (x : ℕ) → IsPlanFor I P → test x ≡ false → row_at (cancelled I test P) x ≡ row_at P x
unfolding cancelled cancelled_row
cancelled-other I test P x plan fails =
    elim (cases_lt x (legs_of I)) [
      | inl within ↦ each_row-at I (cancelled_row test P) P x within ∙ rw fails refl
      | inr past ↦ each_row-past I (cancelled_row test P) P x past ∙ sym (row_past I P x past plan)
    ]

cond-row : (planes : ℕ) (b : Bool) (row : Row) → IsRowOf planes row → IsRowOf planes (if b then Cancelled else row)
cond-row planes true row is = tt
cond-row planes false row is = is

pub cancelled-valid : (I : Situation) (test : ℕ → Bool) (P : PlanRows) → IsPlanFor I P → IsPlanFor I (cancelled I test P)
unfolding cancelled cancelled_row
cancelled-valid I test P plan =
    each_row-valid I (cancelled_row test P) P (λ x within. cond-row (planes_of I) (test x) (row_at P x) (row_of_plan I P x within plan)) plan

-- ---- which legs a Shift cancels

-- a number below n that passes
record Passes (test : ℕ → Bool) (n : ℕ) : Type 0 where
  number : ℕ
  within : number < n
  holds : test number ≡ true

some_passes : (test : ℕ → Bool) (n : ℕ) → list_any test (numbers n) ≡ true → Passes test n
some_passes test zero is = absurd (true≢false (sym is))
some_passes test (suc n) is =
    elim (or_cases (list_any test (numbers n)) (list_any test (n ∷ [])) (sym (list_any-append test (numbers n) (n ∷ [])) ∙ is)) [
      | inl before ↦ (let found = some_passes test n before in record { number = found.number; within = omega (arith, found.within); holds = found.holds })
      | inr last ↦ elim (or_cases (test n) false last) [
        | inl own ↦ (record { number = n; within = omega arith; holds = own })
        | inr none ↦ absurd (true≢false (sym none))
      ]
    ]

-- what is asked of a leg for which leg x is cancelled
abbrev pub is_cause : Situation → PlanRows → ℕ → ℕ → Bool
is_cause I P x y = is_movable_off I y && is_at_or_before P y x

place_of : (P : PlanRows) (y x : ℕ) → is_at_or_before P y x ≡ true → (y ≡ x) ⊎ Precedes P y x
place_of P y x is =
    elim (or_cases (eqb y x) (precedes P y x) is) [
      | inl same ↦ inl (eqb-true y x same)
      | inr before ↦ inr (precedes-holds P y x before)
    ]

pub is_stopped-holds : (I : Situation) (P : PlanRows) (x : ℕ) → is_stopped I P x ≡ true → IsStopped I P x
unfolding is_stopped
is_stopped-holds I P x is =
    let parts = and_parts (not (fixed I x)) (list_any (is_cause I P x) (numbers (legs_of I))) is in
    let found = some_passes (is_cause I P x) (legs_of I) parts.1 in
    let y = found.number in
    let inner = and_parts (is_movable_off I y) (is_at_or_before P y x) found.holds in
    let off = and_parts (not (fixed I y)) (called_off I y) inner.0 in
    record {
      movable = not-true (fixed I x) parts.0;
      cause = y;
      leg = found.within;
      off_movable = not-true (fixed I y) off.0;
      off = off.1;
      place = place_of P y x inner.1;
    }

at_place : (P : PlanRows) (y x : ℕ) → (y ≡ x) ⊎ Precedes P y x → is_at_or_before P y x ≡ true
at_place P y x (inl same) = or_left (eqb y x) (precedes P y x) (eq-eqb y x same)
at_place P y x (inr before) = or_right (eqb y x) (precedes P y x) (precedes-from P y x before)

pub is_stopped-from : (I : Situation) (P : PlanRows) (x : ℕ) → IsStopped I P x → is_stopped I P x ≡ true
unfolding is_stopped
is_stopped-from I P x h =
    let y = h.cause in
    let off = and_from (not (fixed I y)) (called_off I y) (not_from_false (fixed I y) h.off_movable) h.off in
    let cause : is_cause I P x y ≡ true = and_from (is_movable_off I y) (is_at_or_before P y x) off (at_place P y x h.place) in
    let listed : get_or (numbers (legs_of I)) y 0 ≡ y = numbers-at (legs_of I) y 0 h.leg in
    and_from (not (fixed I x)) (list_any (is_cause I P x) (numbers (legs_of I))) (not_from_false (fixed I x) h.movable)
    (list_any_at (is_cause I P x) (numbers (legs_of I)) y 0 (rw length-numbers h.leg) (subst (λ (k : ℕ). is_cause I P x k ≡ true) (sym listed) cause))

pub stopped-holds : (I : Situation) (P : PlanRows) (x : ℕ) → IsStopped I P x → row_at (stopped I P) x ≡ Cancelled
unfolding stopped
stopped-holds I P x h = cancelled-holds I (is_stopped I P) P x (is_stopped-from I P x h)

not_stopped : (I : Situation) (P : PlanRows) (x : ℕ) → (IsStopped I P x → ⊥) → is_stopped I P x ≡ false
not_stopped I P x none =
    elim (cases_Bool (is_stopped I P x)) [
      | inl is ↦ absurd (none (is_stopped-holds I P x is))
      | inr other ↦ other
    ]

pub stopped-other : (I : Situation) (P : PlanRows) (x : ℕ) → IsPlanFor I P → (IsStopped I P x → ⊥) → row_at (stopped I P) x ≡ row_at P x
unfolding stopped
stopped-other I P x plan none = cancelled-other I (is_stopped I P) P x plan (not_stopped I P x none)

pub stopped-groups : (I : Situation) (P : PlanRows) → (stopped I P).groups ≡ P.groups
unfolding stopped cancelled
stopped-groups I P = refl

-- a fixed leg is not cancelled
stopped-fixed : (I : Situation) (P : PlanRows) (x : ℕ) → x < legs_of I → fixed I x ≡ true → row_at (stopped I P) x ≡ row_at P x
unfolding stopped
stopped-fixed I P x within is =
    cancelled-kept I (is_stopped I P) P x within (not_stopped I P x (λ h. true≢false (sym is ∙ h.movable)))

stopped-off : (I : Situation) (P : PlanRows) (x : ℕ) → x < legs_of I → fixed I x ≡ false → called_off I x ≡ true → row_at (stopped I P) x ≡ Cancelled
stopped-off I P x within movable off =
    stopped-holds I P x (record { movable = movable; cause = x; leg = within; off_movable = movable; off = off; place = inl refl })

pub stopped-valid : (I : Situation) (P : PlanRows) → IsPlanFor I P → IsPlanFor I (stopped I P)
unfolding stopped
stopped-valid I P plan = cancelled-valid I (is_stopped I P) P plan

-- ---- all aircraft are pushed

-- some aircraft are pushed
abbrev pub some_pushed : Situation → PlanRows → List ℕ → PlanRows
some_pushed I P planes = fold (λ Q p. after_push I Q p None) P planes

some_pushed-fixed : (I : Situation) (P : PlanRows) (planes : List ℕ) (x : ℕ) → fixed I x ≡ true → row_at (some_pushed I P planes) x ≡ row_at P x
some_pushed-fixed I P [] x is = refl
some_pushed-fixed I P (p ∷ planes) x is =
    some_pushed-fixed I (after_push I P p None) planes x is
    ∙ after_push-others I P p None x (λ pushed. true≢false (sym is ∙ pushed.movable))

some_pushed-cancelled : (I : Situation) (P : PlanRows) (planes : List ℕ) (x : ℕ) → row_at P x ≡ Cancelled → row_at (some_pushed I P planes) x ≡ Cancelled
some_pushed-cancelled I P [] x is = is
some_pushed-cancelled I P (p ∷ planes) x is =
    some_pushed-cancelled I (after_push I P p None) planes x
    (after_push-others I P p None x (λ pushed. let flown = sym is ∙ pushed.flown in absurd cc) ∙ is)

some_pushed-valid : (I : Situation) (P : PlanRows) (planes : List ℕ) → IsValid I → AllByRecursion (λ p. p < planes_of I) planes → IsPlanFor I P → IsPlanFor I (some_pushed I P planes)
some_pushed-valid I P [] valid are plan = plan
some_pushed-valid I P (p ∷ planes) valid are plan = some_pushed-valid I (after_push I P p None) planes valid are.1 (after_push-valid I P p None valid are.0 plan)

numbers-below : (n : ℕ) → All (λ k. k < n) (numbers n)
numbers-below n k d within =
    let lt : k < n = omega (arith, within, length-numbers n) in
    subst (λ (j : ℕ). j < n) (sym (numbers-at n k d lt)) lt

pub all_pushed-valid : (I : Situation) (P : PlanRows) → IsValid I → IsPlanFor I P → IsPlanFor I (all_pushed I P)
unfolding all_pushed
all_pushed-valid I P valid plan =
    some_pushed-valid I P (numbers (planes_of I)) valid (recursion_from_All (λ p. p < planes_of I) (numbers (planes_of I)) (numbers-below (planes_of I))) plan

pub all_pushed-fixed : (I : Situation) (P : PlanRows) (x : ℕ) → fixed I x ≡ true → row_at (all_pushed I P) x ≡ row_at P x
unfolding all_pushed
all_pushed-fixed I P x is = some_pushed-fixed I P (numbers (planes_of I)) x is

pub all_pushed-cancelled : (I : Situation) (P : PlanRows) (x : ℕ) → row_at P x ≡ Cancelled → row_at (all_pushed I P) x ≡ Cancelled
unfolding all_pushed
all_pushed-cancelled I P x is = some_pushed-cancelled I P (numbers (planes_of I)) x is

some_pushed-groups : (I : Situation) (P : PlanRows) (planes : List ℕ) → (some_pushed I P planes).groups ≡ P.groups
some_pushed-groups I P [] = refl
some_pushed-groups I P (p ∷ planes) = some_pushed-groups I (after_push I P p None) planes ∙ after_push-groups I P p None

some_pushed-plane : (I : Situation) (P : PlanRows) (planes : List ℕ) (x q : ℕ) → IsFlownBy P x q → IsFlownBy (some_pushed I P planes) x q
some_pushed-plane I P [] x q flown = flown
some_pushed-plane I P (p ∷ planes) x q flown = some_pushed-plane I (after_push I P p None) planes x q (after_push-plane I P p None x q flown)

pub all_pushed-groups : (I : Situation) (P : PlanRows) → (all_pushed I P).groups ≡ P.groups
unfolding all_pushed
all_pushed-groups I P = some_pushed-groups I P (numbers (planes_of I))

pub all_pushed-plane : (I : Situation) (P : PlanRows) (x q : ℕ) → IsFlownBy P x q → IsFlownBy (all_pushed I P) x q
unfolding all_pushed
all_pushed-plane I P x q flown = some_pushed-plane I P (numbers (planes_of I)) x q flown

one_more : (I : Situation) (P : PlanRows) (m : ℕ) → first_pushed I P (suc m) ≡ after_push I (first_pushed I P m) m None
one_more I P m = fold-append (λ Q p. after_push I Q p None) P (numbers m) (m ∷ [])

-- a leg of another aircraft does not move
push-other : (I : Situation) (P : PlanRows) (x n m : ℕ) → n < m → IsFlownBy P x n → row_at (after_push I P m None) x ≡ row_at P x
push-other I P x n m less flown =
    after_push-others I P m None x (λ pushed.
    let same : n ≡ m = flown_once P x n m flown.dep pushed.dep flown.flown pushed.flown in
    absurd (omega (arith, less, same)))

pushed_in_turn : (I : Situation) (P : PlanRows) (m n x : ℕ) → n < m → IsFlownBy P x n → row_at (first_pushed I P m) x ≡ row_at (after_push I (first_pushed I P n) n None) x
pushed_in_turn I P zero n x less flown = absurd (omega (arith, less))
pushed_in_turn I P (suc m) n x less flown =
    elim (cases_lt n m) [
      | inl before ↦
          ap (λ (Q : PlanRows). row_at Q x) (one_more I P m)
          ∙ push-other I (first_pushed I P m) x n m before (some_pushed-plane I P (numbers m) x n flown)
          ∙ pushed_in_turn I P m n x before flown
      | inr past ↦ (let last : m ≡ n = omega (arith, less, past) in
          ap (λ (Q : PlanRows). row_at Q x) (one_more I P m)
          ∙ ap (λ (k : ℕ). row_at (after_push I (first_pushed I P k) k None) x) last)
    ]

pub all_pushed-turn : (I : Situation) (P : PlanRows) (n x : ℕ) → n < planes_of I → IsFlownBy P x n → row_at (all_pushed I P) x ≡ row_at (after_push I (first_pushed I P n) n None) x
unfolding all_pushed
all_pushed-turn I P n x less flown = pushed_in_turn I P (planes_of I) n x less flown

-- ---- Shift and Ground

tidy-row : (I : Situation) (P : PlanRows) (x : ℕ) → row_at (after_tidy I P) x ≡ row_at P x
tidy-row I P x = ap (λ (rows : List Row). get_or rows x Cancelled) (after_tidy-rows I P)

tidy-fit : (I : Situation) (P : PlanRows) (r : ℕ) → r < reservations_of I → CarriesFit I (after_tidy I P) r
tidy-fit I P r within = let tidies = after_tidy-tidies I P r within in record { c13 = tidies.c13; c14 = tidies.c14; c15 = tidies.c15 }

-- a leg that is due a row is fixed
due-fixed : (I : Situation) (x : ℕ) (row : Row) → due I x ≡ Some row → fixed I x ≡ true
due-fixed I x row is =
    elim (cases_Bool (fixed I x)) [
      | inl holds ↦ holds
      | inr movable ↦ (let none = sym (due-movable I x movable) ∙ is in absurd cc)
    ]

pub shifted-due : (I : Situation) (P : PlanRows) (x : ℕ) → x < legs_of I → MeetsC1 I (shifted I P) x
unfolding shifted
shifted-due I P x within row is =
    let own = due-fixed I x row is in
    tidy-row I (all_pushed I (stopped I (settled I P))) x
    ∙ all_pushed-fixed I (stopped I (settled I P)) x own
    ∙ stopped-fixed I (settled I P) x within own
    ∙ settled-due I P x within row is

pub shifted-off : (I : Situation) (P : PlanRows) (x : ℕ) → x < legs_of I → fixed I x ≡ false → called_off I x ≡ true → row_at (shifted I P) x ≡ Cancelled
unfolding shifted
shifted-off I P x within movable off =
    tidy-row I (all_pushed I (stopped I (settled I P))) x
    ∙ all_pushed-cancelled I (stopped I (settled I P)) x (stopped-off I (settled I P) x within movable off)

pub shifted-rows : (I : Situation) (P : PlanRows) → (shifted I P).rows ≡ (all_pushed I (stopped I (settled I P))).rows
unfolding shifted
shifted-rows I P = after_tidy-rows I (all_pushed I (stopped I (settled I P)))

pub shifted-stopped : (I : Situation) (P : PlanRows) (x : ℕ) → IsStopped I (settled I P) x → row_at (shifted I P) x ≡ Cancelled
shifted-stopped I P x h =
    ap (λ (rows : List Row). get_or rows x Cancelled) (shifted-rows I P)
    ∙ all_pushed-cancelled I (stopped I (settled I P)) x (stopped-holds I (settled I P) x h)

-- a movable leg that no order stops keeps its row until aircraft are pushed
stopped-kept : (I : Situation) (P : PlanRows) (x : ℕ) → x < legs_of I → fixed I x ≡ false → (IsStopped I (settled I P) x → ⊥) → row_at (stopped I (settled I P)) x ≡ row_at P x
unfolding stopped
stopped-kept I P x within movable none =
    cancelled-kept I (is_stopped I (settled I P)) (settled I P) x within (not_stopped I (settled I P) x none)
    ∙ settled-at I P x within
    ∙ ap (λ (o : Option Row). unwrap_or o (row_at P x)) (due-movable I x movable)

pub shifted-flown : (I : Situation) (P : PlanRows) (x p : ℕ) → x < legs_of I → fixed I x ≡ false → (IsStopped I (settled I P) x → ⊥) → IsFlownBy P x p → IsFlownBy (shifted I P) x p
shifted-flown I P x p within movable none flown =
    let before : IsFlownBy (stopped I (settled I P)) x p = record { dep = flown.dep; flown = stopped-kept I P x within movable none ∙ flown.flown } in
    let pushed = all_pushed-plane I (stopped I (settled I P)) x p before in
    record { dep = pushed.dep; flown = ap (λ (rows : List Row). get_or rows x Cancelled) (shifted-rows I P) ∙ pushed.flown }

pub shifted-tidied : (I : Situation) (P : PlanRows) (r : ℕ) → r < reservations_of I → TidiesReservation I (all_pushed I (stopped I (settled I P))) (shifted I P) r
unfolding shifted
shifted-tidied I P r within = after_tidy-tidies I (all_pushed I (stopped I (settled I P))) r within

pub shifted-carried : (I : Situation) (P : PlanRows) (r : ℕ) → r < reservations_of I → CarriesFit I (shifted I P) r
unfolding shifted
shifted-carried I P r within = tidy-fit I (all_pushed I (stopped I (settled I P))) r within

pub shifted-valid : (I : Situation) (P : PlanRows) → IsValid I → IsPlanFor I P → IsPlanFor I (shifted I P)
unfolding shifted
shifted-valid I P valid plan =
    after_tidy-valid I (all_pushed I (stopped I (settled I P)))
    (all_pushed-valid I (stopped I (settled I P)) valid (stopped-valid I (settled I P) (settled-valid I P valid plan)))

pub grounded-due : (I : Situation) (P : PlanRows) (x : ℕ) → x < legs_of I → MeetsC1 I (grounded I P) x
unfolding grounded
grounded-due I P x within row is =
    tidy-row I (cancelled I (λ y. not (fixed I y)) (settled I P)) x
    ∙ cancelled-kept I (λ y. not (fixed I y)) (settled I P) x within (rw (due-fixed I x row is) refl)
    ∙ settled-due I P x within row is

pub grounded-movable : (I : Situation) (P : PlanRows) (x : ℕ) → fixed I x ≡ false → row_at (grounded I P) x ≡ Cancelled
unfolding grounded
grounded-movable I P x movable =
    tidy-row I (cancelled I (λ y. not (fixed I y)) (settled I P)) x
    ∙ cancelled-holds I (λ y. not (fixed I y)) (settled I P) x (not_from_false (fixed I x) movable)

pub grounded-rows : (I : Situation) (P : PlanRows) → (grounded I P).rows ≡ (cancelled I (λ x. not (fixed I x)) (settled I P)).rows
unfolding grounded
grounded-rows I P = after_tidy-rows I (cancelled I (λ x. not (fixed I x)) (settled I P))

pub grounded-tidied : (I : Situation) (P : PlanRows) (r : ℕ) → r < reservations_of I → TidiesReservation I (cancelled I (λ x. not (fixed I x)) (settled I P)) (grounded I P) r
unfolding grounded
grounded-tidied I P r within = after_tidy-tidies I (cancelled I (λ x. not (fixed I x)) (settled I P)) r within

pub grounded-carried : (I : Situation) (P : PlanRows) (r : ℕ) → r < reservations_of I → CarriesFit I (grounded I P) r
unfolding grounded
grounded-carried I P r within = tidy-fit I (cancelled I (λ y. not (fixed I y)) (settled I P)) r within

pub grounded-valid : (I : Situation) (P : PlanRows) → IsValid I → IsPlanFor I P → IsPlanFor I (grounded I P)
unfolding grounded
grounded-valid I P valid plan =
    after_tidy-valid I (cancelled I (λ y. not (fixed I y)) (settled I P)) (cancelled-valid I (λ y. not (fixed I y)) (settled I P) (settled-valid I P valid plan))

-- ---- the choice

pub infeasible : (I : Situation) (P : PlanRows) (item : Broken) → least I P ≡ Some item → IsFeasible I P → ⊥
infeasible I P item is feasible = let both = sym (feasible-from I P feasible) ∙ is in absurd cc

choice-valid : (I : Situation) (P S G : PlanRows) (a b c : Option Broken) → IsPlanFor I P → IsPlanFor I S → IsPlanFor I G → IsPlanFor I (rows_of (chosen_or Keep P a (chosen_or Shift S b (last_choice G c))))
choice-valid I P S G None b c p s g = p
choice-valid I P S G (Some i) None c p s g = s
choice-valid I P S G (Some i) (Some j) None p s g = g
choice-valid I P S G (Some i) (Some j) (Some k) p s g = g

pub fallback-valid : (I : Situation) (P : PlanRows) → IsValid I → IsPlanFor I P → IsPlanFor I (rows_of (fallback I P))
unfolding fallback
fallback-valid I P valid plan =
    choice-valid I P (shifted I P) (grounded I P) (least I P) (least I (shifted I P)) (least I (grounded I P)) plan (shifted-valid I P valid plan) (grounded-valid I P valid plan)

-- the choice is one of four
choice : Situation → PlanRows → Option Broken → Option Broken → Option Broken → Fallback
choice I P a b c = chosen_or Keep P a (chosen_or Shift (shifted I P) b (last_choice (grounded I P) c))

falls_by : (I : Situation) (P : PlanRows) (a b c : Option Broken) → least I P ≡ a → least I (shifted I P) ≡ b → least I (grounded I P) ≡ c → fallback I P ≡ choice I P a b c → FallsBack I P
unfolding choice
falls_by I P None b c p s g is = record {
  keep = ((λ own. feasible-holds I P p), (λ feasible. is));
  shift = ((λ other. let e = sym is ∙ other in absurd cc), (λ both. absurd (both.0 (feasible-holds I P p))));
  ground = ((λ other. let e = sym is ∙ other in absurd cc), (λ all. absurd (all.0 (feasible-holds I P p))));
  none = λ first second third. absurd (first (feasible-holds I P p));
}
falls_by I P (Some i) None c p s g is = record {
  keep = ((λ other. let e = sym is ∙ other in absurd cc), (λ feasible. absurd (infeasible I P i p feasible)));
  shift = ((λ own. (infeasible I P i p, feasible-holds I (shifted I P) s)), (λ both. is));
  ground = ((λ other. let e = sym is ∙ other in absurd cc), (λ all. absurd (all.1 (feasible-holds I (shifted I P) s))));
  none = λ first second third. absurd (second (feasible-holds I (shifted I P) s));
}
falls_by I P (Some i) (Some j) None p s g is = record {
  keep = ((λ other. let e = sym is ∙ other in absurd cc), (λ feasible. absurd (infeasible I P i p feasible)));
  shift = ((λ other. let e = sym is ∙ other in absurd cc), (λ both. absurd (infeasible I (shifted I P) j s both.1)));
  ground = ((λ own. (infeasible I P i p, infeasible I (shifted I P) j s, feasible-holds I (grounded I P) g)), (λ all. is));
  none = λ first second third. absurd (third (feasible-holds I (grounded I P) g));
}
falls_by I P (Some i) (Some j) (Some k) p s g is = record {
  keep = ((λ other. let e = sym is ∙ other in absurd cc), (λ feasible. absurd (infeasible I P i p feasible)));
  shift = ((λ other. let e = sym is ∙ other in absurd cc), (λ both. absurd (infeasible I (shifted I P) j s both.1)));
  ground = ((λ other. let e = sym is ∙ other in absurd cc), (λ all. absurd (infeasible I (grounded I P) k g all.2)));
  none = λ first second third. record { item = k; is = is; least = least-holds I (grounded I P) k g };
}

fallback-is : (I : Situation) (P : PlanRows) → fallback I P ≡ choice I P (least I P) (least I (shifted I P)) (least I (grounded I P))
unfolding fallback choice
fallback-is I P = refl

pub falls_back : (I : Situation) (P : PlanRows) → FallsBack I P
falls_back I P = falls_by I P (least I P) (least I (shifted I P)) (least I (grounded I P)) refl refl refl (fallback-is I P)
