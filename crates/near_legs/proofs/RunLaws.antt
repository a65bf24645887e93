-- Runs, from the leg after each leg.
use Rattle.std.proofs.Common.{◌≡◌, ℕ, zero, suc, ◌+◌, ◌-◌, ◌<◌, ◌≤◌, min, Bool, true, false, ◌&&◌, ◌||◌, not, leb, eqb, List, [], ◌∷◌, ◌++◌, length, get_or, map, take, drop, refl, sym, ap, subst, ◌∙◌, arith}
use Rattle.std.specs.Prelude.{Option, Some, None, is_none, is_some}
use Rattle.std.specs.Option.{ForSome}
use Rattle.std.specs.List.{All, list_all}
use Rattle.std.proofs.lemmas.Bool.{true≢false, and_parts, eq-eqb, leb-true}
use Rattle.std.proofs.lemmas.Bool.Decides.{nat_tests}
use Rattle.std.proofs.lemmas.List.{append_assoc, append-nil, map-append, length-map, length-append, length-take, length-drop, take-map, take-take, take_at, get_or-map, get_or-take, get_or_default}
use Rattle.std.proofs.lemmas.List.Elements.{All-nil, All-push}
use Rattle.std.proofs.lemmas.List.Folds.{list_all-map}
use Rattle.desk_units.specs.declared.numbers.Leg.{Leg}
use Rattle.desk_data.specs.Situation.{Situation, legs_of, leg_at, fixed}
use Rattle.desk_data.specs.PlanRows.{PlanRows}
use Rattle.near_moves.specs.MoveParts.{legs_from, run, is_run}
use Rattle.near_moves.specs.LegMoves.{run_end, comes_round}
use Rattle.near_moves.proofs.ListLaws.{for_some}
use Rattle.near_legs.specs.LegTables.{AreAfter, from_next}
use Rattle.near_legs.specs.Choices.{IsFlownLeg}

-- ---- legs that are taken one after another

-- the legs so far, and those from the next one on, are the legs from leg x on
pub record IsRunSoFar (I : Situation) (P : PlanRows) (x : ℕ) (legs : List Leg) (next : Option Leg) (n : ℕ) : Type 0 where
  pub legs_are : map (λ (l : Leg). l.0) legs ++ from_next I P next ≡ legs_from I P x
  pub count : length legs ≡ n
  pub within : All (λ l. l.0 < legs_of I) legs
  pub flown : ForSome next (λ l. IsFlownLeg I P l.0)

pub so_far-starts : (I : Situation) (P : PlanRows) (leg : Leg) → IsFlownLeg I P leg.0 → IsRunSoFar I P leg.0 [] (Some leg) 0
so_far-starts I P leg flown = record { legs_are = refl; count = refl; within = All-nil (λ (l : Leg). l.0 < legs_of I); flown = for_some (λ (l : Leg). IsFlownLeg I P l.0) leg flown }

pub next-flown : (I : Situation) (P : PlanRows) (after : List (Option Leg)) (x : ℕ) → AreAfter I P after → ForSome (get_or after x None) (λ l. IsFlownLeg I P l.0)
next-flown I P after x are = λ next at. record { within = are.within x next at; flown = are.flown x next at }

pub so_far-goes : (I : Situation) (P : PlanRows) (x : ℕ) (legs : List Leg) (leg : Leg) (n : ℕ) (after : List (Option Leg)) → AreAfter I P after → IsRunSoFar I P x legs (Some leg) n → IsRunSoFar I P x (legs ++ leg ∷ []) (get_or after leg.0 None) (n + 1)
so_far-goes I P x legs leg n after are so_far =
    let own : IsFlownLeg I P leg.0 = so_far.flown leg refl in
    let here : legs_from I P leg.0 ≡ leg.0 ∷ from_next I P (get_or after leg.0 None) = are.each leg.0 own.within own.flown in
    record {
      legs_are =
          ap (λ (xs : List ℕ). xs ++ from_next I P (get_or after leg.0 None)) (map-append (λ (l : Leg). l.0) legs (leg ∷ []))
          ∙ append_assoc (map (λ (l : Leg). l.0) legs) (leg.0 ∷ []) (from_next I P (get_or after leg.0 None))
          ∙ ap (λ (xs : List ℕ). map (λ (l : Leg). l.0) legs ++ xs) (sym here)
          ∙ so_far.legs_are;
      count = length-append legs (leg ∷ []) ∙ ap (λ (k : ℕ). k + 1) so_far.count;
      within = All-push (λ (l : Leg). l.0 < legs_of I) legs leg so_far.within own.within;
      flown = next-flown I P after leg.0 are;
    }

pub so_far-ends : (I : Situation) (P : PlanRows) (x : ℕ) (legs : List Leg) (next : Option Leg) (n : ℕ) → IsRunSoFar I P x legs next n → map (λ (l : Leg). l.0) legs ≡ run I P x n
so_far-ends I P x legs next n so_far =
    sym (take_at (map (λ (l : Leg). l.0) legs) (from_next I P next) n (length-map legs (λ (l : Leg). l.0) ∙ so_far.count)) ∙ ap (take n) so_far.legs_are

pub all_taken : {X : Type 0} (xs : List X) (n : ℕ) → length xs ≤ n → take n xs ≡ xs
all_taken [] zero h = refl
all_taken [] (suc n) h = refl
all_taken (x ∷ xs) zero h = absurd (omega (arith, h))
all_taken (x ∷ xs) (suc n) h = ap (λ ys. x ∷ ys) (all_taken xs n (omega (arith, h)))

pub so_far-stops : (I : Situation) (P : PlanRows) (x : ℕ) (legs : List Leg) (n k : ℕ) → IsRunSoFar I P x legs None n → n ≤ k → map (λ (l : Leg). l.0) legs ≡ run I P x k
so_far-stops I P x legs n k so_far le =
    let all : map (λ (l : Leg). l.0) legs ≡ legs_from I P x = sym (append-nil (map (λ (l : Leg). l.0) legs)) ∙ so_far.legs_are in
    let long : length (legs_from I P x) ≡ n = ap length (sym all) ∙ length-map legs (λ (l : Leg). l.0) ∙ so_far.count in
    all ∙ sym (all_taken (legs_from I P x) k (omega (arith, long, le)))

-- ---- runs

first_of : (I : Situation) (P : PlanRows) (x k : ℕ) (legs : List Leg) → k ≤ 4 → map (λ (l : Leg). l.0) legs ≡ run I P x 4 → map (λ (l : Leg). l.0) (take k legs) ≡ run I P x k
first_of I P x k legs few are =
    sym (take-map (λ (l : Leg). l.0) k legs) ∙ ap (take k) are ∙ take-take k 4 (legs_from I P x) few

long_of : (I : Situation) (P : PlanRows) (x : ℕ) (legs : List Leg) → map (λ (l : Leg). l.0) legs ≡ run I P x 4 → length legs ≡ min 4 (length (legs_from I P x))
long_of I P x legs are = sym (length-map legs (λ (l : Leg). l.0)) ∙ ap length are ∙ length-take 4 (legs_from I P x)

min_test : (k n m : ℕ) → k ≤ 4 → m ≡ min 4 n → eqb (min k n) k ≡ leb k m
min_test k n m few is = grind (arith, nat_tests)

pub is_run-of : (I : Situation) (P : PlanRows) (x k : ℕ) (legs : List Leg) → k ≤ 4 → map (λ (l : Leg). l.0) legs ≡ run I P x 4 → is_run I P x k ≡ (leb k (length legs) && list_all (λ (l : Leg). not (fixed I l.0)) (take k legs))
unfolding is_run
is_run-of I P x k legs few are =
    let long : eqb (length (run I P x k)) k ≡ leb k (length legs) = ap (λ (n : ℕ). eqb n k) (length-take k (legs_from I P x)) ∙ min_test k (length (legs_from I P x)) (length legs) few (long_of I P x legs are) in
    let all : list_all (λ y. not (fixed I y)) (run I P x k) ≡ list_all (λ (l : Leg). not (fixed I l.0)) (take k legs) =
    ap (list_all (λ y. not (fixed I y))) (sym (first_of I P x k legs few are)) ∙ list_all-map (λ y. not (fixed I y)) (λ (l : Leg). l.0) (take k legs) in
    rw (long, all) refl

-- ---- what comes round

-- the legs from the leg at place k on
record IsEnd (I : Situation) (P : PlanRows) (x k : ℕ) : Type 0 where
  leg : IsFlownLeg I P (get_or (legs_from I P x) k 0)
  rest : drop k (legs_from I P x) ≡ legs_from I P (get_or (legs_from I P x) k 0)

end-step : (I : Situation) (P : PlanRows) (k x : ℕ) (next : Option Leg) → ForSome next (λ l. IsFlownLeg I P l.0) → suc k < length (legs_from I P x) → legs_from I P x ≡ x ∷ from_next I P next → ((y : ℕ) → IsFlownLeg I P y → k < length (legs_from I P y) → IsEnd I P y k) → IsEnd I P x (suc k)
end-step I P k x None flown lt here more = absurd (let one : length (legs_from I P x) ≡ 1 = ap length here in omega (arith, one, lt))
end-step I P k x (Some next) flown lt here more =
    let long : length (legs_from I P x) ≡ suc (length (legs_from I P next.0)) = ap length here in
    let end = more next.0 (flown next refl) (omega (arith, long, lt)) in
    let at : get_or (legs_from I P x) (suc k) 0 ≡ get_or (legs_from I P next.0) k 0 = ap (λ (xs : List ℕ). get_or xs (suc k) 0) here in
    record {
      leg = subst (IsFlownLeg I P) (sym at) end.leg;
      rest = ap (drop (suc k)) here ∙ end.rest ∙ ap (legs_from I P) (sym at);
    }

end-of : (I : Situation) (P : PlanRows) (after : List (Option Leg)) (k x : ℕ) → AreAfter I P after → IsFlownLeg I P x → k < length (legs_from I P x) → IsEnd I P x k
end-of I P after zero x are own lt =
    let here : legs_from I P x ≡ x ∷ from_next I P (get_or after x None) = are.each x own.within own.flown in
    let first : get_or (legs_from I P x) 0 0 ≡ x = ap (λ (xs : List ℕ). get_or xs 0 0) here in
    record { leg = subst (IsFlownLeg I P) (sym first) own; rest = ap (legs_from I P) (sym first) }
end-of I P after (suc k) x are own lt =
    end-step I P k x (get_or after x None) (next-flown I P after x are) lt (are.each x own.within own.flown) (λ y flown more. end-of I P after k y are flown more)

differ : (n k : ℕ) → k < n → eqb n k ≡ false
differ n k h = grind (arith, nat_tests)

-- so many legs are all where the last of them has none after it
last_test : (I : Situation) (P : PlanRows) (next : Option Leg) (n k y : ℕ) (ends : List ℕ) → 1 ≤ k → ForSome next (λ l. (l.0 < legs_of I) × (0 < length (legs_from I P l.0))) → ends ≡ y ∷ from_next I P next → length ends ≡ n - (k - 1) → eqb n k ≡ is_none next
last_test I P None n k y ends some flown is long = let one : length ends ≡ 1 = ap length is in eq-eqb n k (omega (arith, one, long, some))
last_test I P (Some next) n k y ends some flown is long =
    let more : length ends ≡ suc (length (legs_from I P next.0)) = ap length is in
    let full : 0 < length (legs_from I P next.0) = (flown next refl).1 in
    differ n k (omega (arith, more, full, long, some))

last_flown : (I : Situation) (P : PlanRows) (after : List (Option Leg)) (y : ℕ) → AreAfter I P after → ForSome (get_or after y None) (λ l. (l.0 < legs_of I) × (0 < length (legs_from I P l.0)))
last_flown I P after y are = λ next at.
    let own : legs_from I P next.0 ≡ next.0 ∷ from_next I P (get_or after next.0 None) = are.each next.0 (are.within y next at) (are.flown y next at) in
    let long : length (legs_from I P next.0) ≡ suc (length (from_next I P (get_or after next.0 None))) = ap length own in
    (are.within y next at, omega (arith, long))

pub whole_test : (I : Situation) (P : PlanRows) (after : List (Option Leg)) (x k y : ℕ) → AreAfter I P after → IsFlownLeg I P x → 1 ≤ k → k ≤ length (legs_from I P x) → get_or (legs_from I P x) (k - 1) 0 ≡ y → eqb (length (legs_from I P x)) k ≡ is_none (get_or after y None)
whole_test I P after x k y are own some enough at =
    let end = end-of I P after (k - 1) x are own (omega (arith, some, enough)) in
    let last : IsFlownLeg I P y = subst (IsFlownLeg I P) at end.leg in
    let ends : legs_from I P y ≡ y ∷ from_next I P (get_or after y None) = are.each y last.within last.flown in
    let rest : drop (k - 1) (legs_from I P x) ≡ legs_from I P y = end.rest ∙ ap (legs_from I P) at in
    last_test I P (get_or after y None) (length (legs_from I P x)) k y (legs_from I P y) some (last_flown I P after y are) ends
    (ap length (sym rest) ∙ length-drop (k - 1) (legs_from I P x))

-- the last leg of a run
pub last-of : (I : Situation) (P : PlanRows) (x k : ℕ) (legs : List Leg) (d : Leg) → 1 ≤ k → k ≤ 4 → k ≤ length legs → map (λ (l : Leg). l.0) legs ≡ run I P x 4 → get_or (legs_from I P x) (k - 1) 0 ≡ (get_or legs (k - 1) d).0
last-of I P x k legs d some few enough are =
    sym (get_or-take 4 (legs_from I P x) (k - 1) 0 (omega (arith, few, some)))
    ∙ ap (λ (xs : List ℕ). get_or xs (k - 1) 0) (sym are)
    ∙ get_or-map (λ (l : Leg). l.0) legs (k - 1) d 0 (omega (arith, enough, some))

end_is : (I : Situation) (P : PlanRows) (x k : ℕ) → 1 ≤ k → k ≤ length (legs_from I P x) → run_end I P x k ≡ get_or (legs_from I P x) (k - 1) 0
end_is I P x k some enough =
    get_or-take k (legs_from I P x) (k - 1) x (omega (arith, some))
    ∙ get_or_default (legs_from I P x) (k - 1) x 0 (omega (arith, some, enough))

pub comes_round-of : (I : Situation) (P : PlanRows) (after : List (Option Leg)) (x k : ℕ) (legs : List Leg) (last : Leg) → AreAfter I P after → IsFlownLeg I P x → 1 ≤ k → k ≤ 4 → map (λ (l : Leg). l.0) legs ≡ run I P x 4 → is_run I P x k ≡ true → k ≤ length legs → last ≡ get_or legs (k - 1) last
    → comes_round I P x k ≡ ((eqb (leg_at I last.0).dest.0 (leg_at I x).origin.0) || is_none (get_or after last.0 None))
unfolding comes_round
comes_round-of I P after x k legs last are own some few are_legs runs enough at =
    let long = long_of I P x legs are_legs in
    let inside : k ≤ length (legs_from I P x) = omega (arith, long, enough) in
    let place : get_or (legs_from I P x) (k - 1) 0 ≡ last.0 = last-of I P x k legs last some few enough are_legs ∙ ap (λ (l : Leg). l.0) (sym at) in
    let end : run_end I P x k ≡ last.0 = end_is I P x k some inside ∙ place in
    let whole : eqb (length (legs_from I P x)) k ≡ is_none (get_or after last.0 None) = whole_test I P after x k last.0 are own some inside place in
    rw (runs, end, whole) refl

pub no_round : (I : Situation) (P : PlanRows) (x k : ℕ) → is_run I P x k ≡ false → comes_round I P x k ≡ false
unfolding comes_round
no_round I P x k runs = rw runs refl

pub more_than : (k n : ℕ) → n < k → leb k n ≡ false
more_than k n h = grind (arith, nat_tests)

pub run-enough : (I : Situation) (P : PlanRows) (x k : ℕ) (legs : List Leg) → k ≤ 4 → map (λ (l : Leg). l.0) legs ≡ run I P x 4 → is_run I P x k ≡ true → k ≤ length legs
run-enough I P x k legs few are runs =
    leb-true k (length legs) (and_parts (leb k (length legs)) (list_all (λ (l : Leg). not (fixed I l.0)) (take k legs)) (sym (is_run-of I P x k legs few are) ∙ runs)).0

-- the same, of the leg at the last place whatever stands for none there
pub comes_round-at : (I : Situation) (P : PlanRows) (after : List (Option Leg)) (x k : ℕ) (legs : List Leg) (d : Leg) → AreAfter I P after → IsFlownLeg I P x → 1 ≤ k → k ≤ 4 → map (λ (l : Leg). l.0) legs ≡ run I P x 4 → is_run I P x k ≡ true
    → comes_round I P x k ≡ ((eqb (leg_at I (get_or legs (k - 1) d).0).dest.0 (leg_at I x).origin.0) || is_none (get_or after (get_or legs (k - 1) d).0 None))
comes_round-at I P after x k legs d are own some few are_legs runs =
    let enough = run-enough I P x k legs few are_legs runs in
    let last = get_or legs (k - 1) d in
    comes_round-of I P after x k legs last are own some few are_legs runs enough (get_or_default legs (k - 1) d last (omega (arith, some, enough)))

pub apart_test : (a b : ℕ) → (a ≡ b → ⊥) → eqb a b ≡ false
apart_test a b apart = grind (arith, nat_tests)

pub none_test : (o : Option Leg) (r : Bool) → is_some o ≡ not r → r ≡ is_none o
none_test None true h = refl
none_test None false h = absurd (true≢false (sym h))
none_test (Some leg) true h = absurd (true≢false h)
none_test (Some leg) false h = refl
