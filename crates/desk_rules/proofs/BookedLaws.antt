-- What passengers booked: the highest haul and the highest cabin, and who is aboard a leg.
use Rattle.std.proofs.Common.{◌≡◌, ℕ, zero, suc, ◌<◌, ◌≤◌, inl, inr, Bool, true, ◌&&◌, ltb, eqb, List, [], ◌∷◌, length, refl, sym, ap, ◌∙◌, arith}
use Rattle.std.specs.Prelude.{slice_index_or}
use Rattle.std.specs.List.{AllByRecursion}
use Rattle.std.proofs.lemmas.Bool.{and_from, or_cases, or_left, or_right, cases_Bool, cond-true, cond-false, true≢false, ltb-true, ltb-false, eq-eqb}
use Rattle.std.proofs.lemmas.List.Elements.{All-from_recursion}
use Rattle.desk_units.specs.declared.numbers.Leg.{Leg}
use Rattle.desk_units.specs.declared.numbers.Cabin.{Cabin}
use Rattle.desk_units.specs.declared.numbers.Cabin.TheVariants as cabin
use Rattle.desk_units.specs.declared.numbers.Haul.{Haul}
use Rattle.desk_units.specs.declared.numbers.Haul.TheVariants as haul
use Rattle.desk_units.specs.Ranks.{cabin_rank, haul_rank}
use Rattle.desk_data.specs.Situation.{Situation, leg_at}
use Rattle.desk_data.specs.Paths.{no_pair}
use Rattle.desk_data.specs.Booked.{booked_path, higher_haul, highest_haul, haul_of, higher_cabin, highest_cabin, reference_of}
use Rattle.desk_rules.specs.Passengers.{takes}
use Rattle.desk_rules.specs.Words.{HasLeg, IsHaulIn, IsCabinIn, IsHighestHaul, IsHighestCabin}
use Rattle.desk_data.proofs.BoundLaws.{same_pair-holds}

-- ---- the highest haul

haul_above : (a b : Haul) → (haul_rank a ≤ haul_rank (higher_haul a b)) × (haul_rank b ≤ haul_rank (higher_haul a b))
haul_above a b =
    elim (cases_Bool (ltb (haul_rank a) (haul_rank b))) [
      | inl less ↦
          let is : higher_haul a b ≡ b = cond-true (ltb (haul_rank a) (haul_rank b)) b a less in
          let rank : haul_rank (higher_haul a b) ≡ haul_rank b = ap haul_rank is in
          (omega (arith, rank, ltb-true (haul_rank a) (haul_rank b) less), omega (arith, rank))
      | inr more ↦
          let is : higher_haul a b ≡ a = cond-false (ltb (haul_rank a) (haul_rank b)) b a more in
          let rank : haul_rank (higher_haul a b) ≡ haul_rank a = ap haul_rank is in
          (omega (arith, rank), omega (arith, rank, ltb-false (haul_rank a) (haul_rank b) more))
    ]

no_haul_above : (I : Situation) (path : List (Leg × Cabin)) (h : Haul) → haul_rank (highest_haul I path) ≤ haul_rank h → AllByRecursion (λ pair. haul_rank (leg_at I pair.0.0).haul ≤ haul_rank h) path
unfolding highest_haul
no_haul_above I [] h le = tt
no_haul_above I (pair ∷ path) h le =
    let both = haul_above (leg_at I pair.0.0).haul (highest_haul I path) in
    (omega (arith, le, both.0), no_haul_above I path h (omega (arith, le, both.1)))

lowest_haul : (h : Haul) → higher_haul h haul.D ≡ h
lowest_haul haul.D = refl
lowest_haul haul.C = refl
lowest_haul haul.I = refl

haul_in : (I : Situation) (pair : Leg × Cabin) (path : List (Leg × Cabin)) → IsHaulIn I (pair ∷ path) (highest_haul I (pair ∷ path))
unfolding highest_haul
haul_in I pair [] = record { place = 0; within = omega arith; same = sym (lowest_haul (leg_at I pair.0.0).haul) }
haul_in I pair (next ∷ path) =
    let a = (leg_at I pair.0.0).haul in
    let b = highest_haul I (next ∷ path) in
    let rest = haul_in I next path in
    elim (cases_Bool (ltb (haul_rank a) (haul_rank b))) [
      | inl less ↦ record { place = suc rest.place; within = omega (arith, rest.within); same = rest.same ∙ sym (cond-true (ltb (haul_rank a) (haul_rank b)) b a less) }
      | inr more ↦ record { place = 0; within = omega arith; same = sym (cond-false (ltb (haul_rank a) (haul_rank b)) b a more) }
    ]

highest_haul-holds : (I : Situation) (path : List (Leg × Cabin)) → (path ≡ [] → ⊥) → IsHighestHaul I path (highest_haul I path)
highest_haul-holds I [] some = absurd (some refl)
highest_haul-holds I (pair ∷ path) some = record {
  one = haul_in I pair path;
  highest = All-from_recursion (λ one. haul_rank (leg_at I one.0.0).haul ≤ haul_rank (highest_haul I (pair ∷ path))) (pair ∷ path)
      (no_haul_above I (pair ∷ path) (highest_haul I (pair ∷ path)) (omega arith));
}

pub haul_of-holds : (I : Situation) (r : ℕ) → (booked_path I r ≡ [] → ⊥) → IsHighestHaul I (booked_path I r) (haul_of I r)
unfolding haul_of
haul_of-holds I r some = highest_haul-holds I (booked_path I r) some

-- ---- the highest cabin

cabin_above : (a b : Cabin) → (cabin_rank (higher_cabin a b) ≤ cabin_rank a) × (cabin_rank (higher_cabin a b) ≤ cabin_rank b)
cabin_above a b =
    elim (cases_Bool (ltb (cabin_rank b) (cabin_rank a))) [
      | inl less ↦
          let is : higher_cabin a b ≡ b = cond-true (ltb (cabin_rank b) (cabin_rank a)) b a less in
          let rank : cabin_rank (higher_cabin a b) ≡ cabin_rank b = ap cabin_rank is in
          (omega (arith, rank, ltb-true (cabin_rank b) (cabin_rank a) less), omega (arith, rank))
      | inr more ↦
          let is : higher_cabin a b ≡ a = cond-false (ltb (cabin_rank b) (cabin_rank a)) b a more in
          let rank : cabin_rank (higher_cabin a b) ≡ cabin_rank a = ap cabin_rank is in
          (omega (arith, rank), omega (arith, rank, ltb-false (cabin_rank b) (cabin_rank a) more))
    ]

no_cabin_above : (path : List (Leg × Cabin)) (c : Cabin) → cabin_rank c ≤ cabin_rank (highest_cabin path) → AllByRecursion (λ pair. cabin_rank c ≤ cabin_rank pair.1) path
unfolding highest_cabin
no_cabin_above [] c le = tt
no_cabin_above (pair ∷ path) c le =
    let both = cabin_above pair.1 (highest_cabin path) in
    (omega (arith, le, both.0), no_cabin_above path c (omega (arith, le, both.1)))

lowest_cabin : (c : Cabin) → higher_cabin c cabin.E ≡ c
lowest_cabin cabin.F = refl
lowest_cabin cabin.B = refl
lowest_cabin cabin.E = refl

cabin_in : (pair : Leg × Cabin) (path : List (Leg × Cabin)) → IsCabinIn (pair ∷ path) (highest_cabin (pair ∷ path))
unfolding highest_cabin
cabin_in pair [] = record { place = 0; within = omega arith; same = sym (lowest_cabin pair.1) }
cabin_in pair (next ∷ path) =
    let a = pair.1 in
    let b = highest_cabin (next ∷ path) in
    let rest = cabin_in next path in
    elim (cases_Bool (ltb (cabin_rank b) (cabin_rank a))) [
      | inl less ↦ record { place = suc rest.place; within = omega (arith, rest.within); same = rest.same ∙ sym (cond-true (ltb (cabin_rank b) (cabin_rank a)) b a less) }
      | inr more ↦ record { place = 0; within = omega arith; same = sym (cond-false (ltb (cabin_rank b) (cabin_rank a)) b a more) }
    ]

highest_cabin-holds : (path : List (Leg × Cabin)) → (path ≡ [] → ⊥) → IsHighestCabin path (highest_cabin path)
highest_cabin-holds [] some = absurd (some refl)
highest_cabin-holds (pair ∷ path) some = record {
  one = cabin_in pair path;
  highest = All-from_recursion (λ one. cabin_rank (highest_cabin (pair ∷ path)) ≤ cabin_rank one.1) (pair ∷ path)
      (no_cabin_above (pair ∷ path) (highest_cabin (pair ∷ path)) (omega arith));
}

pub reference_of-holds : (I : Situation) (r : ℕ) → (booked_path I r ≡ [] → ⊥) → IsHighestCabin (booked_path I r) (reference_of I r)
unfolding reference_of
reference_of-holds I r some = highest_cabin-holds (booked_path I r) some

-- ---- who is aboard

-- whether a pair is leg x in cabin c
abbrev is_pair : ℕ → Cabin → Leg × Cabin → Bool
is_pair x c pair = eqb pair.0.0 x && eqb (cabin_rank pair.1) (cabin_rank c)

pub takes-holds : (x : ℕ) (c : Cabin) (path : List (Leg × Cabin)) → takes x c path ≡ true → HasLeg path x c
takes-holds x c [] h = absurd (true≢false (sym h))
takes-holds x c (pair ∷ path) h =
    elim (or_cases (is_pair x c pair) (takes x c path) h) [
      | inl here ↦ record { place = 0; within = omega arith; pair = same_pair-holds pair (record { 0 = x }, c) here }
      | inr later ↦ let rest = takes-holds x c path later in record { place = suc rest.place; within = omega (arith, rest.within); pair = rest.pair }
    ]

takes_at : (x : ℕ) (c : Cabin) (path : List (Leg × Cabin)) (i : ℕ) → i < length path → slice_index_or path i no_pair ≡ (record { 0 = x }, c) → takes x c path ≡ true
takes_at x c [] i lt is = absurd (omega arith)
takes_at x c (pair ∷ path) zero lt is =
    or_left (is_pair x c pair) (takes x c path)
    (and_from (eqb pair.0.0 x) (eqb (cabin_rank pair.1) (cabin_rank c))
    (eq-eqb pair.0.0 x (ap (λ (p : Leg × Cabin). p.0.0) is))
    (eq-eqb (cabin_rank pair.1) (cabin_rank c) (ap (λ (p : Leg × Cabin). cabin_rank p.1) is)))
takes_at x c (pair ∷ path) (suc i) lt is = or_right (is_pair x c pair) (takes x c path) (takes_at x c path i (omega arith) is)

pub takes-from : (x : ℕ) (c : Cabin) (path : List (Leg × Cabin)) → HasLeg path x c → takes x c path ≡ true
takes-from x c path h = takes_at x c path h.place h.within h.pair
