-- Where passengers may go, and how many of them.
use Rattle.std.proofs.Common.{◌≡◌, ℕ, zero, suc, ◌*◌, ◌^◌, ◌<◌, ◌≤◌, ◌⊎◌, inl, inr, true, ltb, List, [], ◌∷◌, map, reverse, sym, ap, subst, arith}
use Rattle.std.specs.Prelude.{filter}
use Rattle.std.specs.List.{AllPairs, Contains}
use Rattle.std.proofs.Math.Pow.{pow_mono}
use Rattle.std.proofs.Math.Nat.{pow-suc}
use Rattle.std.proofs.lemmas.Bool.{lt-ltb, ltb-true}
use Rattle.std.proofs.lemmas.Nat.{pow_pos}
use Rattle.std.proofs.lemmas.List.{reverse-append}
use Rattle.std.proofs.lemmas.List.Elements.{All-weaker, Contains-append_left, Contains-append_right, Contains-append_cases, filter_passes}
use Rattle.std.proofs.lemmas.List.Kept.{AllPairs-cons, AllPairs-filter}
use Rattle.desk_units.specs.declared.numbers.Leg.{Leg}
use Rattle.desk_units.specs.declared.numbers.Cabin.{Cabin}
use Rattle.desk_data.specs.Situation.{Situation}
use Rattle.desk_data.specs.PlanRows.{PlanRows}
use Rattle.desk_rules.specs.Numbers.{numbers}
use Rattle.desk_data.proofs.PathOrder.{pairs_nil}
use Rattle.near_moves.specs.Routes.{routes}
use Rattle.near_moves.specs.PassengerMoves.{aims, portions}
use Rattle.near_moves.specs.NeighbourhoodWords.{IsPortion, IsAim}
use Rattle.near_moves.proofs.ListLaws.{contains_cases, contains_head, contains_tail, contains_none, contains_filter, filter_contains, All_from_contains}
use Rattle.near_moves.proofs.RouteLaws.{has-routes, routes-has}

-- ---- powers of two

-- the first n powers, the greatest first
abbrev powers : ℕ → List ℕ
powers n = map (λ e. 2 ^ e) (reverse (numbers n))

powers-next : (n : ℕ) → powers (suc n) ≡ 2 ^ n ∷ powers n
powers-next n = ap (map (λ e. 2 ^ e)) (reverse-append (numbers n) (n ∷ []))

power-less : (e n : ℕ) → e < n → 2 ^ e < 2 ^ n
power-less e n lt =
    let more : 2 ^ suc e ≤ 2 ^ n = pow_mono (let le : suc e ≤ n = omega (arith, lt) in le) in
    let twice : 2 ^ suc e ≡ 2 ^ e * 2 = pow-suc 2 e in
    let some : 0 < 2 ^ e = pow_pos e in
    omega (arith, more, twice, some)

powers-each : (n e : ℕ) → e < n → Contains (powers n) (2 ^ e)
powers-each zero e lt = absurd (omega (arith, lt))
powers-each (suc n) e lt =
    let cases : (e < n) ⊎ (n ≡ e) = grind (arith, lt) in
    subst (λ (ks : List ℕ). Contains ks (2 ^ e)) (sym (powers-next n)) (elim cases [
      | inl less ↦ contains_tail (2 ^ n) (2 ^ e) (powers n) (powers-each n e less)
      | inr same ↦ subst (λ (d : ℕ). Contains (2 ^ n ∷ powers n) (2 ^ d)) same (contains_head (2 ^ n) (powers n))
    ])

record IsPowerOf (n k : ℕ) : Type 0 where
  exponent : ℕ
  below : exponent < n
  is : k ≡ 2 ^ exponent

powers-hold : (n k : ℕ) → Contains (powers n) k → IsPowerOf n k
powers-hold zero k has = absurd (contains_none k has)
powers-hold (suc n) k has =
    elim (contains_cases (2 ^ n) k (powers n) (subst (λ (ks : List ℕ). Contains ks k) (powers-next n) has)) [
      | inl same ↦ record { exponent = n; below = omega arith; is = sym same }
      | inr later ↦
          let own = powers-hold n k later in
          let lt = own.below in
          record { exponent = own.exponent; below = omega (arith, lt); is = own.is }
    ]

abbrev Descend : ℕ → ℕ → Type 0
Descend j k = k < j

powers-descend : (n : ℕ) → AllPairs Descend (powers n)
powers-descend zero = pairs_nil Descend
powers-descend (suc n) =
    subst (AllPairs Descend) (sym (powers-next n))
    (AllPairs-cons Descend (2 ^ n) (powers n)
    (All_from_contains (Descend (2 ^ n)) (powers n) (λ k has.
    let own = powers-hold n k has in
    subst (λ (j : ℕ). j < 2 ^ n) (sym own.is) (power-less own.exponent n own.below)))
    (powers-descend n))

-- ---- how many may go

pub portions-hold : (n k : ℕ) → Contains (portions n) k → IsPortion n k
portions-hold n k has =
    elim (contains_cases n k (filter (λ j. ltb j n) (powers 10)) has) [
      | inl same ↦ inl (sym same)
      | inr later ↦
          let parts = filter_contains (λ j. ltb j n) (powers 10) k later in
          let own = powers-hold 10 k parts.0 in
          inr (record { exponent = own.exponent; power = own.is; below = ltb-true k n parts.1 })
    ]

exponent-below : (e : ℕ) → 2 ^ e < 1000 → e < 10
exponent-below e less =
    let cases : (e < 10) ⊎ (10 ≤ e) = grind arith in
    elim cases [
      | inl below ↦ below
      | inr past ↦
          let more : 1024 ≤ 2 ^ e = pow_mono past in
          absurd (omega (arith, more, less))
    ]

pub portions-each : (n k : ℕ) → n ≤ 1000 → IsPortion n k → Contains (portions n) k
portions-each n k most (inl same) = subst (λ (j : ℕ). Contains (portions n) j) (sym same) (contains_head n (filter (λ j. ltb j n) (powers 10)))
portions-each n k most (inr is) =
    let below = is.below in
    let power = is.power in
    let small : 2 ^ is.exponent < 1000 = omega (arith, most, below, power) in
    contains_tail n k (filter (λ j. ltb j n) (powers 10))
    (contains_filter (λ j. ltb j n) (powers 10) k
    (subst (Contains (powers 10)) (sym power) (powers-each 10 is.exponent (exponent-below is.exponent small)))
    (lt-ltb k n below))

pub portions-descend : (n : ℕ) → AllPairs Descend (portions n)
portions-descend n =
    AllPairs-cons Descend n (filter (λ j. ltb j n) (powers 10))
    (All-weaker (λ j. ltb j n ≡ true) (Descend n) (λ j less. ltb-true j n less) (filter (λ j. ltb j n) (powers 10)) (filter_passes (λ j. ltb j n) (powers 10)))
    (AllPairs-filter Descend (λ j. ltb j n) (powers 10) (powers-descend 10))

-- ---- where they may go

pub aims-hold : (I : Situation) (P : PlanRows) (r : ℕ) (path : List (Leg × Cabin)) → Contains (aims I P r) path → IsAim I P r path
unfolding aims
aims-hold I P r path has =
    elim (Contains-append_cases (routes I P r) ([] ∷ []) path has) [
      | inl route ↦ inl (has-routes I P r path route)
      | inr last ↦ elim (contains_cases [] path [] last) [
        | inl same ↦ inr (sym same)
        | inr none ↦ absurd (contains_none path none)
      ]
    ]

pub aims-each : (I : Situation) (P : PlanRows) (r : ℕ) (path : List (Leg × Cabin)) → IsAim I P r path → Contains (aims I P r) path
unfolding aims
aims-each I P r path (inl route) = Contains-append_left (routes I P r) ([] ∷ []) path (routes-has I P r path route)
aims-each I P r path (inr same) =
    Contains-append_right (routes I P r) ([] ∷ []) path (subst (Contains ([] ∷ [])) (sym same) (contains_head {X = List (Leg × Cabin)} [] []))
