-- Legs that are exchanged in vain.
use Rattle.std.proofs.Common.{◌≡◌, ℕ, ◌+◌, ◌<◌, ◌≤◌, inl, inr, Bool, true, false, eqb, leb, ltb, not, List, [], ◌∷◌, ◌++◌, refl, sym, ap, subst, ◌∙◌, arith}
use Rattle.std.specs.Prelude.{◌≢◌, filter}
use Rattle.std.specs.List.{All, AllPairs, Contains, list_all}
use Rattle.std.proofs.lemmas.Bool.{true≢false, cases_Bool, cases_eq, cases_lt, eq-eqb, ne_eqb, ltb-true, leb-true, le-leb, lt-ltb, not-true, not_from_false}
use Rattle.std.proofs.lemmas.List.Elements.{All-contains, Contains-append_left, Contains-append_right, Contains-append_cases}
use Rattle.std.proofs.lemmas.List.Kept.{AllPairs-filter}
use Rattle.plan_moves.specs.declared.moves.Move.{Move}
use Rattle.plan_moves.specs.declared.moves.Step.{Step}
use Rattle.plan_moves.specs.declared.moves.Step.TheVariants.{Swap}
use Rattle.desk_data.specs.declared.row.Row.{Row}
use Rattle.desk_data.specs.declared.row.Row.TheVariants.{Flown, Cancelled}
use Rattle.desk_data.specs.Situation.{Situation, plane_at}
use Rattle.desk_data.specs.PlanRows.{PlanRows, row_at}
use Rattle.desk_rules.specs.Rotations.{departure, dep}
use Rattle.desk_rules.specs.Maintenance.{flies, is_flown_by}
use Rattle.desk_rules.specs.Words.{Precedes}
use Rattle.desk_rules.proofs.MaintenanceLaws.{dep-is}
use Rattle.desk_rules.proofs.LeastLaws.{feasible-holds}
use Rattle.desk_model.specs.Push.{rotation}
use Rattle.desk_model.specs.Swap.{other_plane, row_after_swap, after_swap}
use Rattle.desk_model.specs.Steps.{after_step, after_steps}
use Rattle.desk_data.proofs.PathOrder.{pairs_head, pairs_tail}
use Rattle.desk_model.proofs.SwapLaws.{after_swap-row}
use Rattle.desk_model.proofs.RotationOrder.{precedes-itself, rotation-ordered, rotation-each}
use Rattle.near_moves.specs.MoveParts.{plane, minute}
use Rattle.near_moves.specs.Descent.{is_better}
use Rattle.near_moves.proofs.ListLaws.{contains_filter, filter_contains}
use Rattle.near_moves.specs.Chains.{from_airport, to_airport, is_same, tally, led, stand, stand_before, keeps_aircraft, IsSwappedInVain}
use Rattle.near_moves.proofs.TallyLaws.{AreApart, AreAmong, apart-ordered, tally-append, tally-same}
use Rattle.near_moves.proofs.ChainLaws.{IsChain, KeepsC5, chain-tally, chain-front, chain-back, led-append, rotation-apart, in-rotation, rotation-chain}
use Rattle.near_moves.proofs.KeptLaws.{broken-worse, kept-flies}
use Rattle.near_moves.proofs.HandLaws.{apart-join, drop_all, keep_all, same-yes, same-no}

-- ---- legs before a moment and from it on

abbrev early : PlanRows → ℕ → ℕ → Bool
early P at x = ltb (dep P x) at

abbrev late : PlanRows → ℕ → ℕ → Bool
late P at x = not (ltb (dep P x) at)

precedes-dep : (P : PlanRows) (x y : ℕ) → Precedes P x y → dep P x ≤ dep P y
precedes-dep P x y before =
    let one : dep P x ≡ before.dep = dep-is P before.plane x before.dep before.first in
    let two : dep P y ≡ before.later = dep-is P before.plane y before.later before.second in
    elim before.order [
      | inl less ↦ omega (arith, one, two, less)
      | inr same ↦ (let e = same.0 in omega (arith, one, two, e))
    ]

-- a leg that is late is followed by late ones
behind_late : (P : PlanRows) (at x : ℕ) (xs : List ℕ) → ltb (dep P x) at ≡ false → All (Precedes P x) xs → (z : ℕ) → Contains xs z → ltb (dep P z) at ≡ false
behind_late P at x xs is after z has =
    let less : dep P x ≤ dep P z = precedes-dep P x z (All-contains (Precedes P x) xs z after has) in
    elim (cases_Bool (ltb (dep P z) at)) [
      | inr fails ↦ fails
      | inl sooner ↦
          let l : dep P z < at = ltb-true (dep P z) at sooner in
          let m : dep P x < at = omega (arith, less, l) in
          absurd (true≢false (sym (lt-ltb (dep P x) at m) ∙ is))
    ]

split-sorted : (P : PlanRows) (at : ℕ) (xs : List ℕ) → AllPairs (Precedes P) xs → xs ≡ filter (early P at) xs ++ filter (late P at) xs
split-sorted P at [] pairs = refl
split-sorted P at (x ∷ xs) pairs =
    elim (cases_Bool (ltb (dep P x) at)) [
      | inl sooner ↦ rw sooner (ap (λ (zs : List ℕ). x ∷ zs) (split-sorted P at xs (pairs_tail (Precedes P) x xs pairs)))
      | inr later ↦
          let rest = behind_late P at x xs later (pairs_head (Precedes P) x xs pairs) in
          let none : filter (early P at) xs ≡ [] = drop_all (early P at) xs rest in
          let all : filter (late P at) xs ≡ xs = keep_all (late P at) xs (λ z has. not_from_false (ltb (dep P z) at) (rest z has)) in
          rw (later, none, all) refl
    ]

filter-apart : (I : Situation) (P : PlanRows) (p : ℕ) (t : ℕ → Bool) → AreApart (filter t (rotation I P p))
filter-apart I P p t = apart-ordered (Precedes P) (precedes-itself P) (filter t (rotation I P p)) (AllPairs-filter (Precedes P) t (rotation I P p) (rotation-ordered I P p))

-- ---- an aircraft with its early legs and the late legs of another

-- in plan Q aircraft u flies its legs of P before the moment, and from then on those of aircraft v
record TakesOver (P Q : PlanRows) (u v at : ℕ) : Type 0 where
  stays : (z : ℕ) → ltb (dep P z) at ≡ true → flies Q u z ≡ flies P u z
  takes : (z : ℕ) → ltb (dep P z) at ≡ false → flies Q u z ≡ flies P v z

module _ (I : Situation) (P Q : PlanRows) (u v at : ℕ) (h : TakesOver P Q u v at) where
  abbrev first : List ℕ
  first = filter (early P at) (rotation I P u)

  abbrev last : List ℕ
  last = filter (late P at) (rotation I P v)

  taken_among : AreAmong (rotation I Q u) (first ++ last)
  taken_among z has =
      let own = in-rotation I Q u z has in
      elim (cases_Bool (ltb (dep P z) at)) [
        | inl sooner ↦ Contains-append_left first last z (contains_filter (early P at) (rotation I P u) z (rotation-each I P u z own.0 (sym (h.stays z sooner) ∙ own.1)) sooner)
        | inr later ↦ Contains-append_right first last z (contains_filter (late P at) (rotation I P v) z (rotation-each I P v z own.0 (sym (h.takes z later) ∙ own.1)) (not_from_false (ltb (dep P z) at) later))
      ]

  among_taken : AreAmong (first ++ last) (rotation I Q u)
  among_taken z has =
      elim (Contains-append_cases first last z has) [
        | inl front ↦
            let parts = filter_contains (early P at) (rotation I P u) z front in
            let own = in-rotation I P u z parts.0 in
            rotation-each I Q u z own.0 (h.stays z parts.1 ∙ own.1)
        | inr back ↦
            let parts = filter_contains (late P at) (rotation I P v) z back in
            let own = in-rotation I P v z parts.0 in
            rotation-each I Q u z own.0 (h.takes z (not-true (ltb (dep P z) at) parts.1) ∙ own.1)
      ]

  taken_apart : AreApart (first ++ last)
  taken_apart =
      apart-join first last (filter-apart I P u (early P at)) (filter-apart I P v (late P at))
      (λ z front back.
      let one = (filter_contains (early P at) (rotation I P u) z front).1 in
      let two = not-true (ltb (dep P z) at) (filter_contains (late P at) (rotation I P v) z back).1 in
      true≢false (sym one ∙ two))

  taken_tally : (f : ℕ → ℕ) (a : ℕ) → tally f a (rotation I Q u) ≡ tally f a first + tally f a last
  taken_tally f a = tally-same f a (rotation I Q u) (first ++ last) (rotation-apart I Q u) taken_apart taken_among among_taken ∙ tally-append f a first last

  cannot_take : KeepsC5 I P → KeepsC5 I Q → (plane_at I u).surface ≡ false → (plane_at I v).surface ≡ false → stand_before I P u at ≢ stand_before I P v at → stand_before I P v at ≢ stand I P v → ⊥
  cannot_take keeps will air other_air apart on =
      let c = stand_before I P v at in
      let a0 = (plane_at I u).origin.0 in
      let b0 = (plane_at I v).origin.0 in
      let front = filter (early P at) (rotation I P v) in
      let own : IsChain I a0 (first ++ filter (late P at) (rotation I P u)) = subst (IsChain I a0) (split-sorted P at (rotation I P u) (rotation-ordered I P u)) (rotation-chain I P u keeps air) in
      let others : IsChain I b0 (front ++ last) = subst (IsChain I b0) (split-sorted P at (rotation I P v) (rotation-ordered I P v)) (rotation-chain I P v keeps other_air) in
      let one = chain-tally I a0 c first (chain-front I a0 first (filter (late P at) (rotation I P u)) own) in
      let two = chain-tally I c c last (chain-back I b0 front last others) in
      let all = chain-tally I a0 c (rotation I Q u) (rotation-chain I Q u will air) in
      let from = taken_tally (from_airport I) c in
      let to = taken_tally (to_airport I) c in
      let ends_so : stand I P v ≡ led I c last = ap (led I b0) (split-sorted P at (rotation I P v) (rotation-ordered I P v)) ∙ led-append I b0 front last in
      let no_start : is_same (led I a0 first) c ≡ 0 = same-no (led I a0 first) c apart in
      let no_end : is_same (led I c last) c ≡ 0 = same-no (led I c last) c (λ same. on (sym (ends_so ∙ same))) in
      let begins : is_same c c ≡ 1 = same-yes c in
      omega (arith, one, two, all, from, to, no_start, no_end, begins)

-- ---- the exchange

row_stays : (p q at u : ℕ) (row : Row) → ltb (departure row) at ≡ true → is_flown_by u (row_after_swap p q at row) ≡ is_flown_by u row
row_stays p q at u Cancelled sooner = refl
row_stays p q at u (Flown plane d) sooner =
    let less : d.0 < at = ltb-true d.0 at sooner in
    elim (cases_Bool (leb at d.0)) [
      | inr fails ↦ rw fails refl
      | inl no_less ↦ absurd (let l = leb-true at d.0 no_less in omega (arith, l, less))
    ]

other_first : (p q n : ℕ) → p ≢ q → eqb (other_plane p q n) p ≡ eqb n q
other_first p q n apart =
    elim (cases_eq n p) [
      | inl same ↦ rw (eq-eqb n p same, ne_eqb q p (λ e. apart (sym e)), ne_eqb n q (λ e. apart (sym same ∙ e))) refl
      | inr other ↦ elim (cases_eq n q) [
        | inl same ↦ rw (ne_eqb n p other, eq-eqb n q same) (eq-eqb p p refl)
        | inr third ↦ rw (ne_eqb n p other, ne_eqb n q third) (ne_eqb n p other)
      ]
    ]

other_second : (p q n : ℕ) → p ≢ q → eqb (other_plane p q n) q ≡ eqb n p
other_second p q n apart =
    elim (cases_eq n p) [
      | inl same ↦ rw (eq-eqb n p same) (eq-eqb q q refl)
      | inr other ↦ elim (cases_eq n q) [
        | inl same ↦ rw (ne_eqb n p other, eq-eqb n q same) (ne_eqb p q apart)
        | inr third ↦ rw (ne_eqb n p other, ne_eqb n q third) (ne_eqb n q third)
      ]
    ]

goes_on : (at d : ℕ) → ltb d at ≡ false → leb at d ≡ true
goes_on at d later =
    elim (cases_lt d at) [
      | inl less ↦ absurd (true≢false (sym (lt-ltb d at less) ∙ later))
      | inr no_less ↦ le-leb at d no_less
    ]

row_goes_first : (p q at : ℕ) (row : Row) → p ≢ q → ltb (departure row) at ≡ false → is_flown_by p (row_after_swap p q at row) ≡ is_flown_by q row
row_goes_first p q at Cancelled apart later = refl
row_goes_first p q at (Flown plane d) apart later = rw (goes_on at d.0 later) (other_first p q plane.0 apart)

row_goes_second : (p q at : ℕ) (row : Row) → p ≢ q → ltb (departure row) at ≡ false → is_flown_by q (row_after_swap p q at row) ≡ is_flown_by p row
row_goes_second p q at Cancelled apart later = refl
row_goes_second p q at (Flown plane d) apart later = rw (goes_on at d.0 later) (other_second p q plane.0 apart)

-- the plan once they are exchanged, and other steps that leave legs to their aircraft are done
abbrev exchanged : Situation → PlanRows → ℕ → ℕ → ℕ → List Step → PlanRows
exchanged I P p q at others = after_steps I P (Swap (plane p) (plane q) (minute at) ∷ others)

swapped-flies : (I : Situation) (P : PlanRows) (p q at : ℕ) (others : List Step) (u z : ℕ) → list_all keeps_aircraft others ≡ true → flies (exchanged I P p q at others) u z ≡ is_flown_by u (row_after_swap p q at (row_at P z))
unfolding after_step
swapped-flies I P p q at others u z keeps = kept-flies I (after_swap P p q at) others u z keeps ∙ ap (is_flown_by u) (after_swap-row P p q at z)

takes_first : (I : Situation) (P : PlanRows) (p q at : ℕ) (others : List Step) → list_all keeps_aircraft others ≡ true → p ≢ q → TakesOver P (exchanged I P p q at others) p q at
takes_first I P p q at others keeps apart = record {
  stays = λ z sooner. swapped-flies I P p q at others p z keeps ∙ row_stays p q at p (row_at P z) sooner;
  takes = λ z later. swapped-flies I P p q at others p z keeps ∙ row_goes_first p q at (row_at P z) apart later;
}

takes_second : (I : Situation) (P : PlanRows) (p q at : ℕ) (others : List Step) → list_all keeps_aircraft others ≡ true → p ≢ q → TakesOver P (exchanged I P p q at others) q p at
takes_second I P p q at others keeps apart = record {
  stays = λ z sooner. swapped-flies I P p q at others q z keeps ∙ row_stays p q at q (row_at P z) sooner;
  takes = λ z later. swapped-flies I P p q at others q z keeps ∙ row_goes_second p q at (row_at P z) apart later;
}

pub swapped_in_vain : (I : Situation) (P : PlanRows) (m : Move) (p q at : ℕ) (others : List Step) → m.steps ≡ Swap (plane p) (plane q) (minute at) ∷ others → list_all keeps_aircraft others ≡ true → IsSwappedInVain I P p q at → is_better I P m ≡ false
swapped_in_vain I P m p q at others is keeps h =
    broken-worse I P m (Swap (plane p) (plane q) (minute at) ∷ others) is
    (λ feasible.
    let Q = exchanged I P p q at others in
    let own = (feasible-holds I P h.feasible).c5 in
    let will = (feasible-holds I Q feasible).c5 in
    elim h.leads_on [
      | inl on ↦ cannot_take I P Q q p at (takes_second I P p q at others keeps h.other) own will h.other_air h.air (λ same. h.apart (sym same)) on
      | inr on ↦ cannot_take I P Q p q at (takes_first I P p q at others keeps h.other) own will h.air h.other_air h.apart on
    ])
