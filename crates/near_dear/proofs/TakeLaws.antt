-- Who flies which leg once two aircraft have exchanged legs: each its own until the moment, and then those of the other.
use Rattle.std.proofs.Common.{◌≡◌, ◌≢◌, ℕ, ◌+◌, ◌<◌, ◌≤◌, inl, inr, Bool, true, false, eqb, leb, ltb, not, List, [], ◌∷◌, ◌++◌, refl, sym, ap, ◌∙◌, arith}
use Rattle.std.specs.Prelude.{filter}
use Rattle.std.specs.List.{All, AllPairs, Contains, list_all}
use Rattle.std.proofs.lemmas.Bool.{true≢false, cases_Bool, cases_eq, cases_lt, eq-eqb, ne_eqb, ltb-true, leb-true, le-leb, lt-ltb, not-true, not_from_false, and_parts}
use Rattle.std.proofs.lemmas.List.Elements.{All-contains, Contains-append_left, Contains-append_right, Contains-append_cases}
use Rattle.std.proofs.lemmas.List.Kept.{AllPairs-filter}
use Rattle.plan_moves.specs.declared.moves.Step.{Step}
use Rattle.plan_moves.specs.declared.moves.Step.TheVariants.{Set, Push, Swap, Rebook, Tidy, Refill}
use Rattle.desk_data.specs.declared.row.Row.{Row}
use Rattle.desk_data.specs.declared.row.Row.TheVariants.{Flown, Cancelled}
use Rattle.desk_data.specs.Situation.{Situation}
use Rattle.desk_data.specs.PlanRows.{PlanRows, row_at}
use Rattle.desk_rules.specs.Rotations.{departure, dep}
use Rattle.desk_rules.specs.Maintenance.{flies, is_flown_by}
use Rattle.desk_rules.specs.Words.{Precedes}
use Rattle.desk_rules.proofs.MaintenanceLaws.{dep-is}
use Rattle.desk_model.specs.Push.{rotation}
use Rattle.desk_model.specs.Swap.{other_plane, row_after_swap, after_swap}
use Rattle.desk_model.specs.Steps.{after_step}
use Rattle.desk_data.proofs.PathOrder.{pairs_head, pairs_tail}
use Rattle.desk_model.proofs.SwapLaws.{after_swap-row}
use Rattle.desk_model.proofs.RotationOrder.{precedes-itself, rotation-ordered, rotation-each}
use Rattle.near_moves.specs.MoveParts.{plane}
use Rattle.near_moves.proofs.ListLaws.{contains_filter, filter_contains}
use Rattle.near_moves.specs.Chains.{tally, keeps_aircraft}
use Rattle.near_moves.proofs.TallyLaws.{AreApart, AreAmong, apart-ordered, tally-append, tally-same}
use Rattle.near_moves.proofs.ChainLaws.{rotation-apart, in-rotation}
use Rattle.near_moves.proofs.KeptLaws.{kept-flies}
use Rattle.near_moves.proofs.HandLaws.{apart-join, drop_all, keep_all}
use Rattle.near_dear.specs.Moves.{pushes_either, exchanged}

-- ---- legs before a moment and from it on

abbrev pub early : PlanRows → ℕ → ℕ → Bool
early P at x = ltb (dep P x) at

abbrev pub late : PlanRows → ℕ → ℕ → Bool
late P at x = not (ltb (dep P x) at)

precedes-dep : (P : PlanRows) (x y : ℕ) → Precedes P x y → dep P x ≤ dep P y
precedes-dep P x y before =
    let one : dep P x ≡ before.dep = dep-is P before.plane x before.dep before.first in
    let two : dep P y ≡ before.later = dep-is P before.plane y before.later before.second in
    elim before.order [
      | inl less ↦ omega (arith, one, two, less)
      | inr same ↦ (let e = same.0 in omega (arith, one, two, e))
    ]

-- a leg that is late is followed by late ones
behind_late : (P : PlanRows) (at x : ℕ) (xs : List ℕ) → ltb (dep P x) at ≡ false → All (Precedes P x) xs → (z : ℕ) → Contains xs z → ltb (dep P z) at ≡ false
behind_late P at x xs is after z has =
    let less : dep P x ≤ dep P z = precedes-dep P x z (All-contains (Precedes P x) xs z after has) in
    elim (cases_Bool (ltb (dep P z) at)) [
      | inr fails ↦ fails
      | inl sooner ↦
          let l : dep P z < at = ltb-true (dep P z) at sooner in
          let m : dep P x < at = omega (arith, less, l) in
          absurd (true≢false (sym (lt-ltb (dep P x) at m) ∙ is))
    ]

pub split-sorted : (P : PlanRows) (at : ℕ) (xs : List ℕ) → AllPairs (Precedes P) xs → xs ≡ filter (early P at) xs ++ filter (late P at) xs
split-sorted P at [] pairs = refl
split-sorted P at (x ∷ xs) pairs =
    elim (cases_Bool (ltb (dep P x) at)) [
      | inl sooner ↦ rw sooner (ap (λ (zs : List ℕ). x ∷ zs) (split-sorted P at xs (pairs_tail (Precedes P) x xs pairs)))
      | inr later ↦
          let rest = behind_late P at x xs later (pairs_head (Precedes P) x xs pairs) in
          let none : filter (early P at) xs ≡ [] = drop_all (early P at) xs rest in
          let all : filter (late P at) xs ≡ xs = keep_all (late P at) xs (λ z has. not_from_false (ltb (dep P z) at) (rest z has)) in
          rw (later, none, all) refl
    ]

pub filter-apart : (I : Situation) (P : PlanRows) (p : ℕ) (t : ℕ → Bool) → AreApart (filter t (rotation I P p))
filter-apart I P p t = apart-ordered (Precedes P) (precedes-itself P) (filter t (rotation I P p)) (AllPairs-filter (Precedes P) t (rotation I P p) (rotation-ordered I P p))

-- ---- an aircraft with its early legs and the late legs of another

-- in plan Q aircraft u flies its legs of P before the moment, and from then on those of aircraft v
pub record TakesOver (P Q : PlanRows) (u v at : ℕ) : Type 0 where
  pub stays : (z : ℕ) → ltb (dep P z) at ≡ true → flies Q u z ≡ flies P u z
  pub takes : (z : ℕ) → ltb (dep P z) at ≡ false → flies Q u z ≡ flies P v z

module _ (I : Situation) (P Q : PlanRows) (u v at : ℕ) (h : TakesOver P Q u v at) where
  abbrev pub first : List ℕ
  first = filter (early P at) (rotation I P u)

  abbrev pub last : List ℕ
  last = filter (late P at) (rotation I P v)

  taken_among : AreAmong (rotation I Q u) (first ++ last)
  taken_among z has =
      let own = in-rotation I Q u z has in
      elim (cases_Bool (ltb (dep P z) at)) [
        | inl sooner ↦ Contains-append_left first last z (contains_filter (early P at) (rotation I P u) z (rotation-each I P u z own.0 (sym (h.stays z sooner) ∙ own.1)) sooner)
        | inr later ↦ Contains-append_right first last z (contains_filter (late P at) (rotation I P v) z (rotation-each I P v z own.0 (sym (h.takes z later) ∙ own.1)) (not_from_false (ltb (dep P z) at) later))
      ]

  among_taken : AreAmong (first ++ last) (rotation I Q u)
  among_taken z has =
      elim (Contains-append_cases first last z has) [
        | inl front ↦
            let parts = filter_contains (early P at) (rotation I P u) z front in
            let own = in-rotation I P u z parts.0 in
            rotation-each I Q u z own.0 (h.stays z parts.1 ∙ own.1)
        | inr back ↦
            let parts = filter_contains (late P at) (rotation I P v) z back in
            let own = in-rotation I P v z parts.0 in
            rotation-each I Q u z own.0 (h.takes z (not-true (ltb (dep P z) at) parts.1) ∙ own.1)
      ]

  taken_apart : AreApart (first ++ last)
  taken_apart =
      apart-join first last (filter-apart I P u (early P at)) (filter-apart I P v (late P at))
      (λ z front back.
      let one = (filter_contains (early P at) (rotation I P u) z front).1 in
      let two = not-true (ltb (dep P z) at) (filter_contains (late P at) (rotation I P v) z back).1 in
      true≢false (sym one ∙ two))

  pub taken-tally : (f : ℕ → ℕ) (a : ℕ) → tally f a (rotation I Q u) ≡ tally f a first + tally f a last
  taken-tally f a = tally-same f a (rotation I Q u) (first ++ last) (rotation-apart I Q u) taken_apart taken_among among_taken ∙ tally-append f a first last

-- ---- the exchange

row_stays : (p q at u : ℕ) (row : Row) → ltb (departure row) at ≡ true → is_flown_by u (row_after_swap p q at row) ≡ is_flown_by u row
row_stays p q at u Cancelled sooner = refl
row_stays p q at u (Flown plane d) sooner =
    let less : d.0 < at = ltb-true d.0 at sooner in
    elim (cases_Bool (leb at d.0)) [
      | inr fails ↦ rw fails refl
      | inl no_less ↦ absurd (let l = leb-true at d.0 no_less in omega (arith, l, less))
    ]

other_first : (p q n : ℕ) → p ≢ q → eqb (other_plane p q n) p ≡ eqb n q
other_first p q n apart =
    elim (cases_eq n p) [
      | inl same ↦ rw (eq-eqb n p same, ne_eqb q p (λ e. apart (sym e)), ne_eqb n q (λ e. apart (sym same ∙ e))) refl
      | inr other ↦ elim (cases_eq n q) [
        | inl same ↦ rw (ne_eqb n p other, eq-eqb n q same) (eq-eqb p p refl)
        | inr third ↦ rw (ne_eqb n p other, ne_eqb n q third) (ne_eqb n p other)
      ]
    ]

other_second : (p q n : ℕ) → p ≢ q → eqb (other_plane p q n) q ≡ eqb n p
other_second p q n apart =
    elim (cases_eq n p) [
      | inl same ↦ rw (eq-eqb n p same) (eq-eqb q q refl)
      | inr other ↦ elim (cases_eq n q) [
        | inl same ↦ rw (ne_eqb n p other, eq-eqb n q same) (ne_eqb p q apart)
        | inr third ↦ rw (ne_eqb n p other, ne_eqb n q third) (ne_eqb n q third)
      ]
    ]

pub goes-on : (at d : ℕ) → ltb d at ≡ false → leb at d ≡ true
goes-on at d later =
    elim (cases_lt d at) [
      | inl less ↦ absurd (true≢false (sym (lt-ltb d at less) ∙ later))
      | inr no_less ↦ le-leb at d no_less
    ]

pub stays-soon : (at d : ℕ) → ltb d at ≡ true → leb at d ≡ false
stays-soon at d sooner =
    let less : d < at = ltb-true d at sooner in
    elim (cases_Bool (leb at d)) [
      | inr fails ↦ fails
      | inl no_less ↦ absurd (let l = leb-true at d no_less in omega (arith, l, less))
    ]

row_goes_first : (p q at : ℕ) (row : Row) → p ≢ q → ltb (departure row) at ≡ false → is_flown_by p (row_after_swap p q at row) ≡ is_flown_by q row
row_goes_first p q at Cancelled apart later = refl
row_goes_first p q at (Flown plane d) apart later = rw (goes-on at d.0 later) (other_first p q plane.0 apart)

row_goes_second : (p q at : ℕ) (row : Row) → p ≢ q → ltb (departure row) at ≡ false → is_flown_by q (row_after_swap p q at row) ≡ is_flown_by p row
row_goes_second p q at Cancelled apart later = refl
row_goes_second p q at (Flown plane d) apart later = rw (goes-on at d.0 later) (other_second p q plane.0 apart)

pushes-keep : (p q : ℕ) (pushes : List Step) → list_all (pushes_either p q) pushes ≡ true → list_all keeps_aircraft pushes ≡ true
pushes-keep p q [] all = refl
pushes-keep p q (Set leg was new ∷ pushes) all = absurd cc
pushes-keep p q (Push plane after ∷ pushes) all = pushes-keep p q pushes (and_parts (pushes_either p q (Push plane after)) (list_all (pushes_either p q) pushes) all).1
pushes-keep p q (Swap first second at ∷ pushes) all = absurd cc
pushes-keep p q (Rebook res path to count ∷ pushes) all = absurd cc
pushes-keep p q (Tidy ∷ pushes) all = absurd cc
pushes-keep p q (Refill leg ∷ pushes) all = absurd cc

-- who flies leg z in the plan that is made
pub exchanged-flies : (I : Situation) (P : PlanRows) (p q at : ℕ) (pushes : List Step) (u z : ℕ) → list_all (pushes_either p q) pushes ≡ true → flies (exchanged I P p q at pushes) u z ≡ is_flown_by u (row_after_swap p q at (row_at P z))
unfolding after_step
exchanged-flies I P p q at pushes u z all = kept-flies I (after_swap P p q at) pushes u z (pushes-keep p q pushes all) ∙ ap (is_flown_by u) (after_swap-row P p q at z)

pub takes-first : (I : Situation) (P : PlanRows) (p q at : ℕ) (pushes : List Step) → list_all (pushes_either p q) pushes ≡ true → p ≢ q → TakesOver P (exchanged I P p q at pushes) p q at
takes-first I P p q at pushes all apart = record {
  stays = λ z sooner. exchanged-flies I P p q at pushes p z all ∙ row_stays p q at p (row_at P z) sooner;
  takes = λ z later. exchanged-flies I P p q at pushes p z all ∙ row_goes_first p q at (row_at P z) apart later;
}

pub takes-second : (I : Situation) (P : PlanRows) (p q at : ℕ) (pushes : List Step) → list_all (pushes_either p q) pushes ≡ true → p ≢ q → TakesOver P (exchanged I P p q at pushes) q p at
takes-second I P p q at pushes all apart = record {
  stays = λ z sooner. exchanged-flies I P p q at pushes q z all ∙ row_stays p q at q (row_at P z) sooner;
  takes = λ z later. exchanged-flies I P p q at pushes q z all ∙ row_goes_second p q at (row_at P z) apart later;
}
