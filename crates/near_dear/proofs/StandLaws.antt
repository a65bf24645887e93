-- Where aircraft stand at the end once they have exchanged legs.
use Rattle.std.proofs.Common.{◌≡◌, ◌≢◌, ℕ, ◌+◌, ◌≤◌, inl, inr, false, List, ◌++◌, refl, sym, ap, subst, ◌∙◌, arith}
use Rattle.std.specs.Prelude.{None, filter}
use Rattle.std.proofs.lemmas.Bool.{cases_eq, eq-eqb, ne_eqb}
use Rattle.plan_moves.specs.declared.moves.Move.{Move}
use Rattle.plan_moves.specs.declared.moves.Step.{Step}
use Rattle.desk_data.specs.Situation.{Situation, plane_at}
use Rattle.desk_data.specs.PlanRows.{PlanRows}
use Rattle.desk_rules.specs.Least.{least}
use Rattle.desk_rules.proofs.LeastLaws.{feasible-holds}
use Rattle.desk_model.specs.Push.{rotation}
use Rattle.desk_model.proofs.RotationOrder.{rotation-ordered}
use Rattle.near_moves.specs.Chains.{from_airport, to_airport, is_same, led, stand, stand_before}
use Rattle.near_moves.proofs.ChainLaws.{IsChain, KeepsC5, chain-tally, chain-front, chain-back, led-append, rotation-chain}
use Rattle.near_moves.proofs.HandLaws.{same-yes, same-no}
use Rattle.near_dear.specs.Exchanged.{stand_then}
use Rattle.near_dear.specs.Moves.{IsExchange, exchanged}
use Rattle.near_dear.proofs.TakeLaws.{early, late, split-sorted, TakesOver, taken-tally, takes-first, takes-second}

same-is : (a b : ℕ) → is_same a b ≡ 1 → a ≡ b
same-is a b one =
    elim (cases_eq a b) [
      | inl same ↦ same
      | inr other ↦ absurd (let none = same-no a b other in omega (arith, one, none))
    ]

module _ (I : Situation) (P Q : PlanRows) (u v at : ℕ) (h : TakesOver P Q u v at) (keeps : KeepsC5 I P) (will : KeepsC5 I Q) (air : (plane_at I u).surface ≡ false) (other_air : (plane_at I v).surface ≡ false) where
  abbrev a0 : ℕ
  a0 = (plane_at I u).origin.0

  abbrev b0 : ℕ
  b0 = (plane_at I v).origin.0

  abbrev first : List ℕ
  first = filter (early P at) (rotation I P u)

  abbrev front : List ℕ
  front = filter (early P at) (rotation I P v)

  abbrev last : List ℕ
  last = filter (late P at) (rotation I P v)

  own : IsChain I a0 (first ++ filter (late P at) (rotation I P u))
  own = subst (IsChain I a0) (split-sorted P at (rotation I P u) (rotation-ordered I P u)) (rotation-chain I P u keeps air)

  others : IsChain I b0 (front ++ last)
  others = subst (IsChain I b0) (split-sorted P at (rotation I P v) (rotation-ordered I P v)) (rotation-chain I P v keeps other_air)

  ends_so : stand I P v ≡ led I (stand_before I P v at) last
  ends_so = ap (led I b0) (split-sorted P at (rotation I P v) (rotation-ordered I P v)) ∙ led-append I b0 front last

  -- what the counts of each airport come to
  pub balance : (c : ℕ) → is_same (stand_before I P u at) c + is_same (stand I P v) c ≡ is_same (stand_before I P v at) c + is_same (stand I Q u) c
  balance c =
      let one = chain-tally I a0 c first (chain-front I a0 first (filter (late P at) (rotation I P u)) own) in
      let two = chain-tally I (stand_before I P v at) c last (chain-back I b0 front last others) in
      let all = chain-tally I a0 c (rotation I Q u) (rotation-chain I Q u will air) in
      let from = taken-tally I P Q u v at h (from_airport I) c in
      let to = taken-tally I P Q u v at h (to_airport I) c in
      let end : is_same (stand I P v) c ≡ is_same (led I (stand_before I P v at) last) c = ap (λ (a : ℕ). is_same a c) ends_so in
      omega (arith, one, two, all, from, to, end)

then-same : (I : Situation) (P : PlanRows) (u v at : ℕ) → stand_before I P u at ≡ stand_before I P v at → stand_then I P u v at ≡ stand I P v
then-same I P u v at same = rw (eq-eqb (stand_before I P u at) (stand_before I P v at) same) refl

then-own : (I : Situation) (P : PlanRows) (u v at : ℕ) → stand_before I P u at ≢ stand_before I P v at → stand_then I P u v at ≡ stand I P u
then-own I P u v at apart = rw (ne_eqb (stand_before I P u at) (stand_before I P v at) apart) refl

-- by the counts of both
stands : (I : Situation) (P Q : PlanRows) (u v at : ℕ) → ((c : ℕ) → is_same (stand_before I P u at) c + is_same (stand I P v) c ≡ is_same (stand_before I P v at) c + is_same (stand I Q u) c) → ((c : ℕ) → is_same (stand_before I P v at) c + is_same (stand I P u) c ≡ is_same (stand_before I P u at) c + is_same (stand I Q v) c) → stand I Q u ≡ stand_then I P u v at
stands I P Q u v at mine theirs =
    let s = stand_before I P u at in
    let t = stand_before I P v at in
    elim (cases_eq s t) [
      | inl same ↦
          let e = stand I P v in
          let equal : is_same s e ≡ is_same t e = ap (λ (a : ℕ). is_same a e) same in
          let there : is_same (stand I Q u) e ≡ 1 = (let all = mine e in let begins = same-yes e in omega (arith, all, begins, equal)) in
          same-is (stand I Q u) e there ∙ sym (then-same I P u v at same)
      | inr apart ↦
          let begins = same-yes s in
          let off : is_same t s ≡ 0 = same-no t s (λ e. apart (sym e)) in
          let one = mine s in
          let two = theirs s in
          let few = same-few (stand I Q u) s in
          let few_own = same-few (stand I P u) s in
          let there : is_same (stand I Q u) s ≡ 1 = omega (arith, one, begins, off, few) in
          let was : is_same (stand I P u) s ≡ 1 = omega (arith, two, begins, off, few_own) in
          same-is (stand I Q u) s there ∙ sym (same-is (stand I P u) s was) ∙ sym (then-own I P u v at apart)
    ]
  where
    same-few : (a b : ℕ) → is_same a b ≤ 1
    same-few a b =
        elim (cases_eq a b) [
          | inl same ↦ (let one = ap (is_same a) (sym same) ∙ same-yes a in omega (arith, one))
          | inr other ↦ (let none = same-no a b other in omega (arith, none))
        ]

module _ (I : Situation) (P : PlanRows) (m : Move) (p q at : ℕ) (pushes leftover : List Step) (is : IsExchange I m p q at pushes leftover) (feasible : least I P ≡ None) (will : KeepsC5 I (exchanged I P p q at pushes)) where
  abbrev made : PlanRows
  made = exchanged I P p q at pushes

  keeps_now : KeepsC5 I P
  keeps_now = (feasible-holds I P feasible).c5

  mine : (c : ℕ) → is_same (stand_before I P p at) c + is_same (stand I P q) c ≡ is_same (stand_before I P q at) c + is_same (stand I made p) c
  mine = balance I P made p q at (takes-first I P p q at pushes is.pushed is.other) keeps_now will is.air is.other_air

  theirs : (c : ℕ) → is_same (stand_before I P q at) c + is_same (stand I P p) c ≡ is_same (stand_before I P p at) c + is_same (stand I made q) c
  theirs = balance I P made q p at (takes-second I P p q at pushes is.pushed is.other) keeps_now will is.other_air is.air

  pub first-stands : stand I made p ≡ stand_then I P p q at
  first-stands = stands I P made p q at mine theirs

  pub second-stands : stand I made q ≡ stand_then I P q p at
  second-stands = stands I P made q p at theirs mine

pub exchange-stand : (I : Situation) (P : PlanRows) (m : Move) (p q at : ℕ) (pushes others : List Step) → IsExchange I m p q at pushes others → least I P ≡ None → KeepsC5 I (exchanged I P p q at pushes) → stand I (exchanged I P p q at pushes) p ≡ stand_then I P p q at
exchange-stand I P m p q at pushes others is feasible will = first-stands I P m p q at pushes others is feasible will

pub exchange-other-stand : (I : Situation) (P : PlanRows) (m : Move) (p q at : ℕ) (pushes others : List Step) → IsExchange I m p q at pushes others → least I P ≡ None → KeepsC5 I (exchanged I P p q at pushes) → stand I (exchanged I P p q at pushes) q ≡ stand_then I P q p at
exchange-other-stand I P m p q at pushes others is feasible will = second-stands I P m p q at pushes others is feasible will
