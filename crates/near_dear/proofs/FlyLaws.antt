-- What flying costs once two aircraft have exchanged legs.
use Rattle.std.proofs.Common.{◌≡◌, ◌≢◌, ℕ, ◌+◌, ◌*◌, ◌<◌, inl, inr, Bool, false, ◌&&◌, not, eqb, ltb, List, refl, sym, ap, ◌∙◌, arith}
use Rattle.std.specs.Prelude.{sum_by}
use Rattle.std.proofs.lemmas.Bool.{cases_Bool, cases_eq, and_parts, and_from, eq-eqb, ne_eqb}
use Rattle.desk_units.specs.declared.tariff.Term.TheVariants as term
use Rattle.plan_moves.specs.declared.moves.Move.{Move}
use Rattle.plan_moves.specs.declared.moves.Step.{Step}
use Rattle.desk_data.specs.declared.row.Row.{Row}
use Rattle.desk_data.specs.declared.row.Row.TheVariants.{Flown, Cancelled}
use Rattle.desk_data.specs.Situation.{Situation, legs_of, leg_at, plane_at}
use Rattle.desk_data.specs.PlanRows.{PlanRows, row_at}
use Rattle.desk_rules.specs.Numbers.{numbers}
use Rattle.desk_rules.specs.Rotations.{departure}
use Rattle.desk_rules.specs.Maintenance.{flies, is_flown_by}
use Rattle.desk_rules.specs.Cost.{weight, by_hour, operating_of, operating, operating_cost}
use Rattle.desk_model.specs.Push.{rotation}
use Rattle.desk_model.specs.Swap.{row_after_swap}
use Rattle.desk_model.proofs.RotationOrder.{rotation-each}
use Rattle.near_moves.proofs.ListLaws.{contains_filter, filter_contains}
use Rattle.near_moves.proofs.ChainLaws.{in-rotation}
use Rattle.near_dear.specs.Exchanged.{tail, cost_by, own_cost, exchanged_cost}
use Rattle.near_dear.specs.Moves.{IsExchange, exchanged}
use Rattle.near_dear.proofs.TakeLaws.{late, filter-apart, goes-on, stays-soon, exchanged-flies}
use Rattle.near_dear.proofs.LegSumLaws.{part, AreMembers, members-sum, scaled, two-sums, sum-two}
use Rattle.near_dear.proofs.FlownLaws.{same-flier}

-- ---- by who flies a leg

-- what leg x costs by aircraft p
abbrev price : Situation → ℕ → ℕ → ℕ
price I p x = by_hour (weight I term.Operating) (plane_at I p).hourly.0 (leg_at I x).block

-- whether aircraft p flies a row from the moment on
abbrev is_in : ℕ → ℕ → Row → Bool
is_in at p row = is_flown_by p row && not (ltb (departure row) at)

-- what a row costs more and less by the exchange
swapped-row : (I : Situation) (p q at x : ℕ) (row : Row) → p ≢ q → operating_of I x (row_after_swap p q at row) + (part (is_in at p row) (price I p x) + part (is_in at q row) (price I q x)) ≡ operating_of I x row + (part (is_in at p row) (price I q x) + part (is_in at q row) (price I p x))
swapped-row I p q at x Cancelled apart = refl
swapped-row I p q at x (Flown n d) apart =
    elim (cases_Bool (ltb d.0 at)) [
      | inl sooner ↦ elim (cases_Bool (eqb n.0 p)) [
        | inl one ↦ elim (cases_Bool (eqb n.0 q)) [
          | inl two ↦ rw (stays-soon at d.0 sooner, sooner, one, two) refl
          | inr two ↦ rw (stays-soon at d.0 sooner, sooner, one, two) refl
        ]
        | inr one ↦ elim (cases_Bool (eqb n.0 q)) [
          | inl two ↦ rw (stays-soon at d.0 sooner, sooner, one, two) refl
          | inr two ↦ rw (stays-soon at d.0 sooner, sooner, one, two) refl
        ]
      ]
      | inr later ↦ elim (cases_eq n.0 p) [
        | inl one ↦
            let off : eqb n.0 q ≡ false = ne_eqb n.0 q (λ e. apart (sym one ∙ e)) in
            let own : price I n.0 x ≡ price I p x = ap (λ (k : ℕ). price I k x) one in
            rw (goes-on at d.0 later, later, eq-eqb n.0 p one, off) (omega (arith, own))
        | inr not_one ↦ elim (cases_eq n.0 q) [
          | inl two ↦
              let own : price I n.0 x ≡ price I q x = ap (λ (k : ℕ). price I k x) two in
              rw (goes-on at d.0 later, later, ne_eqb n.0 p not_one, eq-eqb n.0 q two) (omega (arith, own))
          | inr not_two ↦ rw (goes-on at d.0 later, later, ne_eqb n.0 p not_one, ne_eqb n.0 q not_two) refl
        ]
      ]
    ]

-- ---- all legs

module _ (I : Situation) (P : PlanRows) (at : ℕ) where
  -- whether aircraft p flies leg x from the moment on
  abbrev has : ℕ → ℕ → Bool
  has p x = is_in at p (row_at P x)

  tail-members : (p : ℕ) → AreMembers (legs_of I) (has p) (tail I P p at)
  tail-members p = record {
    within = λ z there. (in-rotation I P p z (filter_contains (late P at) (rotation I P p) z there).0).0;
    pass = λ z there.
        let parts = filter_contains (late P at) (rotation I P p) z there in
        and_from (flies P p z) (late P at z) (in-rotation I P p z parts.0).1 parts.1;
    each = λ z lt on.
        let parts = and_parts (flies P p z) (late P at z) on in
        contains_filter (late P at) (rotation I P p) z (rotation-each I P p z lt parts.0) parts.1;
  }

  -- what aircraft u pays for the legs of aircraft p from the moment on
  cost-is : (u p : ℕ) → cost_by I u (tail I P p at) ≡ sum_by (λ x. part (has p x) (price I u x)) (numbers (legs_of I))
  cost-is u p =
      sym (scaled (weight I term.Operating * (plane_at I u).hourly.0) (λ x. (leg_at I x).block) (tail I P p at))
      ∙ members-sum (price I u) (legs_of I) (has p) (tail I P p at) (filter-apart I P p (late P at)) (tail-members p)

pub exchange-flying : (I : Situation) (P : PlanRows) (m : Move) (p q at : ℕ) (pushes others : List Step) → IsExchange I m p q at pushes others → operating_cost I (exchanged I P p q at pushes) + own_cost I P p q at ≡ operating_cost I P + exchanged_cost I P p q at
unfolding operating_cost
exchange-flying I P m p q at pushes others is =
    let n = legs_of I in
    let Q = exchanged I P p q at pushes in
    let term_of : ℕ → ℕ → ℕ → ℕ = λ u v x. part (has I P at v x) (price I u x) in
    let own : ℕ → ℕ = λ x. term_of p p x + term_of q q x in
    let other : ℕ → ℕ = λ x. term_of q p x + term_of p q x in
    let each : (x : ℕ) → x < n → operating I Q x + own x ≡ operating I P x + other x = λ x lt.
    let same : operating I Q x ≡ operating_of I x (row_after_swap p q at (row_at P x)) = same-flier I x (row_at Q x) (row_after_swap p q at (row_at P x)) (λ u. exchanged-flies I P p q at pushes u x is.pushed) in
    ap (λ (k : ℕ). k + own x) same ∙ swapped-row I p q at x (row_at P x) is.other in
    omega (
      arith,
      two-sums (operating I Q) own (operating I P) other n each,
      sum-two (term_of p p) (term_of q q) n,
      sum-two (term_of q p) (term_of p q) n,
      cost-is I P at p p,
      cost-is I P at q q,
      cost-is I P at q p,
      cost-is I P at p q,
    )
