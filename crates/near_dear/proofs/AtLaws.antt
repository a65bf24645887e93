-- What is told of an exchange from a moment on, by the legs of its aircraft and by where they stand.
use Rattle.std.proofs.Common.{◌≡◌, ℕ, ◌-◌, ◌*◌, inl, inr, Bool, not, cond, eqb, ltb, List, [], ◌∷◌, refl, sym, ap, ◌∙◌, arith}
use Rattle.std.specs.Prelude.{sum_by, filter}
use Rattle.std.proofs.lemmas.Bool.{cases_Bool}
use Rattle.std.proofs.lemmas.List.Sums.{sum_by-cons}
use Rattle.desk_units.specs.declared.numbers.Leg.{Leg}
use Rattle.desk_units.specs.declared.tariff.Term.TheVariants as term
use Rattle.tariff_prices.specs.Prices.{position_price}
use Rattle.desk_data.specs.declared.info.PositionInfo.{PositionInfo}
use Rattle.desk_data.specs.Situation.{Situation, leg_at, plane_at}
use Rattle.desk_data.specs.PlanRows.{PlanRows}
use Rattle.desk_rules.specs.Rotations.{dep}
use Rattle.desk_rules.specs.Cost.{weight, rows_of, by_hour, by_item}
use Rattle.desk_model.specs.Push.{rotation}
use Rattle.near_moves.specs.Chains.{stand, stand_before}
use Rattle.near_draft.specs.Legs.{numbers_of}
use Rattle.near_dear.specs.Exchanged.{tail, minutes, cost_by, stand_then, hand_then, positions_then}
use Rattle.near_dear.specs.Times.{late_block}
use Rattle.near_dear.specs.Stands.{gaps_then}
use Rattle.near_dear.proofs.LegSumLaws.{scaled}
use Rattle.near_dear.proofs.ExchangeTableLaws.{legs-sum}

late-filter : (I : Situation) (P : PlanRows) (at : ℕ) (xs : List ℕ) → sum_by (late_block I P at) xs ≡ minutes I (filter (λ x. not (ltb (dep P x) at)) xs)
late-filter I P at [] = refl
late-filter I P at (x ∷ xs) =
    let t : ℕ → Bool = λ y. not (ltb (dep P y) at) in
    let rest = late-filter I P at xs in
    elim (cases_Bool (ltb (dep P x) at)) [
      | inl soon ↦
          let none : late_block I P at x ≡ 0 = ap (λ (b : Bool). cond b 0 (leg_at I x).block) soon in
          let out : filter t (x ∷ xs) ≡ filter t xs = rw soon refl in
          let all : sum_by (late_block I P at) (x ∷ xs) ≡ minutes I (filter t xs) = omega (arith, rest, none, sum_by-cons (late_block I P at) x xs) in
          all ∙ ap (minutes I) (sym out)
      | inr late ↦
          let whole : late_block I P at x ≡ (leg_at I x).block = ap (λ (b : Bool). cond b 0 (leg_at I x).block) late in
          let out : filter t (x ∷ xs) ≡ x ∷ filter t xs = rw late refl in
          let all : sum_by (late_block I P at) (x ∷ xs) ≡ minutes I (x ∷ filter t xs) = omega (arith, rest, whole, sum_by-cons (late_block I P at) x xs, sum_by-cons (λ y. (leg_at I y).block) x (filter t xs)) in
          all ∙ ap (minutes I) (sym out)
    ]

pub tail-is : (I : Situation) (P : PlanRows) (p at n : ℕ) (legs : List Leg) → numbers_of legs ≡ rotation I P p → n ≡ sum_by (λ (leg : Leg). late_block I P at leg.0) legs → n ≡ minutes I (tail I P p at)
tail-is I P p at n legs are is = is ∙ sym (legs-sum I P p legs are (late_block I P at)) ∙ late-filter I P at (rotation I P p)

pub cost-is : (I : Situation) (P : PlanRows) (u p at n cost : ℕ) → n ≡ minutes I (tail I P p at) → cost ≡ by_hour (weight I term.Operating) (plane_at I u).hourly.0 n → cost ≡ cost_by I u (tail I P p at)
cost-is I P u p at n cost minutes_are is = is ∙ ap (λ (k : ℕ). by_hour (weight I term.Operating) (plane_at I u).hourly.0 k) minutes_are

-- where the first of two stands then
pub stands-then : (I : Situation) (P : PlanRows) (p q at a b c d : ℕ) → a ≡ stand_before I P p at → b ≡ stand_before I P q at → c ≡ stand I P p → d ≡ stand I P q → cond (eqb a b) d c ≡ stand_then I P p q at
stands-then I P p q at a b c d one two three four =
    ap (λ (k : ℕ). cond (eqb k b) d c) one
    ∙ ap (λ (k : ℕ). cond (eqb (stand_before I P p at) k) d c) two
    ∙ ap (λ (k : ℕ). cond (eqb (stand_before I P p at) (stand_before I P q at)) d k) three
    ∙ ap (λ (k : ℕ). cond (eqb (stand_before I P p at) (stand_before I P q at)) k (stand I P p)) four

-- one price for all that the positions lack
pub priced : (I : Situation) (P : PlanRows) (p q at : ℕ) → positions_then I P p q at ≡ by_item (weight I term.Position) (position_price (rows_of I)) (gaps_then I P p q at)
priced I P p q at = scaled (60 * weight I term.Position * position_price (rows_of I)) (λ (position : PositionInfo). position.count - hand_then I P p q at position) I.parts.positions
