use Rattle.std.proofs.Common.{rules, ◌≡◌, ℕ, suc, ◌+◌, ◌-◌, ◌<◌, ◌⊎◌, inl, inr, true, length, get_or, sym, ap, subst, ◌∙◌, arith}
use Rattle.std.proofs.lemmas.List.{length-map, get_or-map}
use Rattle.desk_units.specs.declared.numbers.Leg.{Leg}
use Rattle.desk_data.specs.declared.row.Row.{Row}
use Rattle.desk_data.specs.PlanRows.{row_at}
use Rattle.desk_rules.specs.Rotations.{comes_before, precedes}
use Rattle.near_draft.specs.Legs.{numbers_of}
use Rattle.near_draft.proofs.LegLaws.{in-order}
use Rattle.near_draft.proofs.legs.are_in_order.Goals as goal

-- what is read where there is no leg
no_leg : Leg
no_leg = record { 0 = 0 }

pub loop-k-preserved : goal.loop-k-preserved
unfolding no_leg
loop-k-preserved g c =
    let P = g.P.ReadPlan.plan_of c.args.plan.now in
    let legs = c.args.legs.now in
    let k = c.loop-k.k in
    let in_k : k < length legs = c.loop-k-test.true in
    let before : k - 1 < length legs = omega (arith, in_k) in
    let x = (get_or legs (k - 1) no_leg).0 in
    let y = (get_or legs k no_leg).0 in
    let first : get_or (numbers_of legs) (k - 1) 0 ≡ x = get_or-map (λ (leg : Leg). leg.0) legs (k - 1) no_leg 0 before in
    let second : get_or (numbers_of legs) k 0 ≡ y = get_or-map (λ (leg : Leg). leg.0) legs k no_leg 0 in_k in
    let next : c.read_row-next_row.result ≡ row_at P y = c.read_row-next_row.ensures.row in
    let come : comes_before x c.loop-k.row y c.read_row-next_row.result ≡ true = sym c.comes_before.ensures ∙ c.if-not-comes_before.false in
    let own : c.loop-k.row ≡ row_at P x = subst (λ (z : ℕ). c.loop-k.row ≡ row_at P z) first c.loop-k.invariant.row in
    let is : precedes P x y ≡ true = subst (λ (row : Row). comes_before x row y (row_at P y) ≡ true) own (subst (λ (row : Row). comes_before x c.loop-k.row y row ≡ true) next come) in
    let there : precedes P (get_or (numbers_of legs) (k - 1) 0) (get_or (numbers_of legs) k 0) ≡ true =
    subst (λ (z : ℕ). precedes P z (get_or (numbers_of legs) k 0) ≡ true) (sym first) (subst (λ (z : ℕ). precedes P x z ≡ true) (sym second) is) in
    let same_place : k ≡ k + 1 - 1 = omega arith in
    record {
      row = next ∙ ap (row_at P) (sym second) ∙ ap (λ (i : ℕ). row_at P (get_or (numbers_of legs) i 0)) same_place;
      order = λ j lt.
          let cases : (suc j < k) ⊎ (suc j ≡ k) = grind (arith, lt) in
          elim cases [
            | inl less ↦ c.loop-k.invariant.order j less
            | inr same ↦
                let at : k - 1 ≡ j = omega (arith, same) in
                subst (λ (i : ℕ). precedes P (get_or (numbers_of legs) j 0) (get_or (numbers_of legs) i 0) ≡ true) (sym same)
                (subst (λ (i : ℕ). precedes P (get_or (numbers_of legs) i 0) (get_or (numbers_of legs) k 0) ≡ true) at there)
          ];
    }

pub returns-then-is_empty : goal.returns-then-is_empty
returns-then-is_empty g c I p are is =
    let none : length c.args.legs.now ≡ 0 = search rules in
    in-order I (g.P.ReadPlan.plan_of c.args.plan.now) p (numbers_of c.args.legs.now) are (λ j lt.
    absurd (let long = length-map c.args.legs.now (λ (leg : Leg). leg.0) in omega (arith, lt, long, none)))

pub returns : goal.returns
returns g c I p are is =
    in-order I (g.P.ReadPlan.plan_of c.args.plan.now) p (numbers_of c.args.legs.now) are (λ j lt.
    c.loop-k.invariant.order j (let long = length-map c.args.legs.now (λ (leg : Leg). leg.0) in let done = c.loop-k-test.false in omega (arith, lt, long, done)))
