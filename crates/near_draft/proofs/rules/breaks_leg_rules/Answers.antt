use Rattle.std.proofs.Common.{◌≡◌, ℕ, ◌<◌, Bool, true, false, List, length, get_or, refl, sym, ap, subst, ◌∙◌, arith}
use Rattle.std.specs.Prelude.{not}
use Rattle.std.proofs.lemmas.List.{length-map, get_or-map}
use Rattle.desk_units.specs.declared.numbers.Leg.{Leg}
use Rattle.desk_data.specs.Situation.{legs_of}
use Rattle.desk_rules.specs.Maintenance.{flies}
use Rattle.desk_model.specs.Push.{rotation}
use Rattle.desk_model.proofs.RotationOrder.{rotation-flown}
use Rattle.plan_reads.specs.Before.{IsLegBefore}
use Rattle.near_draft.specs.LegRules.{keeps_leg_rules}
use Rattle.near_draft.specs.Legs.{numbers_of}
use Rattle.near_draft.proofs.RuleLaws.{before-is, left-before, rules-are}
use Rattle.near_draft.proofs.rules.breaks_leg_rules.Goals as goal

-- what is read where there is no leg
no_leg : Leg
no_leg = record { 0 = 0 }

not_back : (b : Bool) → not b ≡ true → b ≡ false
not_back true h = absurd cc
not_back false h = refl

pub with_departure-before-requires : goal.with_departure-before-requires
with_departure-before-requires g c = λ leg is.
    let lt = c.left-earlier.ensures.within (legs_of c.args.inst.now) c.requires.within leg is in
    let rows = c.requires.plan.legs in
    omega (arith, lt, rows)

pub returns : goal.returns
unfolding no_leg
returns g c = λ p order broken.
    let I = c.args.inst.now in
    let P = g.P.ReadPlan.plan_of c.args.plan.now in
    let legs = c.args.legs.now in
    let k = c.args.k in
    let leg = get_or legs k no_leg in
    let lt : leg.0 < legs_of I = c.requires.within k no_leg c.requires.place in
    let here : get_or (numbers_of legs) k 0 ≡ leg.0 = get_or-map (λ (l : Leg). l.0) legs k no_leg 0 c.requires.place in
    let long : k < length (numbers_of legs) = rw (length-map legs (λ (l : Leg). l.0)) c.requires.place in
    let left : IsLegBefore P.rows (legs_of I) leg.0 c.left-earlier.result = subst (λ (x : ℕ). IsLegBefore P.rows (legs_of I) x c.left-earlier.result) here (left-before I P p k (numbers_of legs) c.left-earlier.result order long c.left-earlier.ensures.left) in
    let before = before-is I P leg.0 c.left-earlier.result c.with_departure-before.result c.with_departure-before.ensures.leg left in
    let keeps : c.keeps_leg_rules-keeps.result ≡ keeps_leg_rules I P leg.0 = c.keeps_leg_rules-keeps.ensures ∙ rules-are I P leg.0 c.with_departure-before.result c.read_row-row.result (sym c.read_row-row.ensures.row) before in
    let at : get_or (rotation I P p) k 0 ≡ leg.0 = ap (λ (xs : List ℕ). get_or xs k 0) (sym order) ∙ here in
    let long_there : k < length (rotation I P p) = subst (λ (xs : List ℕ). k < length xs) order long in
    record {
      leg = leg.0;
      within = lt;
      flown = subst (λ (x : ℕ). flies P p x ≡ true) at (rotation-flown I P p k 0 long_there).1;
      broken = sym keeps ∙ not_back c.keeps_leg_rules-keeps.result broken;
    }
