use Rattle.std.proofs.Common.{◌≡◌, ℕ, true, false, ltb, get_or, refl, sym, ap, ◌∙◌}
use Rattle.std.proofs.lemmas.Bool.{lt-ltb, le-ltb}
use Rattle.desk_units.specs.declared.numbers.Leg.{Leg}
use Rattle.desk_units.specs.declared.numbers.Airport.{Airport}
use Rattle.desk_data.specs.declared.info.LegInfo.{LegInfo}
use Rattle.desk_rules.specs.Rotations.{dep}
use Rattle.near_search.proofs.RotationLaws.{led-next}
use Rattle.near_search.proofs.rotations.led_before.Goals as goal
use Rattle.near_search.proofs.rotations.led_before.Goals.{then-departure-at, else-departure-at}

pub loop-leg-preserved : goal.loop-leg-preserved
loop-leg-preserved c =
    let I = c.args.eval.now.inst in
    let P = c.args.eval.now.rows in
    let at = c.args.at.0 in
    let x : Leg = get_or c.args.legs.now c.loop-leg.leg-index (record { 0 = 0 }) in
    let departs : c.departure.result ≡ dep P x.0 = rw c.plan.ensures.rows at c.departure.ensures.departure in
    let next = led-next I c.args.from.0 (λ y. ltb (dep P y) at) c.args.legs.now c.loop-leg.leg-index (record { 0 = 0 }) c.loop-leg-test.true in
    elim c.if-departure-at.branch [
      | then-departure-at w ↦
          let before : ltb (dep P x.0) at ≡ true = ap (λ (n : ℕ). ltb n at) (sym departs) ∙ lt-ltb c.departure.result at w.if-departure-at.true in
          let there = ap (λ (info : LegInfo). info.dest.0) (rw w.instance.ensures at w.leg.ensures.row) in
          ap (λ (a : Airport). a.0) w.stands-is ∙ there ∙ sym (next ∙ rw before refl)
      | else-departure-at w ↦
          let not_before : ltb (dep P x.0) at ≡ false = ap (λ (n : ℕ). ltb n at) (sym departs) ∙ le-ltb c.departure.result at w.if-departure-at.false in
          ap (λ (a : Airport). a.0) w.stands-is ∙ c.loop-leg.invariant ∙ sym (next ∙ rw not_before refl)
    ]
