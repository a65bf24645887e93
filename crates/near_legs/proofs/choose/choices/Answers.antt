use Rattle.std.proofs.Common.{◌≡◌, ◌∷◌, [], map, sym, ap, subst}
use Rattle.std.specs.Prelude.{IfOk}
use Rattle.std.proofs.lemmas.Result.{IfOk-weaker}
use Rattle.near_moves.specs.LegMoves.{handing}
use Rattle.near_moves.specs.Near.{unit_steps}
use Rattle.near_legs.specs.declared.unit.LegUnit.{LegUnit}
use Rattle.near_legs.specs.declared.choice.Choice.TheVariants.{Hand}
use Rattle.near_legs.specs.Choices.{steps_of, unit_of}
use Rattle.near_legs.proofs.choose.choices.Goals as goal

pub returns-in-Retimed-clause-steps : goal.returns-in-Retimed-clause-steps
unfolding unit_steps
returns-in-Retimed-clause-steps c =
    subst (λ (u : LegUnit). IfOk c.departures.result (λ all. map (steps_of c.args.inst.now c.args.plan.now) all.items ≡ unit_steps c.args.inst.now c.args.plan.now (unit_of u))) (sym c.in-Retimed.is) c.departures.ensures.steps

pub returns-in-Swapped-clause-steps : goal.returns-in-Swapped-clause-steps
unfolding unit_steps
returns-in-Swapped-clause-steps c =
    subst (λ (u : LegUnit). IfOk c.exchanges.result (λ all. map (steps_of c.args.inst.now c.args.plan.now) all.items ≡ unit_steps c.args.inst.now c.args.plan.now (unit_of u))) (sym c.in-Swapped.is) c.exchanges.ensures.steps

pub returns-in-Dropped-clause-steps : goal.returns-in-Dropped-clause-steps
unfolding unit_steps
returns-in-Dropped-clause-steps c =
    subst (λ (u : LegUnit). IfOk c.drops.result (λ all. map (steps_of c.args.inst.now c.args.plan.now) all.items ≡ unit_steps c.args.inst.now c.args.plan.now (unit_of u))) (sym c.in-Dropped.is) c.drops.ensures.steps

pub returns-in-Restored-clause-steps : goal.returns-in-Restored-clause-steps
unfolding unit_steps
returns-in-Restored-clause-steps c =
    subst (λ (u : LegUnit). IfOk c.restorings.result (λ all. map (steps_of c.args.inst.now c.args.plan.now) all.items ≡ unit_steps c.args.inst.now c.args.plan.now (unit_of u))) (sym c.in-Restored.is) c.restorings.ensures.steps

pub returns-in-Handed-clause-steps : goal.returns-in-Handed-clause-steps
unfolding unit_steps
returns-in-Handed-clause-steps c =
    subst (λ (u : LegUnit). IfOk c.hand.result (λ all. map (steps_of c.args.inst.now c.args.plan.now) all.items ≡ unit_steps c.args.inst.now c.args.plan.now (unit_of u))) (sym c.in-Handed.is)
    (IfOk-weaker c.hand.result (λ all. all.items ≡ Hand c.in-Handed.leg c.in-Handed.count c.in-Handed.plane ∷ []) (λ all. map (steps_of c.args.inst.now c.args.plan.now) all.items ≡ handing c.args.inst.now c.args.plan.now c.in-Handed.leg.0 c.in-Handed.count c.in-Handed.plane.0 ∷ []) (λ all is. ap (map (steps_of c.args.inst.now c.args.plan.now)) is) c.hand.ensures)
