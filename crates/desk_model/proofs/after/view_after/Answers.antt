use Rattle.desk_model.proofs.ViewLaws.{view_taken, view_unplanned, view_accepted, view_same, few, batch_told, not_accepted}
use Rattle.std.proofs.Common.{◌≡◌, ap, ◌∙◌, ⊎_elim, arith}
use Rattle.desk_units.specs.declared.money.Grains.{Grains}
use Rattle.desk_data.specs.declared.broken.Broken.{Broken}
use Rattle.desk_model.specs.declared.fallbacks.Which.{Which}
use Rattle.desk_model.specs.declared.answer.Event.TheVariants as event
use Rattle.desk_model.specs.declared.answer.Answer.TheVariants.{Taken, NoPlan}
use Rattle.desk_model.specs.States.{answer}
use Rattle.desk_model.specs.Histories.{state}
use Rattle.desk_model.proofs.after.view_after.Goals as goal

pub overflow_add-result : goal.overflow_add-result
overflow_add-result c = let q = c.requires in omega (arith, few q.0 q.1 c.args.entry.now c.args.view q.2 q.3)

pub overflow_add-result-in-NoPlan : goal.overflow_add-result-in-NoPlan
overflow_add-result-in-NoPlan c = let q = c.requires in omega (arith, few q.0 q.1 c.args.entry.now c.args.view q.2 q.3)

pub overflow_add-result-in-Accepted : goal.overflow_add-result-in-Accepted
overflow_add-result-in-Accepted c = let q = c.requires in omega (arith, few q.0 q.1 c.args.entry.now c.args.view q.2 q.3)

pub returns-in-Taken : goal.returns-in-Taken
returns-in-Taken c S h follows is = view_taken S h c.args.entry.now c.args.view follows is c.in-Batch.field-0 c.in-Taken.which c.in-Taken.cost c.in-Batch.is c.in-Taken.is

pub returns-in-NoPlan : goal.returns-in-NoPlan
returns-in-NoPlan c S h follows is = view_unplanned S h c.args.entry.now c.args.view follows is c.in-Batch.field-0 c.in-NoPlan.item c.in-Batch.is c.in-NoPlan.is

pub returns-in_default : goal.returns-in_default
returns-in_default c S h follows is =
    let T = state S h in
    let B = c.in-Batch.field-0 in
    let told : c.args.entry.now.answer ≡ answer T (event.Batch B) = follows.1.answered ∙ ap (answer T) c.in-Batch.is in
    absurd (⊎_elim (λ (t : (which : Which) × (cost : Grains) × (answer T (event.Batch B) ≡ Taken which cost)). c.in_default.not-Taken t.0 t.1 (told ∙ t.2))
    (λ (t : (item : Broken) × (answer T (event.Batch B) ≡ NoPlan item)). c.in_default.not-NoPlan t.0 (told ∙ t.1)) (batch_told T B))

pub returns-in-Accepted : goal.returns-in-Accepted
returns-in-Accepted c S h follows is = view_accepted S h c.args.entry.now c.args.view follows is c.in-Move.field-0 c.in-Accepted.cost c.in-Move.is c.in-Accepted.is

pub returns-in_default-answer : goal.returns-in_default-answer
returns-in_default-answer c S h follows is = view_same S h c.args.entry.now c.args.view follows is c.in-Move.field-0 c.in-Move.is (not_accepted c.args.entry.now.answer c.in_default-answer.not-Accepted)
