-- What judging a move at the plan of an evaluator finds out.
use Rattle.std.proofs.Common.{◌≡◌, refl, ◌∙◌}
use Rattle.std.specs.Prelude.{None, Some}
use Rattle.desk_units.specs.declared.money.Grains.{Grains}
use Rattle.desk_data.specs.declared.broken.Broken.{Broken}
use Rattle.plan_moves.specs.declared.moves.Move.{Move}
use Rattle.desk_rules.specs.Least.{least}
use Rattle.desk_rules.specs.Cost.{cost, grains}
use Rattle.desk_model.specs.declared.answer.Answer.{Answer}
use Rattle.desk_model.specs.declared.answer.Answer.TheVariants.{NoPlan}
use Rattle.desk_model.specs.declared.answer.Event.TheVariants as event
use Rattle.desk_model.specs.Steps.{after_move}
use Rattle.desk_model.specs.States.{verdict, answer}
use Rattle.desk_eval.specs.Evaluated.{Evaluated}
use Rattle.desk_eval.specs.Back.{WayBack, back_to}
use Rattle.desk_core.specs.Judged.{state_in, IsVerdict, IsMoved, IsRefused}

-- where the rows break an item there is no plan
pub judged_without_plan : (E : Evaluated) (m : Move) (item : Broken) → least E.inst E.rows ≡ Some item → IsRefused E m E (NoPlan item)
unfolding answer
judged_without_plan E m item is = record { answered = rw is refl; refused = refl; same = refl }

-- evaluator A is that of a published plan, of this cost, after a move
pub record IsApplied (E A : Evaluated) (m : Move) (now : Grains) : Type 0 where
  pub published : least E.inst E.rows ≡ None
  pub costs : now ≡ grains (cost E.inst E.rows)
  pub inst : A.inst ≡ E.inst
  pub rows : A.rows ≡ after_move E.inst E.rows m

-- the answer is then the verdict on what A breaks and costs
answer_is : (E A : Evaluated) (m : Move) (now : Grains) → IsApplied E A m now → answer (state_in E) (event.Move m) ≡ verdict (least A.inst A.rows) now.0 (cost A.inst A.rows)
unfolding answer
answer_is E A m now h = rw (h.published, h.costs, h.inst, h.rows) refl

pub judged_refused : (E A F : Evaluated) (m : Move) (now : Grains) (given : Answer) → IsApplied E A m now → IsVerdict (verdict (least A.inst A.rows) now.0 (cost A.inst A.rows)) (cost A.inst A.rows) (Some given) → F ≡ E → IsRefused E m F given
judged_refused E A F m now given h is same = record {
  answered = answer_is E A m now h ∙ is.0;
  refused = is.1;
  same = same;
}

pub judged_moved : (E A : Evaluated) (m : Move) (now : Grains) (applied : WayBack) → IsApplied E A m now → IsVerdict (verdict (least A.inst A.rows) now.0 (cost A.inst A.rows)) (cost A.inst A.rows) None → back_to applied.depth A ≡ E → IsMoved E m A applied (grains (cost A.inst A.rows))
judged_moved E A m now applied h is back = record {
  answered = answer_is E A m now h ∙ is;
  inst = h.inst;
  rows = h.rows;
  back = back;
}
