use Rattle.std.proofs.Common.{sym, ◌∙◌}
use Rattle.desk_core.proofs.JudgedLaws.{judged_without_plan, IsApplied, judged_refused, judged_moved}
use Rattle.desk_core.proofs.judged.judge.Goals as goal

pub returns-in-Some-clause-ok : goal.returns-in-Some-clause-ok
returns-in-Some-clause-ok c = judged_without_plan c.args.eval.now c.args.m.now c.in-Some.item (sym c.least_broken.ensures ∙ c.in-Some.is)

pub returns-in-Some-refusal-clause-ok : goal.returns-in-Some-refusal-clause-ok
returns-in-Some-refusal-clause-ok c =
    let E = c.args.eval.now in
    let A = c.apply.new.eval in
    let made = c.in_ok-applied.ensures in
    let applied : IsApplied E A c.args.m.now c.cost-now.result = record {
      published = sym c.least_broken.ensures ∙ c.in_default.is;
      costs = c.cost-now.ensures;
      inst = made.inst;
      rows = made.rows;
    } in
    judged_refused E A c.undo.new.eval c.args.m.now c.cost-now.result c.in-Some-refusal.answer applied c.in-Some-refusal.ensures (c.undo.ensures ∙ made.undo)

pub returns-in-None-clause-ok : goal.returns-in-None-clause-ok
returns-in-None-clause-ok c =
    let E = c.args.eval.now in
    let A = c.apply.new.eval in
    let made = c.in_ok-applied.ensures in
    let applied : IsApplied E A c.args.m.now c.cost-now.result = record {
      published = sym c.least_broken.ensures ∙ c.in_default.is;
      costs = c.cost-now.ensures;
      inst = made.inst;
      rows = made.rows;
    } in
    rw c.cost.ensures (judged_moved E A c.args.m.now c.cost-now.result c.in_ok-applied.applied applied c.in-None.ensures made.undo)
