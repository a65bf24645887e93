use Rattle.std.proofs.Common.{sym, subst, ◌∙◌}
use Rattle.std.specs.List.{Contains}
use Rattle.std.proofs.lemmas.List.Elements.{Contains-get_or}
use Rattle.near_draft.proofs.moves.breaks_rows.Goals as goal

pub returns-then-branch : goal.returns-then-branch
returns-then-branch c = λ broken.
    let steps = c.args.steps.now in
    let i = c.loop-step.step-index in
    let step = c.step-item.result in
    record {
      plane = c.in-Push.plane;
      after = c.in-Push.after;
      pushed = subst (Contains steps) (sym c.step-item.is ∙ c.in-Push.is) (Contains-get_or steps i step c.loop-step-test.true);
      breaks = c.in_ok-plane_breaks_rows.ensures c.if-branch.true;
    }
