use Rattle.std.proofs.Common.{◌∙◌, Bool, ap, not}
use Rattle.desk_data.specs.declared.broken.Broken.{Broken}
use Rattle.board_rot.specs.Kept.{seen}
use Rattle.board_rot.proofs.OutcomeLaws.{on_ok}
use Rattle.board_rot.proofs.JudgeLaws.{marks_after}
use Rattle.board_rot.proofs.judge.judge_next_leg.Goals as goal

pub returns-clause-broken : goal.returns-clause-broken
returns-clause-broken c = on_ok c.mark_all.result c.mark_all.ensures.broken (λ marks P valid rotation_legs here item.
    let kept = c.keeps_place-location.ensures P valid rotation_legs here in
    let r = c.keeps_place-location.result in
    ap (λ (f : Broken → Bool). f item) marks
    ∙ marks_after c.args.inst.now P c.args.rotation_leg.leg (not r.0) (not r.1) (seen c.args.log.now).summary.broken c.requires.leg (ap not kept.0) (ap not kept.1) item)
