use Rattle.std.proofs.Common.{subst}
use Rattle.desk_data.specs.Situation.{Situation}
use Rattle.desk_data.specs.PlanRows.{PlanRows}
use Rattle.near_draft.specs.Drafts.{IsDraftOf}
use Rattle.near_search.proofs.drafted.judge_draft.Goals as goal

pub judge_by-requires-clause-draft : goal.judge_by-requires-clause-draft
judge_by-requires-clause-draft c =
    let base = c.base_of-base in
    let m = c.args.m.now in
    let draft = c.in-Some.draft in
    subst (λ (I : Situation). IsDraftOf I c.args.eval.now.rows m draft) base.ensures.inst
    (subst (λ (P : PlanRows). IsDraftOf base.result.inst P m draft) base.ensures.rows (c.in_ok-draft.ensures draft c.in-Some.is))
