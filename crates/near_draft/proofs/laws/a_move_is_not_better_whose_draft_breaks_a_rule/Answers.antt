use Rattle.near_draft.proofs.BreakLaws.{broken-worse}
use Rattle.near_draft.proofs.laws.a_move_is_not_better_whose_draft_breaks_a_rule.Goals as goal

pub returns : goal.returns
returns c = broken-worse
