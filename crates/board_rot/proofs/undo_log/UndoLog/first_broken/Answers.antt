use Rattle.std.proofs.Common.{◌∙◌, ap}
use Rattle.desk_rules.specs.Least.{breaks, rotation_items, least_rot}
use Rattle.board_kit.proofs.MemberLaws.{rotations_ascend}
use Rattle.board_rot.specs.Summaries.{Summary}
use Rattle.board_rot.specs.Kept.{Lists, has_item}
use Rattle.board_rot.proofs.LeastLaws.{those_broken}
use Rattle.board_rot.proofs.undo_log.UndoLog.first_broken.Goals as goal

pub returns : goal.returns
unfolding least_rot
returns c I P is =
    let s = c.self.inside in
    c.first.ensures (breaks I P) (rotation_items I) (rotations_ascend I)
    (those_broken I P s.broken.items (ap (λ (l : Lists). has_item l.broken) c.self.view_is ∙ ap (λ (summary : Summary). summary.broken) is))
