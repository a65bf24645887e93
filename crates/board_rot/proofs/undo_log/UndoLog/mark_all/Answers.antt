use Rattle.std.proofs.Common.{◌∙◌}
use Rattle.board_rot.specs.Kept.{seen}
use Rattle.board_rot.proofs.EditLaws.{led_both}
use Rattle.board_rot.proofs.MarkLaws.{marked_more}
use Rattle.board_rot.proofs.undo_log.UndoLog.mark_all.Goals as goal

pub returns-in_err-mark-clause-led : goal.returns-in_err-mark-clause-led
returns-in_err-mark-clause-led c = led_both (seen c.args.self.now) (seen c.loop-item.self) (seen c.mark.new.self) c.loop-item.invariant.0 c.mark.ensures.led

pub loop-item-preserved : goal.loop-item-preserved
loop-item-preserved c = (
  led_both (seen c.args.self.now) (seen c.loop-item.self) (seen c.mark.new.self) c.loop-item.invariant.0 c.mark.ensures.led,
  c.mark.ensures.rotation_legs ∙ c.loop-item.invariant.1,
  marked_more c.args.marks.now c.loop-item.item-index (seen c.args.self.now).summary.broken (seen c.loop-item.self).summary.broken (seen c.mark.new.self).summary.broken c.loop-item-test.true c.loop-item.invariant.2 c.in_ok-mark.ensures.broken,
)
