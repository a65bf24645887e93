use Rattle.std.proofs.Common.{◌∙◌, refl}
use Rattle.board_seats.specs.Kept.{seen}
use Rattle.board_seats.proofs.EditLaws.{led_same, led_both}
use Rattle.board_seats.proofs.MarkLaws.{marked_more}
use Rattle.board_seats.proofs.undo_log.UndoLog.mark_all.Goals as goal

pub loop-item-init : goal.loop-item-init
loop-item-init c = record { led = led_same (seen c.args.self.now); taken = refl; faults = refl; users = refl; broken = refl }

pub returns-in_err-mark-clause-led : goal.returns-in_err-mark-clause-led
returns-in_err-mark-clause-led c = led_both (seen c.args.self.now) (seen c.loop-item.self) (seen c.mark.new.self) c.loop-item.invariant.led c.mark.ensures.led

pub loop-item-preserved : goal.loop-item-preserved
loop-item-preserved c = record {
  led = led_both (seen c.args.self.now) (seen c.loop-item.self) (seen c.mark.new.self) c.loop-item.invariant.led c.mark.ensures.led;
  taken = c.mark.ensures.taken ∙ c.loop-item.invariant.taken;
  faults = c.mark.ensures.faults ∙ c.loop-item.invariant.faults;
  users = c.mark.ensures.users ∙ c.loop-item.invariant.users;
  broken = marked_more c.args.marks.now c.loop-item.item-index (seen c.args.self.now).summary.broken (seen c.loop-item.self).summary.broken (seen c.mark.new.self).summary.broken c.loop-item-test.true c.loop-item.invariant.broken c.in_ok-mark.ensures.broken;
}
