use Rattle.std.proofs.Common.{not, ◌∙◌}
use Rattle.board_rot.specs.Summaries.{same_item}
use Rattle.board_rot.proofs.TestLaws.{has_is, turned_set, twice}
use Rattle.board_rot.proofs.ItemLaws.{items_same}
use Rattle.board_rot.proofs.undo_log.toggle.Goals as goal

pub returns-clause-has : goal.returns-clause-has
returns-clause-has c =
    turned_set same_item c.args.items.now.items c.set.new.self.items c.args.item (not c.has-is_broken.result) items_same c.set.ensures.set
    (has_is same_item c.args.items.now.items c.args.item c.has-is_broken.result items_same c.has-is_broken.ensures ∙ twice c.has-is_broken.result)
