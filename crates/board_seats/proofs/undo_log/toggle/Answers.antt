use Rattle.std.proofs.Common.{not, ◌∙◌}
use Rattle.board_seats.specs.Kept.{has_item}
use Rattle.board_seats.proofs.TestLaws.{has_is, marked_set, turned_mark, twice}
use Rattle.board_seats.proofs.undo_log.toggle.Goals as goal

pub returns-clause-has : goal.returns-clause-has
returns-clause-has c =
    let given = c.has-is_broken.result in
    marked_set c.args.items.now.items c.set.new.self.items c.args.item (not given) c.set.ensures.set
    ∙ turned_mark (has_item c.args.items.now.items) c.args.item (not given) (has_is c.args.items.now.items c.args.item given c.has-is_broken.ensures ∙ twice given)
