use Rattle.std.proofs.Common.{◌∙◌}
use Rattle.turn_book.specs.Passes.{first_book, seen}
use Rattle.turn_book.proofs.Prefixes.{prefix_trans}
use Rattle.desk_core.proofs.TurnedLaws.{desk_legal}
use Rattle.live_board.specs.Histories.{history}
use Rattle.desk_core.specs.Told.{told_to}
use Rattle.desk_core.proofs.TellingLaws.{all_of}
use Rattle.desk_core.proofs.calls.BoardTellingTelling.tell_more.Goals as goal

pub publish-requires : goal.publish-requires
publish-requires g c =
    let h = seen c.look.new.pass in
    (first_book c.args.turn.now, h, (c.requires.can.0, prefix_trans (history (told_to c.args.self.now)) (seen c.args.pass.now) h c.requires.can.1 c.look.ensures.looked.began), desk_legal (first_book c.args.turn.now).opening h c.look.ensures.legal, c.as_slice.ensures.value ∙ c.in_ok-items.ensures.items, c.seen-count.ensures)

pub returns-clause-can : goal.returns-clause-can
returns-clause-can g c =
    let h = seen c.look.new.pass in
    c.publish.ensures.told (first_book c.args.turn.now) h (c.requires.can.0, prefix_trans (history (told_to c.args.self.now)) (seen c.args.pass.now) h c.requires.can.1 c.look.ensures.looked.began) (c.as_slice.ensures.value ∙ c.in_ok-items.ensures.items)

pub returns-clause-all : goal.returns-clause-all
returns-clause-all g c =
    let h = seen c.look.new.pass in
    all_of c.publish.result _ _
    (λ all. all (first_book c.args.turn.now) h (c.requires.can.0, prefix_trans (history (told_to c.args.self.now)) (seen c.args.pass.now) h c.requires.can.1 c.look.ensures.looked.began) (c.as_slice.ensures.value ∙ c.in_ok-items.ensures.items))
    c.publish.ensures.all
