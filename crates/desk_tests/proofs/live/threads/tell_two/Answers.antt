use Rattle.std.proofs.Common.{ap, ◌∙◌, arith, [], ◌∷◌, length, length-append}
use Rattle.live_board.specs.Histories.{history}
use Rattle.live_board.specs.Words.{told_by}
use Rattle.live_board.proofs.Tellings.{history_grows}
use Rattle.desk_tests.proofs.Room.{room_for}
use Rattle.desk_tests.proofs.live.threads.tell_two.Goals as goal

pub tell-told-requires-clause-next : goal.tell-told-requires-clause-next
tell-told-requires-clause-next g c =
    let old = told_by c.args.teller in
    let grown = ap history c.in-Ok.ensures.ok ∙ history_grows old (5 ∷ []) in
    room_for (told_by c.tell.new.self) (3 ∷ 9 ∷ []) (omega (arith, ap length grown, length-append (history old) (5 ∷ []), c.requires.room))
