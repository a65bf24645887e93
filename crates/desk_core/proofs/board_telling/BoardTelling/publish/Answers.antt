use Rattle.std.proofs.Common.{length, ap, sym, ◌∙◌}
use Rattle.live_board.specs.Words.{told_by}
use Rattle.desk_core.specs.Told.{told_to}
use Rattle.desk_core.proofs.TellingLaws.{rest_next, rest_told}
use Rattle.desk_core.proofs.board_telling.BoardTelling.publish.Goals as goal

pub tell-requires-clause-next : goal.tell-requires-clause-next
tell-requires-clause-next g c =
    let q = c.requires in
    rest_next q.0 q.1 (told_to c.args.self.now) c.args.self.now.told c.args.entries.now q.2 q.3 c.args.self.now.counted q.4

pub invariant_of-self-2-clause-counted : goal.invariant_of-self-2-clause-counted
invariant_of-self-2-clause-counted g c =
    let q = c.requires in
    let told = rest_told q.0 q.1 (told_to c.args.self.now) (told_by c.tell.new.self) c.args.self.now.told c.args.entries.now q.2 c.args.self.now.counted q.4 c.in-Ok.ensures.ok in
    q.5 ∙ ap length (sym told.1)

pub returns-clause-told : goal.returns-clause-told
returns-clause-told g c B h told is = (rest_told B h (told_to c.args.self.now) (told_by c.tell.new.self) c.args.self.now.told c.args.entries.now told c.args.self.now.counted is c.in-Ok.ensures.ok).0

pub returns-clause-all : goal.returns-clause-all
returns-clause-all g c B h told is = (rest_told B h (told_to c.args.self.now) (told_by c.tell.new.self) c.args.self.now.told c.args.entries.now told c.args.self.now.counted is c.in-Ok.ensures.ok).1
