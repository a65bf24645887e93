use Rattle.std.proofs.Common.{◌≡◌, List, ap, ◌∙◌, subst}
use Rattle.std.specs.Prelude.{Some, IfOk}
use Rattle.desk_data.specs.Situation.{Situation}
use Rattle.desk_model.specs.declared.answer.Entry.{Entry}
use Rattle.desk_model.specs.States.{opening}
use Rattle.live_board.specs.Histories.{history, origin}
use Rattle.live_board.specs.Words.{stands_for}
use Rattle.desk_model.specs.Views.{AreSeen}
use Rattle.desk_core.specs.Sights.{HaveLines}
use Rattle.desk_core.specs.Told.{told_to}
use Rattle.desk_core.proofs.board_telling.BoardTelling.end.Goals as goal

pub returns-clause-seen : goal.returns-clause-seen
returns-clause-seen g c =
    let t = c.requires.told in
    let log = stands_for c.note-note.result in
    let is : log ≡ told_to c.tell_rest.new.self = c.note-note.ensures in
    let from : origin log ≡ Some t.0 = ap origin is ∙ (c.tell_rest.ensures.told t.0 t.2).0 in
    let all : history log ≡ c.args.book.now.journal = ap history is ∙ c.in_ok-tell_rest.ensures.all in
    subst (λ (I : Situation). IfOk c.seen_lines.result (λ lines. AreSeen (opening I) c.args.book.now.journal lines.items)) t.1
    (subst (λ (h : List Entry). IfOk c.seen_lines.result (λ lines. AreSeen (opening t.0.opening) h lines.items)) all (c.seen_lines.ensures.seen t.0 from))

pub returns-clause-each : goal.returns-clause-each
returns-clause-each g c =
    let t = c.requires.told in
    let log = stands_for c.note-note.result in
    let is : log ≡ told_to c.tell_rest.new.self = c.note-note.ensures in
    let from : origin log ≡ Some t.0 = ap origin is ∙ (c.tell_rest.ensures.told t.0 t.2).0 in
    let all : history log ≡ c.args.book.now.journal = ap history is ∙ c.in_ok-tell_rest.ensures.all in
    subst (λ (I : Situation). IfOk c.seen_lines.result (λ lines. HaveLines (opening I) c.args.book.now.journal (λ n. history (stands_for n)) c.args.notes.now lines.items)) t.1
    (subst (λ (h : List Entry). IfOk c.seen_lines.result (λ lines. HaveLines (opening t.0.opening) h (λ n. history (stands_for n)) c.args.notes.now lines.items)) all (c.seen_lines.ensures.each t.0 from c.requires.rising c.requires.few))
