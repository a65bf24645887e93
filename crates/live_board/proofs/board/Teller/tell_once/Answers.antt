use Rattle.std.proofs.Common.{rules, ◌≡◌, ap, sym, ◌∙◌, [], ◌∷◌, ◌++◌, drop}
use Rattle.std.proofs.lemmas.Option.{same_Some}
use Rattle.live_board.specs.Histories.{origin, tells}
use Rattle.live_board.proofs.Tellings.{some_of}
use Rattle.live_board.proofs.board.Teller.tell_once.Goals as goal

pub view_after-view-requires : goal.view_after-view-requires
view_after-view-requires g c =
    let shown = c.args.self.now.last.shown in
    let b = some_of (origin shown.seen.log) shown.opened in
    (b.0, shown.seen.log, b.1, shown.viewed, c.requires.next)

pub publish-writer-requires-clause-later : goal.publish-writer-requires-clause-later
publish-writer-requires-clause-later g c =
    let shown = c.requires.shown c.in-Some-take.writer (sym c.take.ensures.value ∙ c.in-Some-take.is) in
    let more = tells c.args.entries.now ∷ [] in
    let new = c.new.ensures.1 ∙ c.in-Some.ensures.log in
    (more, ap (λ l. l ++ more) shown ∙ sym new)

pub returns-in-Err-clause-shown : goal.returns-in-Err-clause-shown
returns-in-Err-clause-shown g c w is =
    let shown = c.requires.shown c.in-Some-take.writer (sym c.take.ensures.value ∙ c.in-Some-take.is) in
    let same : c.publish-writer.result.0 ≡ w = same_Some c.publish-writer.result.0 w (sym c.replace-nothing.ensures.after ∙ is) in
    let kept : g.T.Boarded.log c.publish-writer.result.0.desk.shown.value ≡ g.T.Boarded.log c.in-Some-take.writer.desk.shown.value = search rules in
    ap (λ z. g.T.Boarded.log z.desk.shown.value) (sym same) ∙ (kept ∙ shown)

pub returns-in-Err-clause-waits : goal.returns-in-Err-clause-waits
returns-in-Err-clause-waits g c w x was is =
    let same : c.publish-writer.result.0 ≡ x = same_Some c.publish-writer.result.0 x (sym c.replace-nothing.ensures.after ∙ is) in
    let before : c.in-Some-take.writer ≡ w = same_Some c.in-Some-take.writer w (sym (sym c.take.ensures.value ∙ c.in-Some-take.is) ∙ was) in
    let kept : drop c.publish-writer.result.0.behind c.publish-writer.result.0.log.items ≡ drop c.in-Some-take.writer.behind c.in-Some-take.writer.log.items = search rules in
    ap (λ z. drop z.behind z.log.items) (sym same) ∙ (kept ∙ ap (λ z. drop z.behind z.log.items) before)
