use Rattle.std.proofs.Common.{sym, ap, ◌∙◌, subst, refl}
use Rattle.std.specs.Prelude.{IsSome}
use Rattle.turn_book.specs.Histories.{IsLegal}
use Rattle.turn_book.proofs.Closing.{closes, back}
use Rattle.turn_book.proofs.Chains.{some_same}
use Rattle.turn_book.proofs.turn.Turn.close.Goals as goal

pub unwrap-requires : goal.unwrap-requires
unwrap-requires g c =
    let f = c.close_with-closed.ensures.values.2 in
    let x = closes g.B.SharedBook.opening g.B.SharedBook.journal (IsLegal g.B.SharedBook.may_ask g.B.SharedBook.answers) c.args.self.table.shared.key.value f.0 c.args.pass.seat.id c.args.pass.seat.me.0 f.1.0 f.1.1 (λ e. absurd (cc (e, c.requires.of.1))) c.args.pass.rests.0 c.requires.first c.requires.all in
    subst IsSome (sym (back _ _ x.0.book c.take-held.result x.0.there f.4 c.take-held.ensures.value)) refl

pub returns-clause-opening : goal.returns-clause-opening
returns-clause-opening g c =
    let f = c.close_with-closed.ensures.values.2 in
    let x = closes g.B.SharedBook.opening g.B.SharedBook.journal (IsLegal g.B.SharedBook.may_ask g.B.SharedBook.answers) c.args.self.table.shared.key.value f.0 c.args.pass.seat.id c.args.pass.seat.me.0 f.1.0 f.1.1 (λ e. absurd (cc (e, c.requires.of.1))) c.args.pass.rests.0 c.requires.first c.requires.all in
    ap g.B.SharedBook.opening (some_same _ _ (sym c.unwrap.ensures ∙ back _ _ x.0.book c.take-held.result x.0.there f.4 c.take-held.ensures.value)) ∙ x.0.same

pub returns-clause-seen : goal.returns-clause-seen
returns-clause-seen g c =
    let f = c.close_with-closed.ensures.values.2 in
    let x = closes g.B.SharedBook.opening g.B.SharedBook.journal (IsLegal g.B.SharedBook.may_ask g.B.SharedBook.answers) c.args.self.table.shared.key.value f.0 c.args.pass.seat.id c.args.pass.seat.me.0 f.1.0 f.1.1 (λ e. absurd (cc (e, c.requires.of.1))) c.args.pass.rests.0 c.requires.first c.requires.all in
    ap g.B.SharedBook.journal (some_same _ _ (sym c.unwrap.ensures ∙ back _ _ x.0.book c.take-held.result x.0.there f.4 c.take-held.ensures.value)) ∙ x.0.all

pub returns-clause-made : goal.returns-clause-made
returns-clause-made g c =
    let f = c.close_with-closed.ensures.values.2 in
    let x = closes g.B.SharedBook.opening g.B.SharedBook.journal (IsLegal g.B.SharedBook.may_ask g.B.SharedBook.answers) c.args.self.table.shared.key.value f.0 c.args.pass.seat.id c.args.pass.seat.me.0 f.1.0 f.1.1 (λ e. absurd (cc (e, c.requires.of.1))) c.args.pass.rests.0 c.requires.first c.requires.all in
    ap g.B.SharedBook.journal (some_same _ _ (sym c.unwrap.ensures ∙ back _ _ x.0.book c.take-held.result x.0.there f.4 c.take-held.ensures.value)) ∙ x.0.all ∙ x.1

pub returns-clause-places : goal.returns-clause-places
returns-clause-places g c =
    let f = c.close_with-closed.ensures.values.2 in
    (closes g.B.SharedBook.opening g.B.SharedBook.journal (IsLegal g.B.SharedBook.may_ask g.B.SharedBook.answers) c.args.self.table.shared.key.value f.0 c.args.pass.seat.id c.args.pass.seat.me.0 f.1.0 f.1.1 (λ e. absurd (cc (e, c.requires.of.1))) c.args.pass.rests.0 c.requires.first c.requires.all).2
