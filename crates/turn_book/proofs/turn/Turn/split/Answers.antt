use Rattle.std.proofs.Common.{rules, sym, ap, ◌∙◌, subst}
use Rattle.turn_book.specs.Histories.{IsLegal}
use Rattle.turn_book.proofs.Chains.{legal_beginning}
use Rattle.turn_book.proofs.Forks.{splits_allowed, tells_allowed}
use Rattle.turn_book.proofs.turn.Turn.split.Goals as goal

pub load-requires : goal.load-requires
load-requires g c = (c.requires.of.0, search rules, tells_allowed _ _ _ _ (legal_beginning g.B.SharedBook.may_ask g.B.SharedBook.answers) _ _ _ (λ e. absurd (cc (e, c.requires.of.1))))

pub split_seat-seat-requires : goal.split_seat-seat-requires
split_seat-seat-requires g c = (
  c.load.ensures.0 ∙ c.requires.of.0,
  search rules,
  splits_allowed _ _ _ _ _ _ (λ e. let from = sym (ap (λ m. m.0.from) c.load.ensures.2.after) ∙ e in absurd (cc (from, c.requires.of.1))),
)

pub returns-clause-legal : goal.returns-clause-legal
returns-clause-legal g c =
    let o = g.B.SharedBook.opening c.args.self.now.table.shared.key.value in
    let seat = c.split_seat-seat.ensures in
    let lawful = c.load.ensures.2.lawful o c.requires.of.1 in
    let same = ap (λ m. m.0.seen) c.load.ensures.2.after in (
      subst (IsLegal g.B.SharedBook.may_ask g.B.SharedBook.answers o) (sym (ap (λ m. m.0.seen) seat.2 ∙ same)) lawful,
      subst (IsLegal g.B.SharedBook.may_ask g.B.SharedBook.answers o) (sym (ap (λ m. m.0.seen) seat.4 ∙ same)) lawful,
    )
