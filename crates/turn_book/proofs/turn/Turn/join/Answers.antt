use Rattle.std.proofs.Common.{rules, sym, ap, ◌∙◌, subst}
use Rattle.turn_book.specs.Histories.{IsLegal}
use Rattle.turn_book.specs.Places.{AreApart}
use Rattle.turn_book.proofs.Chains.{legal_beginning}
use Rattle.turn_book.proofs.Forks.{joins_allowed, tells_allowed}
use Rattle.turn_book.proofs.turn.Turn.join.Goals as goal

pub join_seat-requires : goal.join_seat-requires
join_seat-requires g c = (
  c.requires.of.0.0,
  c.requires.of.1.0,
  c.args.other.rests.2,
  search rules,
  joins_allowed _ _ _ _ _ _ _ _ (λ e. absurd (cc (e, c.requires.of.0.1))) (λ e. absurd (cc (e, c.requires.of.1.1))) c.args.pass.now.rests.1 c.args.other.rests.0,
)

pub load-requires : goal.load-requires
load-requires g c = (
  c.join_seat.ensures.0 ∙ c.requires.of.0.0,
  search rules,
  tells_allowed _ _ _ _ (legal_beginning g.B.SharedBook.may_ask g.B.SharedBook.answers) _ _ _ (λ e. let from = sym (ap (λ m. m.0.from) c.join_seat.ensures.2) ∙ e in absurd (cc (from, c.requires.of.0.1))),
)

pub returns-then-pass-count-clause-apart : goal.returns-then-pass-count-clause-apart
returns-then-pass-count-clause-apart g c = subst (λ m. AreApart m.0.tags.left_made m.0.tags.right_made) c.join_seat.ensures.2 c.load.ensures.2.apart

pub returns-else-pass-count-clause-apart : goal.returns-else-pass-count-clause-apart
returns-else-pass-count-clause-apart g c = subst (λ m. AreApart m.0.tags.left_made m.0.tags.right_made) c.join_seat.ensures.2 c.load.ensures.2.apart

pub returns-then-pass-count-clause-legal : goal.returns-then-pass-count-clause-legal
returns-then-pass-count-clause-legal g c =
    let o = g.B.SharedBook.opening c.args.self.now.table.shared.key.value in
    subst (λ m. IsLegal g.B.SharedBook.may_ask g.B.SharedBook.answers o m.0.seen) (sym c.load.ensures.2.after) (c.load.ensures.2.lawful o (ap (λ m. m.0.from) c.join_seat.ensures.2 ∙ c.requires.of.0.1))

pub returns-else-pass-count-clause-legal : goal.returns-else-pass-count-clause-legal
returns-else-pass-count-clause-legal g c =
    let o = g.B.SharedBook.opening c.args.self.now.table.shared.key.value in
    subst (λ m. IsLegal g.B.SharedBook.may_ask g.B.SharedBook.answers o m.0.seen) (sym c.load.ensures.2.after) (c.load.ensures.2.lawful o (ap (λ m. m.0.from) c.join_seat.ensures.2 ∙ c.requires.of.0.1))
