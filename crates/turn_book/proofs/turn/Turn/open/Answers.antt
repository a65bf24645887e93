use Rattle.std.proofs.Common.{ℕ, ◌++◌, ◌∷◌, [], List, Some, Option, sym, ap, ◌∙◌, subst}
use Rattle.atomic_table.specs.Table.{opening}
use Rattle.turn_book.specs.Histories.{IsLegal}
use Rattle.turn_book.specs.Knowing.{opened}
use Rattle.turn_book.specs.Rule.{TurnRule}
use Rattle.turn_book.proofs.Closing.{opens}
use Rattle.turn_book.proofs.turn.Turn.open.Goals as goal

pub new-requires : goal.new-requires
new-requires g c =
    let legal = IsLegal g.B.SharedBook.may_ask g.B.SharedBook.answers in
    let journal = g.B.SharedBook.journal in
    let start = g.B.SharedBook.opening in
    let f = opens start journal legal c.args.book c.entries-count.ensures.legal in
    let items = c.push_reserved.ensures.items ∙ ap (λ (l : List (Option g.row.B.Denot)). l ++ Some c.args.book ∷ []) c.in-Ok.ensures.items in
    let count = c.from.ensures ∙ c.entries-count.ensures.count in
    subst (λ (y : g.row.B.Denot × ℕ × List (Option g.row.B.Denot)). TurnRule start journal legal y.0 (opening (0 ∷ y.1 ∷ []) y.2 (opened (start y.0) (journal y.0)))) (λ i. (sym c.of-about.ensures i, sym count i, sym items i)) f
