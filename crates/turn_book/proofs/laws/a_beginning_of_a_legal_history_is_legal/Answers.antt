use Rattle.turn_book.proofs.Chains.{legal_beginning}
use Rattle.turn_book.proofs.laws.a_beginning_of_a_legal_history_is_legal.Goals as goal

pub returns : goal.returns
returns g c = legal_beginning g.B.SharedBook.may_ask g.B.SharedBook.answers
