use Rattle.turn_book.specs.Histories.{IsLegal}
use Rattle.turn_book.proofs.Wording.{in_words}
use Rattle.turn_book.proofs.laws.the_rule_in_words.Goals as goal

pub returns : goal.returns
returns g c = in_words g.B.SharedBook.opening g.B.SharedBook.journal (IsLegal g.B.SharedBook.may_ask g.B.SharedBook.answers)
