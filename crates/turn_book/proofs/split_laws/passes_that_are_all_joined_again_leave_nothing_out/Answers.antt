use Rattle.turn_book.proofs.SplitLaws.{all_back}
use Rattle.turn_book.proofs.split_laws.passes_that_are_all_joined_again_leave_nothing_out.Goals as goal

pub returns : goal.returns
returns g c = all_back
