use Rattle.near_moves.proofs.OwnLaws.{breaks-stays, breaks-worse}
use Rattle.near_moves.proofs.unit_laws.a_move_that_breaks_a_rule_of_its_own_legs_does_so_again.Goals as goal

pub returns : goal.returns
returns c = record { again = breaks-stays; worse = breaks-worse }
