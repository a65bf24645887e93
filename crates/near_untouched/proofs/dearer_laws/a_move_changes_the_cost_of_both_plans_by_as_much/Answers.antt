use Rattle.near_untouched.proofs.DearerLaws.{dearer-stays}
use Rattle.near_untouched.proofs.dearer_laws.a_move_changes_the_cost_of_both_plans_by_as_much.Goals as goal

pub returns : goal.returns
returns c = dearer-stays
