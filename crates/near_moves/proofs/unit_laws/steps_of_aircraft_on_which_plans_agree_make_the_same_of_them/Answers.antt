use Rattle.near_moves.proofs.FrameLaws.{steps-alike}
use Rattle.near_moves.proofs.unit_laws.steps_of_aircraft_on_which_plans_agree_make_the_same_of_them.Goals as goal

pub returns : goal.returns
returns c = steps-alike
