use Rattle.near_memory.proofs.RouteLegs.{routes-legs}
use Rattle.near_memory.proofs.laws.the_legs_of_routes_can_be_told.Goals as goal

pub returns : goal.returns
returns c = routes-legs
