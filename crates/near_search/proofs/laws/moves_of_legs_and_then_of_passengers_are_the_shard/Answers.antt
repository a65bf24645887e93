use Rattle.near_search.proofs.FirstLaws.{given-shard}
use Rattle.near_search.proofs.laws.moves_of_legs_and_then_of_passengers_are_the_shard.Goals as goal

pub returns : goal.returns
returns c = given-shard
