use Rattle.near_moves.proofs.ShardLaws.{moves-part, moves-others, none-better, none-found}
use Rattle.near_moves.proofs.shards.shards_hold_the_moves.Goals as goal

pub returns : goal.returns
returns c = record { part = moves-part; others = moves-others; none = none-better; quiet = none-found }
