use Rattle.near_moves.specs.Near.{units}
use Rattle.near_moves.proofs.ShardLaws.{shard-of, shard-others, shard-order, shard-one}
use Rattle.near_moves.proofs.shards.shards_part_the_units.Goals as goal

pub returns : goal.returns
returns c = record {
  part = λ I P n u some has. shard-of n (units I P) u some has;
  others = λ I P s n u has. shard-others s n (units I P) u has;
  order = λ I P s n test pairs. shard-order s n (units I P) test pairs;
  one = shard-one;
}
