-- How far a book has come.
use Rattle.std.specs.Prelude.{◌-◌, length}
use Rattle.desk_rules.specs.Cost.{grains}
use Rattle.desk_model.specs.Histories.{changes}
use Rattle.desk_model.specs.Promises.{cost_of}
use Rattle.desk_core.specs.Recorded.{Recorded, state_of}
use Rattle.desk_units.specs.declared.headway.Headway.{Headway}
use Rattle.near_moves.specs.Descents.{batches_in}

-- the number of its last batch, counted from 0, how many batches were taken and moves accepted, and what its plan costs
abbrev pub headway_of : Recorded → Headway
headway_of B = record {
  batch = length (batches_in B.journal) - 1;
  changes = changes B.journal;
  cost = grains (cost_of (state_of B));
}
