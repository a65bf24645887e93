use Rattle.std.proofs.Common.{◌≡◌, ◌<◌, map}
use Rattle.std.specs.List.{All}
use Rattle.desk_data.specs.Situation.{legs_of}
use Rattle.desk_rules.specs.Numbers.{numbers}
use Rattle.desk_model.specs.Push.{rotation}
use Rattle.near_search.specs.Rotations.{numbers_of}
use Rattle.near_search.proofs.rotations.Rotations.of.Given as goal

-- the rotations of the aircraft that are passed
abbrev pub invariant-loop-p : goal.invariant-loop-p
invariant-loop-p l = record {
  done : map (λ legs. numbers_of legs.items) l.legs.items ≡ map (rotation l.eval.inst l.eval.rows) (numbers l.p);
  within : All (λ legs. All (λ leg. leg.0 < legs_of l.eval.inst) legs.items) l.legs.items;
}
