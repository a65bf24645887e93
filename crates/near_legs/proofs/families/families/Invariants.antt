use Rattle.std.proofs.Common.{◌≡◌, ◌<◌, map}
use Rattle.std.specs.List.{All}
use Rattle.desk_rules.specs.Numbers.{numbers}
use Rattle.near_moves.specs.MoveParts.{family_of}
use Rattle.near_legs.proofs.families.families.Given as goal

abbrev pub invariant-loop-p : goal.invariant-loop-p
invariant-loop-p l = record {
  done : map (λ f. map (λ p. p.0) f.items) l.all.items ≡ map (family_of l.inst) (numbers l.p);
  firsts : All (λ q. q.0 < l.p) l.firsts.items;
}
