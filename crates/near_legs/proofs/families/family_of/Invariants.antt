use Rattle.std.proofs.Common.{◌≡◌, map}
use Rattle.std.specs.Prelude.{filter}
use Rattle.std.specs.Str.{bytes_eq}
use Rattle.desk_data.specs.Situation.{plane_at}
use Rattle.desk_rules.specs.Numbers.{numbers}
use Rattle.near_legs.proofs.families.family_of.Given as goal

abbrev pub invariant-loop-q : goal.invariant-loop-q
invariant-loop-q l = map (λ p. p.0) l.family.items ≡ filter (λ q. bytes_eq (plane_at l.inst q).family (plane_at l.inst l.plane.0).family) (numbers l.q)
