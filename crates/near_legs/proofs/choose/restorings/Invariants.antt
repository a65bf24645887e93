use Rattle.std.proofs.Common.{◌≡◌, ◌∷◌, map, take}
use Rattle.std.specs.Prelude.{filter}
use Rattle.near_legs.specs.declared.choice.Choice.TheVariants.{Alone, Both}
use Rattle.near_legs.specs.Choices.{is_back_in_time}
use Rattle.near_legs.proofs.choose.restorings.Given as goal

abbrev pub invariant-loop-back : goal.invariant-loop-back
invariant-loop-back l = l.all.items ≡ Alone l.leg l.plane ∷ map (Both l.leg l.plane) (filter (λ b. is_back_in_time l.inst l.leg.0 b.0) (take l.back-index l.backs))
