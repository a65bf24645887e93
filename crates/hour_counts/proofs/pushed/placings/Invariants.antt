use Rattle.std.proofs.Common.{◌≡◌, ℕ, map}
use Rattle.desk_units.specs.declared.numbers.Leg.{Leg}
use Rattle.desk_model.specs.Push.{rotation}
use Rattle.hour_counts.proofs.LeftLaws.{IsLeftOf, ArePlaced}
use Rattle.hour_counts.proofs.pushed.placings.Given as goal

abbrev pub invariant-loop-k : goal.invariant-loop-k
invariant-loop-k g l = let order = map (λ (leg : Leg). leg.0) l.legs in record {
  placed : (p : ℕ) → order ≡ rotation l.inst (g.P.ReadPlan.plan_of l.plan) p → ArePlaced l.inst (g.P.ReadPlan.plan_of l.plan) l.after order l.k l.all.items;
  left : IsLeftOf order l.k l.before;
}
