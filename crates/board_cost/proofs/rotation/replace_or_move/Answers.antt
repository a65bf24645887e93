use Rattle.std.proofs.Common.{false, refl, subst}
use Rattle.kept_set.specs.Kept.{OrderedItems, AreSet}
use Rattle.board_cost.specs.declared.rotation_leg.ArrivingLeg.{ArrivingLeg}
use Rattle.board_cost.proofs.RotationLegLaws.{rotation_legs_exact}
use Rattle.board_cost.proofs.rotation.replace_or_move.Goals as goal

pub returns-in-Some-clause-set : goal.returns-in-Some-clause-set
returns-in-Some-clause-set c =
    let r = c.in-Some.ensures.set rotation_legs_exact in
    record { mid = r.mid; left = r.gone; joined = r.come }

pub returns-in-None-clause-set : goal.returns-in-None-clause-set
returns-in-None-clause-set c = record {
  mid = c.take.new.self.items;
  left = subst (λ (kept : OrderedItems ArrivingLeg). AreSet kept.items c.take.new.self.items c.args.gone false) (c.in-None.ensures.none refl) (c.take.ensures.set rotation_legs_exact);
  joined = c.put.ensures.set rotation_legs_exact;
}
