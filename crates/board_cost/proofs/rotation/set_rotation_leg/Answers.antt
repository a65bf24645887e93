use Rattle.std.proofs.Common.{sym, subst}
use Rattle.kept_set.specs.Kept.{OrderedItems, AreSet}
use Rattle.board_cost.specs.declared.rotation_leg.ArrivingLeg.{ArrivingLeg}
use Rattle.board_cost.proofs.RotationLegLaws.{rotation_legs_exact}
use Rattle.board_cost.proofs.rotation.set_rotation_leg.Goals.{then-is_in, else-is_in}
use Rattle.board_cost.proofs.rotation.set_rotation_leg.Goals as goal

pub returns-clause-set : goal.returns-clause-set
returns-clause-set c =
    let old = c.args.rotation_legs.now.items in
    elim c.if-is_in.branch [
      | then-is_in w ↦ subst (λ (kept : OrderedItems ArrivingLeg). AreSet old kept.items c.args.rotation_leg c.args.is_in) (sym w.rotation_legs-is)
          (subst (AreSet old w.put.new.self.items c.args.rotation_leg) (sym w.if-is_in.true) (w.put.ensures.set rotation_legs_exact))
      | else-is_in w ↦ subst (λ (kept : OrderedItems ArrivingLeg). AreSet old kept.items c.args.rotation_leg c.args.is_in) (sym w.rotation_legs-is)
          (subst (AreSet old w.take.new.self.items c.args.rotation_leg) (sym w.if-is_in.false) (w.take.ensures.set rotation_legs_exact))
    ]
