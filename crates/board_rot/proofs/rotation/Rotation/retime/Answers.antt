use Rattle.std.proofs.Common.{◌≡◌, ◌+◌, List, ap, subst, ◌∙◌}
use Rattle.plan_reads.specs.declared.rotation_leg.RotationLeg.{RotationLeg}
use Rattle.board_rot.specs.Summaries.{same_rotation_leg}
use Rattle.board_rot.specs.Kept.{RotationLegs}
use Rattle.board_rot.specs.Changes.{IsMovedTo}
use Rattle.board_rot.proofs.SideLaws.{right_is}
use Rattle.board_rot.proofs.TestLaws.{has-from, has_lacks, turned_set}
use Rattle.board_rot.proofs.RotationLegLaws.{rotation_legs_same, rotation_legs_exact}
use Rattle.std.proofs.Common.{true, false, refl}
use Rattle.board_rot.proofs.rotation.Rotation.retime.Goals as goal

pub returns-in-Some-clause-some : goal.returns-in-Some-clause-some
returns-in-Some-clause-some c =
    let old = c.self.inside.rotation_legs.items in
    let ready : c.reserve.new.self.items ≡ old = c.in_ok-reserve.ensures.items in
    let new = c.replace.new.self.items in
    let r = c.in-Some.ensures.set rotation_legs_exact in
    let now : RotationLegs = record { rotation_legs = new; edits = c.self.inside.edits + 2 } in
    let was : RotationLegs = record { rotation_legs = c.reserve.new.self.items; edits = c.self.inside.edits } in
    let moved : IsMovedTo was now c.args.from c.args.to c.in-Some.next.item = record {
      mid = r.mid;
      gone = turned_set same_rotation_leg c.reserve.new.self.items r.mid c.args.from false rotation_legs_same r.gone (has-from same_rotation_leg c.reserve.new.self.items c.args.from rotation_legs_same r.had);
      come = turned_set same_rotation_leg r.mid new c.args.to true rotation_legs_same r.come (has_lacks same_rotation_leg r.mid c.args.to rotation_legs_same r.lacked);
      edits = refl;
      right = right_is new c.args.to c.in-Some.next.item c.in-Some.ensures.after;
      was = right_is c.reserve.new.self.items c.args.from c.in-Some.next.item c.in-Some.ensures.was;
    } in
    subst (λ (before : RotationLegs). IsMovedTo before now c.args.from c.args.to c.in-Some.next.item) (ap (λ (ts : List RotationLeg). let t : RotationLegs = record { rotation_legs = ts; edits = c.self.inside.edits } in t) ready ∙ c.self.view_is) moved
