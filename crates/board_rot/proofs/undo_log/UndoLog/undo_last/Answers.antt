use Rattle.std.proofs.Common.{◌≡◌, ◌+◌, ◌-◌, ap, sym, ◌∙◌, arith, length, get_or, [], ◌∷◌, ◌++◌}
use Rattle.std.proofs.lemmas.List.{get_or_default}
use Rattle.plan_reads.specs.declared.rotation_leg.RotationLeg.{RotationLeg}
use Rattle.board_rot.specs.declared.edit.Edit.{Edit}
use Rattle.board_rot.specs.declared.edit.Edit.TheVariants.{OfLeg, OfItem}
use Rattle.board_rot.specs.Summaries.{back_to, turned, same_rotation_leg}
use Rattle.board_rot.specs.Kept.{RotationLegs, Lists, no_rotation_legs, seen, has_rotation_leg}
use Rattle.board_rot.proofs.LogLaws.{rotation_leg_place, rotation_leg_counted, rotation_leg_unlogged, rotation_leg_unseen, item_unseen}
use Rattle.board_rot.proofs.undo_log.UndoLog.undo_last.Goals as goal

pub toggle_back-requires : goal.toggle_back-requires
toggle_back-requires c =
    let s = c.self.inside in
    let p = c.in-OfLeg.plane.0 in
    let was : s.edits.items ≡ c.pop.new.self.items ++ OfLeg c.in-OfLeg.plane c.in-OfLeg.rotation_leg ∷ [] = c.in-Some.ensures.items ∙ ap (λ (e : Edit). c.pop.new.self.items ++ e ∷ []) c.in-OfLeg.is in
    let within = rotation_leg_place s.rotations.items s.broken c.pop.new.self.items s.edits.items c.in-OfLeg.plane c.in-OfLeg.rotation_leg c.self.invariant was in
    let here : (get_or s.rotations.items p no_rotation_legs).edits ≡ c.index_mut.result.now.edits = ap (λ (r : RotationLegs). r.edits) (get_or_default s.rotations.items p no_rotation_legs c.index_mut.result.now within ∙ sym c.index_mut.ensures.value) in
    omega (arith, here, rotation_leg_counted s.rotations.items s.broken c.pop.new.self.items s.edits.items c.in-OfLeg.plane c.in-OfLeg.rotation_leg c.self.invariant was)

pub invariant_of-self : goal.invariant_of-self
invariant_of-self c =
    let s = c.self.inside in
    let p = c.in-OfLeg.plane.0 in
    let was : s.edits.items ≡ c.pop.new.self.items ++ OfLeg c.in-OfLeg.plane c.in-OfLeg.rotation_leg ∷ [] = c.in-Some.ensures.items ∙ ap (λ (e : Edit). c.pop.new.self.items ++ e ∷ []) c.in-OfLeg.is in
    let within = rotation_leg_place s.rotations.items s.broken c.pop.new.self.items s.edits.items c.in-OfLeg.plane c.in-OfLeg.rotation_leg c.self.invariant was in
    let here : c.index_mut.result.now ≡ get_or s.rotations.items p no_rotation_legs = c.index_mut.ensures.value ∙ sym (get_or_default s.rotations.items p no_rotation_legs c.index_mut.result.now within) in
    rotation_leg_unlogged s.rotations.items s.broken c.pop.new.self.items s.edits.items c.in-OfLeg.plane c.in-OfLeg.rotation_leg c.toggle_back.new.self c.self.invariant was
    (c.toggle_back.ensures.edits ∙ ap (λ (r : RotationLegs). r.edits) here)

pub returns-in-OfLeg : goal.returns-in-OfLeg
returns-in-OfLeg c =
    let s = c.self.inside in
    let p = c.in-OfLeg.plane.0 in
    let was : s.edits.items ≡ c.pop.new.self.items ++ OfLeg c.in-OfLeg.plane c.in-OfLeg.rotation_leg ∷ [] = c.in-Some.ensures.items ∙ ap (λ (e : Edit). c.pop.new.self.items ++ e ∷ []) c.in-OfLeg.is in
    let within = rotation_leg_place s.rotations.items s.broken c.pop.new.self.items s.edits.items c.in-OfLeg.plane c.in-OfLeg.rotation_leg c.self.invariant was in
    let here : c.index_mut.result.now ≡ get_or s.rotations.items p no_rotation_legs = c.index_mut.ensures.value ∙ sym (get_or_default s.rotations.items p no_rotation_legs c.index_mut.result.now within) in
    let edits : length s.edits.items ≡ length c.args.self.now.edits = ap (λ (l : Lists). length l.edits) c.self.view_is in
    let one : (length c.args.self.now.edits - 1) + 1 ≡ length s.edits.items = omega (arith, edits, c.requires) in
    rotation_leg_unseen s.rotations.items s.broken.items c.pop.new.self.items s.edits.items c.in-OfLeg.plane c.in-OfLeg.rotation_leg c.toggle_back.new.self (length c.args.self.now.edits - 1) within
    (c.toggle_back.ensures.has ∙ ap (λ (r : RotationLegs). turned (λ (t : RotationLeg). same_rotation_leg t c.in-OfLeg.rotation_leg) (has_rotation_leg r.rotation_legs)) here) was one
    ∙ ap (λ (l : Lists). back_to (length c.args.self.now.edits - 1) (seen l)) c.self.view_is

pub returns-in-OfItem : goal.returns-in-OfItem
returns-in-OfItem c =
    let s = c.self.inside in
    let was : s.edits.items ≡ c.pop.new.self.items ++ OfItem c.in-OfItem.item ∷ [] = c.in-Some.ensures.items ∙ ap (λ (e : Edit). c.pop.new.self.items ++ e ∷ []) c.in-OfItem.is in
    let edits : length s.edits.items ≡ length c.args.self.now.edits = ap (λ (l : Lists). length l.edits) c.self.view_is in
    let one : (length c.args.self.now.edits - 1) + 1 ≡ length s.edits.items = omega (arith, edits, c.requires) in
    item_unseen s.rotations.items s.broken.items c.toggle.new.items.items c.pop.new.self.items s.edits.items c.in-OfItem.item (length c.args.self.now.edits - 1) c.toggle.ensures.has was one
    ∙ ap (λ (l : Lists). back_to (length c.args.self.now.edits - 1) (seen l)) c.self.view_is
