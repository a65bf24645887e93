use Rattle.std.proofs.Common.{rules, ◌≡◌, ◌+◌, ◌<◌, ◌≤◌, ap, sym, subst, ◌∙◌, arith, length, get_or, set}
use Rattle.std.proofs.lemmas.List.{get_or_default}
use Rattle.plan_reads.specs.declared.rotation_leg.RotationLeg.{RotationLeg}
use Rattle.board_rot.specs.declared.edit.Edit.TheVariants.{OfLeg}
use Rattle.board_rot.specs.Summaries.{with_edit, turned, same_rotation_leg}
use Rattle.board_rot.specs.Kept.{RotationLegs, Lists, no_rotation_legs, seen, IsLogged, has_rotation_leg}
use Rattle.board_rot.proofs.LogLaws.{few_edits, rotation_leg_logged, rotation_leg_seen}
use Rattle.board_rot.proofs.undo_log.UndoLog.toggle.Goals as goal

pub toggle-requires : goal.toggle-requires
toggle-requires c =
    let s = c.self.inside in
    let within : c.args.plane.0 < length s.rotations.items = omega (arith, c.requires, ap (λ (l : Lists). length l.rotations) c.self.view_is) in
    let here : (get_or s.rotations.items c.args.plane.0 no_rotation_legs).edits ≡ c.index_mut.result.now.edits =
    ap (λ (r : RotationLegs). r.edits) (get_or_default s.rotations.items c.args.plane.0 no_rotation_legs c.index_mut.result.now within ∙ sym c.index_mut.ensures.value) in
    let few : length s.edits.items + 2 < 18446744073709551616 = search rules in
    omega (arith, few, here, few_edits s.rotations.items s.broken s.edits.items c.args.plane.0 c.self.invariant within)

pub invariant_of-self-in-Ok : goal.invariant_of-self-in-Ok
invariant_of-self-in-Ok c =
    let s = c.self.inside in
    let p = c.args.plane.0 in
    let within : p < length s.rotations.items = omega (arith, c.requires, ap (λ (l : Lists). length l.rotations) c.self.view_is) in
    let here : c.index_mut.result.now ≡ get_or s.rotations.items p no_rotation_legs = c.index_mut.ensures.value ∙ sym (get_or_default s.rotations.items p no_rotation_legs c.index_mut.result.now within) in
    let room : length c.reserve.new.self.items + (length s.edits.items + 2) ≤ c.reserve.new.self.room = search rules in
    subst (IsLogged (set s.rotations.items p c.toggle.new.self) c.reserve.new.self) (sym c.in_ok-push.ensures.items)
    (rotation_leg_logged s.rotations.items s.broken c.reserve.new.self s.edits.items c.args.plane c.args.rotation_leg c.toggle.new.self c.self.invariant within
    (c.in-Ok.ensures.edits ∙ ap (λ (r : RotationLegs). r.edits + 1) here) c.in_ok-reserve.ensures.items room)

pub returns-in-Ok-clause-ok : goal.returns-in-Ok-clause-ok
returns-in-Ok-clause-ok c =
    let s = c.self.inside in
    let p = c.args.plane.0 in
    let within : p < length s.rotations.items = omega (arith, c.requires, ap (λ (l : Lists). length l.rotations) c.self.view_is) in
    let here : c.index_mut.result.now ≡ get_or s.rotations.items p no_rotation_legs = c.index_mut.ensures.value ∙ sym (get_or_default s.rotations.items p no_rotation_legs c.index_mut.result.now within) in
    rotation_leg_seen s.rotations.items s.broken.items c.reserve.new.self.items s.edits.items c.push.new.self.items c.args.plane c.args.rotation_leg c.toggle.new.self within
    (c.in-Ok.ensures.has ∙ ap (λ (r : RotationLegs). turned (λ (t : RotationLeg). same_rotation_leg t c.args.rotation_leg) (has_rotation_leg r.rotation_legs)) here) c.in_ok-reserve.ensures.items c.in_ok-push.ensures.items
    ∙ ap (λ (l : Lists). with_edit (OfLeg c.args.plane c.args.rotation_leg) (seen l)) c.self.view_is
