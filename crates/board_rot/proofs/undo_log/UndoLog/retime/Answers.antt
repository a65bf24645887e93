use Rattle.std.proofs.Common.{rules, ◌≡◌, ◌+◌, ◌<◌, ◌≤◌, ap, sym, subst, ◌∙◌, arith, length, get_or, set, List, [], ◌∷◌, ◌++◌, Ok, Err}
use Rattle.std.specs.Prelude.{Result, IsOk, is_ok, if◌then◌else◌}
use Rattle.std.proofs.lemmas.List.{get_or_default, get_or-set_same}
use Rattle.plan_reads.specs.declared.rotation_leg.RotationLeg.{RotationLeg}
use Rattle.board_rot.specs.declared.edit.Edit.{Edit}
use Rattle.board_rot.specs.declared.edit.Edit.TheVariants.{OfLeg}
use Rattle.board_rot.specs.Summaries.{turned, same_rotation_leg}
use Rattle.board_rot.specs.Kept.{RotationLegs, Lists, no_rotation_legs, seen, has_rotation_leg}
use Rattle.board_rot.specs.Meaning.{IsRightOf}
use Rattle.board_rot.specs.Changes.{IsMoved}
use Rattle.board_rot.proofs.LogLaws.{few_edits}
use Rattle.board_rot.proofs.MoveLaws.{moved_logged, moved_seen, some_is}
use Rattle.board_rot.proofs.undo_log.UndoLog.retime.Goals as goal

by_ok : {E : Type 0} (r : Result Unit E) (xs ys zs : List Edit) → zs ≡ (if is_ok r then xs else ys) → IsOk r → zs ≡ xs
by_ok (Ok x) xs ys zs is ok = is
by_ok (Err e) xs ys zs is ok = absurd cc

pub retime-requires : goal.retime-requires
retime-requires c =
    let s = c.self.inside in
    let within : c.args.plane.0 < length s.rotations.items = omega (arith, c.requires, ap (λ (l : Lists). length l.rotations) c.self.view_is) in
    let here : (get_or s.rotations.items c.args.plane.0 no_rotation_legs).edits ≡ c.index_mut.result.now.edits =
    ap (λ (r : RotationLegs). r.edits) (get_or_default s.rotations.items c.args.plane.0 no_rotation_legs c.index_mut.result.now within ∙ sym c.index_mut.ensures.value) in
    let few : length s.edits.items + 3 < 18446744073709551616 = search rules in
    omega (arith, few, here, few_edits s.rotations.items s.broken s.edits.items c.args.plane.0 c.self.invariant within)

pub invariant_of-self-in-Some : goal.invariant_of-self-in-Some
invariant_of-self-in-Some c =
    let s = c.self.inside in
    let p = c.args.plane.0 in
    let m = some_is _ _ c.in-Some.next c.in-Some.is c.in_ok-next.ensures.some in
    let within : p < length s.rotations.items = omega (arith, c.requires, ap (λ (l : Lists). length l.rotations) c.self.view_is) in
    let here : c.index_mut.result.now ≡ get_or s.rotations.items p no_rotation_legs = c.index_mut.ensures.value ∙ sym (get_or_default s.rotations.items p no_rotation_legs c.index_mut.result.now within) in
    let room : length c.reserve.new.self.items + (length s.edits.items + 3) ≤ c.reserve.new.self.room = search rules in
    let kept = c.reserve-2.new.self.items in
    let long = c.in_ok-reserve-2.ensures.ok in
    let first : c.push-from.new.self.items ≡ kept ++ OfLeg c.args.plane c.args.from ∷ [] =
    by_ok c.push-from.result (kept ++ OfLeg c.args.plane c.args.from ∷ []) kept c.push-from.new.self.items c.push-from.ensures.items (c.push-from.ensures.succeeds (omega (arith, long))) in
    let second : c.push-to.new.self.items ≡ c.push-from.new.self.items ++ OfLeg c.args.plane c.args.to ∷ [] =
    by_ok c.push-to.result (c.push-from.new.self.items ++ OfLeg c.args.plane c.args.to ∷ []) c.push-from.new.self.items c.push-to.new.self.items c.push-to.ensures.items
    (c.push-to.ensures.succeeds (omega (arith, long, c.push-from.ensures.capacity, c.push-from.ensures.upper_bound))) in
    let logged : c.push-to.new.self.items ≡ (s.edits.items ++ OfLeg c.args.plane c.args.from ∷ []) ++ OfLeg c.args.plane c.args.to ∷ [] =
    second ∙ ap (λ (es : List Edit). es ++ OfLeg c.args.plane c.args.to ∷ []) first
    ∙ ap (λ (es : List Edit). (es ++ OfLeg c.args.plane c.args.from ∷ []) ++ OfLeg c.args.plane c.args.to ∷ []) c.in_ok-reserve-2.ensures.items in
    moved_logged s.rotations.items s.broken c.reserve.new.self s.edits.items c.push-to.new.self.items c.args.plane c.args.from c.args.to m.mid c.retime.new.self c.self.invariant within
    (m.edits ∙ ap (λ (r : RotationLegs). r.edits + 2) here) c.in_ok-reserve.ensures.items room logged

pub returns-in-Some-clause-some : goal.returns-in-Some-clause-some
returns-in-Some-clause-some c =
    let s = c.self.inside in
    let p = c.args.plane.0 in
    let m = some_is _ _ c.in-Some.next c.in-Some.is c.in_ok-next.ensures.some in
    let within : p < length s.rotations.items = omega (arith, c.requires, ap (λ (l : Lists). length l.rotations) c.self.view_is) in
    let here : c.index_mut.result.now ≡ get_or s.rotations.items p no_rotation_legs = c.index_mut.ensures.value ∙ sym (get_or_default s.rotations.items p no_rotation_legs c.index_mut.result.now within) in
    let kept = c.reserve-2.new.self.items in
    let long = c.in_ok-reserve-2.ensures.ok in
    let first : c.push-from.new.self.items ≡ kept ++ OfLeg c.args.plane c.args.from ∷ [] =
    by_ok c.push-from.result (kept ++ OfLeg c.args.plane c.args.from ∷ []) kept c.push-from.new.self.items c.push-from.ensures.items (c.push-from.ensures.succeeds (omega (arith, long))) in
    let second : c.push-to.new.self.items ≡ c.push-from.new.self.items ++ OfLeg c.args.plane c.args.to ∷ [] =
    by_ok c.push-to.result (c.push-from.new.self.items ++ OfLeg c.args.plane c.args.to ∷ []) c.push-from.new.self.items c.push-to.new.self.items c.push-to.ensures.items
    (c.push-to.ensures.succeeds (omega (arith, long, c.push-from.ensures.capacity, c.push-from.ensures.upper_bound))) in
    let logged : c.push-to.new.self.items ≡ (s.edits.items ++ OfLeg c.args.plane c.args.from ∷ []) ++ OfLeg c.args.plane c.args.to ∷ [] =
    second ∙ ap (λ (es : List Edit). es ++ OfLeg c.args.plane c.args.to ∷ []) first
    ∙ ap (λ (es : List Edit). (es ++ OfLeg c.args.plane c.args.from ∷ []) ++ OfLeg c.args.plane c.args.to ∷ []) c.in_ok-reserve-2.ensures.items in
    let next = c.in-Some.next.item in
    let old : Lists = record { rotations = s.rotations.items; broken = s.broken.items; edits = s.edits.items } in
    let new : Lists = record { rotations = set s.rotations.items p c.retime.new.self; broken = c.reserve.new.self.items; edits = c.push-to.new.self.items } in
    let moved : IsMoved (seen old) (seen new) c.args.plane c.args.from c.args.to next = record {
      edits = moved_seen s.rotations.items s.broken.items c.reserve.new.self.items s.edits.items c.push-to.new.self.items c.args.plane c.args.from c.args.to m.mid c.retime.new.self within
          (m.gone ∙ ap (λ (r : RotationLegs). turned (λ (t : RotationLeg). same_rotation_leg t c.args.from) (has_rotation_leg r.rotation_legs)) here) m.come c.in_ok-reserve.ensures.items logged;
      right = subst (λ (r : RotationLegs). IsRightOf (has_rotation_leg r.rotation_legs) c.args.to next) (sym (get_or-set_same s.rotations.items p c.retime.new.self no_rotation_legs within)) m.right;
      was = subst (λ (r : RotationLegs). IsRightOf (has_rotation_leg r.rotation_legs) c.args.from next) here m.was;
    } in
    subst (λ (l : Lists). IsMoved (seen l) (seen new) c.args.plane c.args.from c.args.to next) c.self.view_is moved
