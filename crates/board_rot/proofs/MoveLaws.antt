-- The log of a summary as a leg departs at another moment, in its place: that is two edits.
use Rattle.std.proofs.Common.{◌≡◌, ℕ, ◌+◌, ◌<◌, ◌≤◌, List, [], ◌∷◌, ◌++◌, length, get_or, set, refl, sym, ap, subst, ◌∙◌, arith}
use Rattle.std.specs.Prelude.{Option, Some, None, IfSome}
use Rattle.desk_data.specs.Situation.{Situation, legs_of}
use Rattle.std.proofs.lemmas.List.{get_or-set_same, length-set, length-append, set-set}
use Rattle.desk_units.specs.declared.numbers.Plane.{Plane}
use Rattle.desk_data.specs.declared.broken.Broken.{Broken}
use Rattle.kept_set.specs.Kept.{OrderedItems}
use Rattle.plan_reads.specs.declared.rotation_leg.RotationLeg.{RotationLeg}
use Rattle.board_rot.specs.declared.edit.Edit.{Edit}
use Rattle.board_rot.specs.declared.edit.Edit.TheVariants.{OfLeg}
use Rattle.board_rot.specs.Summaries.{Edited, LedTo, same_rotation_leg, turned, with_edit}
use Rattle.board_rot.specs.Kept.{has_rotation_leg, RotationLegs, no_rotation_legs, rotation_legs_of, Lists, seen, IsLogged}
use Rattle.board_rot.specs.Meaning.{IsSummaryFor}
use Rattle.board_rot.specs.Changes.{IsMoved}
use Rattle.board_rot.proofs.ChangeLaws.{summary_turned}
use Rattle.board_rot.proofs.EditLaws.{led_one, led_both}
use Rattle.board_rot.proofs.LogLaws.{rotation_leg_logged, rotation_leg_seen}

abbrev once : List RotationLeg → ℕ → RotationLegs
once mid edits = record { rotation_legs = mid; edits = edits + 1 }

pub moved_logged : (rotations : List RotationLegs) (broken more : OrderedItems Broken) (edits all : List Edit) (plane : Plane) (from to : RotationLeg) (mid : List RotationLeg) (new : RotationLegs) → IsLogged rotations broken edits → plane.0 < length rotations → new.edits ≡ (get_or rotations plane.0 no_rotation_legs).edits + 2 → more.items ≡ broken.items → length more.items + (length edits + 3) ≤ more.room → all ≡ (edits ++ OfLeg plane from ∷ []) ++ OfLeg plane to ∷ [] → IsLogged (set rotations plane.0 new) more all
moved_logged rotations broken more edits all plane from to mid new log within count same room is =
    let p = plane.0 in
    let first = once mid (get_or rotations p no_rotation_legs).edits in
    let then = rotation_leg_logged rotations broken more edits plane from first log within refl same (omega (arith, room)) in
    let here : (get_or (set rotations p first) p no_rotation_legs).edits ≡ first.edits = ap (λ (r : RotationLegs). r.edits) (get_or-set_same rotations p first no_rotation_legs within) in
    let both = rotation_leg_logged (set rotations p first) more more (edits ++ OfLeg plane from ∷ []) plane to new then (omega (arith, within, length-set rotations p first)) (omega (arith, count, here)) refl
    (omega (arith, room, length-append edits (OfLeg plane from ∷ []))) in
    subst (IsLogged (set rotations p new) more) (sym is) (subst (λ (rows : List RotationLegs). IsLogged rows more ((edits ++ OfLeg plane from ∷ []) ++ OfLeg plane to ∷ [])) (set-set rotations p first new) both)

abbrev lists : List RotationLegs → List Broken → List Edit → Lists
lists rotations broken edits = record { rotations = rotations; broken = broken; edits = edits }

pub moved_seen : (rotations : List RotationLegs) (broken more : List Broken) (edits all : List Edit) (plane : Plane) (from to : RotationLeg) (mid : List RotationLeg) (new : RotationLegs) → plane.0 < length rotations → has_rotation_leg mid ≡ turned (λ t. same_rotation_leg t from) (has_rotation_leg (rotation_legs_of rotations plane.0)) → has_rotation_leg new.rotation_legs ≡ turned (λ t. same_rotation_leg t to) (has_rotation_leg mid) → more ≡ broken → all ≡ (edits ++ OfLeg plane from ∷ []) ++ OfLeg plane to ∷ [] → seen (lists (set rotations plane.0 new) more all) ≡ with_edit (OfLeg plane to) (with_edit (OfLeg plane from) (seen (lists rotations broken edits)))
moved_seen rotations broken more edits all plane from to mid new within gone come same is =
    let p = plane.0 in
    let first = once mid (get_or rotations p no_rotation_legs).edits in
    let half = rotation_leg_seen rotations broken broken edits (edits ++ OfLeg plane from ∷ []) plane from first within gone refl refl in
    let here : has_rotation_leg mid ≡ has_rotation_leg (rotation_legs_of (set rotations p first) p) = ap (λ (r : RotationLegs). has_rotation_leg r.rotation_legs) (sym (get_or-set_same rotations p first no_rotation_legs within)) in
    let whole = rotation_leg_seen (set rotations p first) broken more (edits ++ OfLeg plane from ∷ []) all plane to new (omega (arith, within, length-set rotations p first))
    (come ∙ ap (turned (λ t. same_rotation_leg t to)) here) same is in
    ap (λ (rows : List RotationLegs). seen (lists rows more all)) (sym (set-set rotations p first new)) ∙ whole ∙ ap (with_edit (OfLeg plane to)) half

pub led_two : (one two : Edit) (e : Edited) → LedTo e (with_edit two (with_edit one e))
led_two one two e = led_both e (with_edit one e) (with_edit two (with_edit one e)) (led_one one e) (led_one two (with_edit one e))

pub moved_led : (old new : Edited) (plane : Plane) (from to : RotationLeg) (next : Option RotationLeg) → IsMoved old new plane from to next → LedTo old new
moved_led old new plane from to next m = subst (LedTo old) (sym m.edits) (led_two (OfLeg plane from) (OfLeg plane to) old)

-- its rotation legs are in range
pub moved_summary : (I : Situation) (old new : Edited) (plane : Plane) (from to : RotationLeg) (next : Option RotationLeg) → IsMoved old new plane from to next → IsSummaryFor I old → (from.leg.0 < legs_of I) × (from.dep.0 < 52500000) → (to.leg.0 < legs_of I) × (to.dep.0 < 52500000) → IsSummaryFor I new
moved_summary I old new plane from to next m for was is =
    subst (IsSummaryFor I) (sym m.edits) (summary_turned I (with_edit (OfLeg plane from) old) plane to (summary_turned I old plane from for was.0 was.1) is.0 is.1)

-- what holds of a value that is there
pub some_is : {T : Type 0} (P : T → Type 0) (o : Option T) (x : T) → o ≡ Some x → IfSome o P → P x
some_is P None x e holds = absurd cc
some_is P (Some y) x e holds = let same : y ≡ x = cc in subst P same holds
