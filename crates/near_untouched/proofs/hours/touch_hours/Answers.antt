use Rattle.std.proofs.Common.{◌≡◌, ℕ, ◌<◌, ◌⊎◌, Bool, true, false, List, length, sym, subst, ◌∙◌}
use Rattle.std.proofs.lemmas.Bool.{eqb-true}
use Rattle.desk_data.specs.Situation.{legs_of}
use Rattle.near_untouched.specs.Hours.{place_of}
use Rattle.near_untouched.specs.Marks.{is_marked}
use Rattle.near_untouched.proofs.RoomLaws.{room-same, room-still}
use Rattle.near_untouched.proofs.hours.touch_hours.Goals as goal

pub returns-clause-room : goal.returns-clause-room
returns-clause-room g c =
    let m = c.args.movement in
    let I = c.args.plans.now.inst.now in
    let P = c.args.plans.now.earlier.now in
    let Q = c.args.plans.now.later.now in
    let new = c.touch_at.new.touched.items in
    let told = subst (λ (tight : List Bool). (y : ℕ) → y < legs_of I → (is_marked tight (place_of m I y) ≡ false) ⊎ (is_marked new y ≡ true)) c.as_slice.ensures.value c.touch_at.ensures.told in
    room-same m I P Q c.args.changed.now c.mark_tight.new.tight.items c.mark_tight-2.new.tight.items new c.requires.changed c.mark_tight-2.ensures.kept c.mark_tight.ensures.told c.mark_tight-2.ensures.told told

pub returns-then-is_empty : goal.returns-then-is_empty
returns-then-is_empty g c =
    let m = c.args.movement in
    let I = c.args.plans.now.inst.now in
    let P = c.args.plans.now.earlier.now in
    let Q = c.args.plans.now.later.now in
    record {
      touched = c.requires.touched;
      kept = λ k on. on;
      room = room-still m I P Q c.args.changed.now c.args.touched.now.items (eqb-true (length c.args.changed.now) 0 (sym c.is_empty.ensures ∙ c.if-is_empty.true)) c.requires.changed;
    }
