use Rattle.std.proofs.Common.{◌≡◌, inl, length, get_or, sym, ◌∙◌}
use Rattle.std.proofs.lemmas.Bool.{eqb-true}
use Rattle.near_untouched.proofs.HandLaws.{hands-still, hands-told}
use Rattle.near_untouched.proofs.positions.touch_wanted.Goals as goal

pub returns-clause-hands : goal.returns-clause-hands
returns-clause-hands c =
    hands-told c.args.plans.now.inst.now c.args.plans.now.earlier.now c.args.plans.now.later.now c.touch_positions.new.touched.items c.touch_positions.ensures.told

pub returns-then-is_empty : goal.returns-then-is_empty
returns-then-is_empty c =
    let I = c.args.plans.now.inst.now in
    let P = c.args.plans.now.earlier.now in
    let Q = c.args.plans.now.later.now in
    let changed = c.args.changed.now in
    let none : length changed ≡ 0 = eqb-true (length changed) 0 (sym c.is_empty.ensures ∙ c.if-is_empty.true) in
    record {
      touched = c.requires.touched;
      kept = λ k on. on;
      hands = hands-told I P Q c.args.touched.now.items (λ k d lt. inl (hands-still I P Q changed (get_or I.parts.positions k d) c.requires.earlier c.requires.later none c.requires.changed));
    }
