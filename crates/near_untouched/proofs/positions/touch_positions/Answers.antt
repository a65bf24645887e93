use Rattle.std.proofs.Common.{◌≡◌, ◌<◌, ◌≤◌, List, length, get_or, take, ap, subst, ◌∙◌}
use Rattle.std.specs.List.{All}
use Rattle.std.proofs.lemmas.List.{take_all}
use Rattle.std.proofs.lemmas.List.Elements.{All-more}
use Rattle.desk_data.specs.declared.info.PositionInfo.{PositionInfo}
use Rattle.near_untouched.specs.Positions.{IsPositionTold}
use Rattle.near_untouched.proofs.HandLaws.{wanted-kept}
use Rattle.near_untouched.proofs.positions.touch_positions.Goals as goal

pub loop-position-preserved : goal.loop-position-preserved
loop-position-preserved c =
    let I = c.args.plans.now.inst.now in
    let P = c.args.plans.now.earlier.now in
    let Q = c.args.plans.now.later.now in
    let positions = I.parts.positions in
    let i = c.loop-position.position-index in
    let old = c.loop-position.touched.items in
    let new = c.touch_position.new.touched.items in
    let kept = c.touch_position.ensures.kept in
    let items = c.positions-position-items.ensures in
    let lt : i < length positions = subst (λ (all : List PositionInfo). i < length all) items c.loop-position-test.true in
    let is : c.position-item.result ≡ get_or positions i c.position-item.result = c.position-item.is ∙ ap (λ (all : List PositionInfo). get_or all i c.position-item.result) items in
    record {
      touched = c.touch_position.ensures.touched;
      kept = λ k on. kept k (c.loop-position.invariant.kept k on);
      told = All-more (IsPositionTold I P Q new) positions i c.position-item.result lt
          (λ k d there. wanted-kept I P Q old new (get_or (take i positions) k d) kept (c.loop-position.invariant.told k d there))
          (subst (IsPositionTold I P Q new) is c.touch_position.ensures.told);
    }

pub returns-clause-told : goal.returns-clause-told
returns-clause-told c =
    let I = c.args.plans.now.inst.now in
    let positions = I.parts.positions in
    let i = c.loop-position.position-index in
    let few : length positions ≤ i = subst (λ (all : List PositionInfo). length all ≤ i) c.positions-position-items.ensures c.loop-position-test.false in
    subst (All (IsPositionTold I c.args.plans.now.earlier.now c.args.plans.now.later.now c.loop-position.touched.items)) (take_all i positions few) c.loop-position.invariant.told
