use Rattle.std.proofs.Common.{inr, true, false, ◌∙◌, arith}
use Rattle.std.proofs.lemmas.List.{length-set, get_or-set_same}
use Rattle.near_untouched.proofs.MarkLaws.{mark-kept}
use Rattle.near_untouched.proofs.hours.touch_leg.Goals as goal

pub returns : goal.returns
returns c =
    let old = c.args.touched.now.items in
    let x = c.args.leg.0 in
    let many = c.requires.touched in
    let lt = c.requires.leg in
    record {
      touched = length-set old x true ∙ many;
      kept = mark-kept old x;
      told = inr (get_or-set_same old x true false (omega (arith, lt, many)));
    }
