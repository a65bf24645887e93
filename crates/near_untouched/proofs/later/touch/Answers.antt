use Rattle.std.proofs.Common.{◌<◌, length, ◌∙◌, arith}
use Rattle.std.proofs.lemmas.List.{length-set}
use Rattle.near_untouched.proofs.TouchLaws.{touched-more, touched-same, free-more}
use Rattle.near_untouched.proofs.later.touch.Goals as goal
use Rattle.near_untouched.proofs.later.touch.Goals.{then-marks-k, else-marks-k}

pub loop-k-preserved : goal.loop-k-preserved
loop-k-preserved c =
    let marks = c.args.marks.now in
    let number = c.args.number in
    let old = c.args.touched.now.items in
    let now = c.loop-k.touched.items in
    let k = c.loop-k.k in
    let inv = c.loop-k.invariant in
    let long = inv.touched in
    let within : k < length now = omega (arith, c.loop-k-test.true, long) in
    elim c.if-marks-k.branch [
      | then-marks-k w ↦ rw w.touched-is (record {
        touched = length-set now k number ∙ inv.touched;
        each = touched-more marks number k old now inv.each within;
        same = touched-same number k old now inv.same;
      })
      | else-marks-k w ↦ rw w.touched-is (record {
        touched = inv.touched;
        each = free-more marks number k old now inv.each inv.same w.if-marks-k.false;
        same = λ j past. inv.same j (omega (arith, past));
      })
    ]
