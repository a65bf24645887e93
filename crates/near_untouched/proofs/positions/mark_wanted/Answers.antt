use Rattle.std.proofs.Common.{◌≡◌, ◌<◌, true, false, length, sym, ap, ◌∙◌, arith}
use Rattle.std.proofs.lemmas.List.{length-set}
use Rattle.desk_data.specs.Situation.{plane_at}
use Rattle.desk_rules.specs.Cost.{is_wanted}
use Rattle.near_untouched.proofs.MarkLaws.{mark-kept}
use Rattle.near_untouched.proofs.HandLaws.{wanted-mark, wanted-skip}
use Rattle.near_untouched.proofs.positions.mark_wanted.Goals as goal
use Rattle.near_untouched.proofs.positions.mark_wanted.Goals.{then-is_wanted, else-is_wanted}

pub loop-p-preserved : goal.loop-p-preserved
loop-p-preserved c =
    let I = c.args.inst.now in
    let position = c.args.position.now in
    let p = c.loop-p.p in
    let old = c.loop-p.touched.items in
    let inv = c.loop-p.invariant in
    let many = inv.touched in
    let lt : p < length old = omega (arith, many, c.planes-p-end.ensures.count, c.loop-p-test.true, c.loop-p.auto.p-end) in
    elim c.if-is_wanted.branch [
      | then-is_wanted w ↦
          rw (ap (λ v. v.items) w.touched-is)
          (record {
            touched = length-set old p true ∙ many;
            kept = λ k on. mark-kept old p k (inv.kept k on);
            marked = wanted-mark I position old p lt inv.marked;
          })
      | else-is_wanted w ↦
          let off : is_wanted position (plane_at I p) ≡ false = ap (is_wanted position) (sym c.plane.ensures.row) ∙ sym c.is_wanted.ensures ∙ w.if-is_wanted.false in
          rw (ap (λ v. v.items) w.touched-is)
          (record {
            touched = many;
            kept = inv.kept;
            marked = wanted-skip I position old p off inv.marked;
          })
    ]
