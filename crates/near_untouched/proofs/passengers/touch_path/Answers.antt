use Rattle.std.proofs.Common.{◌≡◌, ℕ, inr, sym, ap, subst, ◌∙◌}
use Rattle.desk_data.specs.declared.info.ResInfo.{ResInfo}
use Rattle.desk_data.specs.Booked.{booked_path}
use Rattle.desk_data.specs.Valid.{IsPathOf}
use Rattle.near_untouched.specs.Marks.{AreLegsMarked}
use Rattle.near_untouched.proofs.passengers.touch_path.Goals as goal

pub is_path_free-requires : goal.is_path_free-requires
is_path_free-requires c =
    subst (λ (n : ℕ). IsPathOf n c.as_slice-booked.result.now) (sym c.requires.rows.all) (rw c.as_slice-booked.ensures c.res.ensures.ranges.path)

pub mark_path-requires : goal.mark_path-requires
mark_path-requires c =
    subst (λ (n : ℕ). IsPathOf n c.as_slice-booked.result.now) (sym c.requires.touched) (rw c.as_slice-booked.ensures c.res.ensures.ranges.path)

pub returns : goal.returns
returns c =
    let path : c.as_slice-booked.result.now ≡ booked_path c.args.plans.now.inst.now c.args.res.0 = c.as_slice-booked.ensures ∙ ap (λ (row : ResInfo). row.path) c.res.ensures.row in
    record {
      touched = c.mark_path.ensures.marks ∙ c.requires.touched;
      kept = c.mark_path.ensures.kept;
      told = inr (subst (AreLegsMarked c.mark_path.new.marks.items) path c.mark_path.ensures.marked);
    }
