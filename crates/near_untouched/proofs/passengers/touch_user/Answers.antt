use Rattle.std.proofs.Common.{◌≡◌, ℕ, inr, length, sym, ap, subst, ◌∙◌}
use Rattle.desk_data.specs.declared.info.ResInfo.{ResInfo}
use Rattle.desk_data.specs.Booked.{booked_path}
use Rattle.desk_data.specs.Valid.{IsPathOf}
use Rattle.near_untouched.specs.Marks.{AreLegsMarked, ArePathsMarked}
use Rattle.near_untouched.proofs.MarkLaws.{paths-kept}
use Rattle.near_untouched.proofs.PassengerLaws.{paths-among}
use Rattle.near_untouched.proofs.passengers.touch_user.Goals as goal

pub are_paths_free-requires : goal.are_paths_free-requires
are_paths_free-requires c =
    paths-among c.args.plans.now.inst.now c.args.plans.now.earlier.now c.args.res.0 (length c.args.rows.now) c.groups-before.result.now c.requires.earlier c.requires.res c.requires.rows.all c.groups-before.ensures.groups

pub mark_paths-requires : goal.mark_paths-requires
mark_paths-requires c =
    paths-among c.args.plans.now.inst.now c.args.plans.now.earlier.now c.args.res.0 (length c.args.touched.now.items) c.groups-before.result.now c.requires.earlier c.requires.res c.requires.touched c.groups-before.ensures.groups

pub mark_paths-requires-2 : goal.mark_paths-requires-2
mark_paths-requires-2 c =
    paths-among c.args.plans.now.inst.now c.args.plans.now.later.now c.args.res.0 (length c.mark_paths.new.marks.items) c.groups-now.result.now c.requires.later c.requires.res (c.mark_paths.ensures.marks ∙ c.requires.touched) c.groups-now.ensures.groups

pub mark_path-requires : goal.mark_path-requires
mark_path-requires c =
    subst (λ (n : ℕ). IsPathOf n c.as_slice-booked.result.now) (sym (c.mark_paths-2.ensures.marks ∙ c.mark_paths.ensures.marks ∙ c.requires.touched)) (rw c.as_slice-booked.ensures c.res.ensures.ranges.path)

pub returns : goal.returns
returns c =
    let r = c.args.res.0 in
    let first = c.mark_paths.new.marks.items in
    let second = c.mark_paths-2.new.marks.items in
    let third = c.mark_path.new.marks.items in
    let one = c.mark_paths-2.ensures.kept in
    let two = c.mark_path.ensures.kept in
    let path : c.as_slice-booked.result.now ≡ booked_path c.args.plans.now.inst.now r = c.as_slice-booked.ensures ∙ ap (λ (row : ResInfo). row.path) c.res.ensures.row in
    record {
      touched = c.mark_path.ensures.marks ∙ c.mark_paths-2.ensures.marks ∙ c.mark_paths.ensures.marks ∙ c.requires.touched;
      kept = λ k on. two k (one k (c.mark_paths.ensures.kept k on));
      told = inr (record {
        before = subst (ArePathsMarked third) c.groups-before.ensures.groups (paths-kept first third c.groups-before.result.now (λ k on. two k (one k on)) c.mark_paths.ensures.marked);
        now = subst (ArePathsMarked third) c.groups-now.ensures.groups (paths-kept second third c.groups-now.result.now two c.mark_paths-2.ensures.marked);
        booked = subst (AreLegsMarked third) path c.mark_path.ensures.marked;
      });
    }
