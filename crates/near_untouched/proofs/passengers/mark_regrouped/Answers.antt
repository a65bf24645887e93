use Rattle.std.proofs.Common.{◌≡◌, inl, inr, length, sym, subst, ◌∙◌}
use Rattle.std.proofs.lemmas.Bool.{false≢true}
use Rattle.desk_data.specs.PlanRows.{groups_at}
use Rattle.near_untouched.specs.Marks.{ArePathsMarked}
use Rattle.near_untouched.proofs.MarkLaws.{paths-kept}
use Rattle.near_untouched.proofs.PassengerLaws.{paths-among}
use Rattle.near_untouched.proofs.passengers.mark_regrouped.Goals as goal

pub mark_paths-requires : goal.mark_paths-requires
mark_paths-requires c =
    paths-among c.args.plans.now.inst.now c.args.plans.now.earlier.now c.args.res.0 (length c.args.regrouped.now.items) c.groups-before.result.now c.requires.earlier c.requires.res c.requires.regrouped c.groups-before.ensures.groups

pub mark_paths-requires-2 : goal.mark_paths-requires-2
mark_paths-requires-2 c =
    paths-among c.args.plans.now.inst.now c.args.plans.now.later.now c.args.res.0 (length c.mark_paths.new.marks.items) c.groups-now.result.now c.requires.later c.requires.res (c.mark_paths.ensures.marks ∙ c.requires.regrouped) c.groups-now.ensures.groups

pub returns-then-are_same_groups : goal.returns-then-are_same_groups
returns-then-are_same_groups c =
    let P = c.args.plans.now.earlier.now in
    let Q = c.args.plans.now.later.now in
    let same : groups_at P c.args.res.0 ≡ groups_at Q c.args.res.0 = sym c.groups-before.ensures.groups ∙ c.are_same_groups.ensures.yes c.if-are_same_groups.true ∙ c.groups-now.ensures.groups in
    record {
      regrouped = c.requires.regrouped;
      kept = λ k on. on;
      same = λ is. same;
      told = inl same;
    }

pub returns : goal.returns
returns c =
    let first = c.mark_paths.new.marks.items in
    let second = c.mark_paths-2.new.marks.items in
    let kept = c.mark_paths-2.ensures.kept in
    record {
      regrouped = c.mark_paths-2.ensures.marks ∙ c.mark_paths.ensures.marks ∙ c.requires.regrouped;
      kept = λ k on. kept k (c.mark_paths.ensures.kept k on);
      same = λ is. absurd (false≢true is);
      told = inr (
        subst (ArePathsMarked second) c.groups-before.ensures.groups (paths-kept first second c.groups-before.result.now kept c.mark_paths.ensures.marked),
        subst (ArePathsMarked second) c.groups-now.ensures.groups c.mark_paths-2.ensures.marked,
      );
    }
