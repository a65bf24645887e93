use Rattle.std.proofs.Common.{false, length, ap, ◌∙◌}
use Rattle.std.proofs.lemmas.List.{length-replicate}
use Rattle.desk_data.specs.Situation.{legs_of}
use Rattle.near_untouched.proofs.MarkLaws.{row-same}
use Rattle.near_untouched.proofs.changed.changed_rows.Goals as goal

pub returns : goal.returns
returns c =
    let I = c.args.plans.now.inst.now in
    record {
      all = c.mark_listed.ensures.marks ∙ ap length c.in_ok-rows.ensures ∙ length-replicate c.legs.result false ∙ c.legs.ensures.count;
      same = row-same c.args.plans.now.earlier.now c.args.plans.now.later.now (legs_of I) c.args.changed.now c.mark_listed.new.marks.items c.requires c.mark_listed.ensures.marked;
    }
