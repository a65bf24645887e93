use Rattle.std.proofs.Common.{◌+◌}
use Rattle.desk_text.specs.Lines.{is_blank, is_text}
use Rattle.desk_text.proofs.CutLemmas.{cut_at_place, all_dropped}
use Rattle.desk_text.proofs.fields.cut_at_blank.Goals as goal

pub returns-clause-exact : goal.returns-clause-exact
returns-clause-exact c = cut_at_place is_blank c.in_ok-place.place c.args.line.now c.parts_at.result.0.now c.parts_at.result.1.now c.in_ok-place.ensures c.parts_at.ensures.front c.parts_at.ensures.back

pub returns-clause-fit : goal.returns-clause-fit
returns-clause-fit c = rw c.parts_at.ensures.back (all_dropped is_text (c.in_ok-place.place + 1) c.args.line.now c.requires)
