use Rattle.std.proofs.Common.{◌∙◌}
use Rattle.desk_text.proofs.CountLemmas.{first_below_is_blank}
use Rattle.desk_text.proofs.fields.place_of_blank.Goals as goal

pub returns : goal.returns
returns c = c.place_of_unseen.ensures ∙ first_below_is_blank c.args.line.now c.requires
