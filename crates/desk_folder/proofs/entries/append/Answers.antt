use Rattle.std.proofs.Common.{arith}
use Rattle.std.proofs.lemmas.Grind.{common_steps}
use Rattle.desk_folder.proofs.EntryLemmas.{text_at-read, text_at-set_same, text_at-set_other}
use Rattle.desk_folder.proofs.entries.append.Goals as goal

pub returns-clause-ok : goal.returns-clause-ok
returns-clause-ok c =
    let was = text_at-read c.args.texts.now c.args.at c.index-texts-at.result c.requires c.index-texts-at.is in
    let now = text_at-set_same c.args.texts.now c.args.at c.extend_from_slice.new.self c.requires in
    grind (arith, common_steps, was, now)

pub returns-clause-err : goal.returns-clause-err
returns-clause-err c =
    let was = text_at-read c.args.texts.now c.args.at c.index-texts-at.result c.requires c.index-texts-at.is in
    let now = text_at-set_same c.args.texts.now c.args.at c.extend_from_slice.new.self c.requires in
    grind (arith, common_steps, was, now)

pub returns-clause-others : goal.returns-clause-others
returns-clause-others c = λ k other. text_at-set_other c.args.texts.now c.args.at k c.extend_from_slice.new.self other
