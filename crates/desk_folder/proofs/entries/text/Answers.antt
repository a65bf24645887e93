use Rattle.std.proofs.Common.{◌∙◌, sym}
use Rattle.desk_folder.proofs.EntryLemmas.{text_at-read}
use Rattle.desk_folder.proofs.entries.text.Goals as goal

pub returns : goal.returns
returns c = c.as_slice.ensures.value ∙ sym (text_at-read c.args.texts.now c.args.at c.index-texts-at.result c.requires c.index-texts-at.is)
