use Rattle.std.proofs.Common.{◌∙◌, Vec, Global, rules, tests}
use Rattle.std.proofs.lemmas.Iterator.{YieldsList-from_slice, YieldsList-from_zip}
use Rattle.std.proofs.lemmas.Iterator.Search.{all_from_yields_List}
use Rattle.desk_data.specs.declared.info.ResInfo.{ResInfo}
use Rattle.desk_data.specs.declared.row.Group.{Group}
use Rattle.file_joins.specs.Groups.{is_whole}
use Rattle.file_joins.proofs.WholeLemmas.{whole_lists}
use Rattle.file_joins.proofs.groups.are_whole.Goals as goal

pub returns : goal.returns
returns c =
    all_from_yields_List {s = c.zip.result} (λ (pair : ResInfo × Vec Group Global). is_whole (pair.0, pair.1.items)) c.all.new.self _ c.all.result c.all.ensures.ran
    (YieldsList-from_zip {s = c.zip.result} (YieldsList-from_slice {s = c.zip.result.a} c.args.reservations.now (cc)) (YieldsList-from_slice {s = c.zip.result.b} c.args.groups.now (cc)))
    (λ x b q k. search (rules, tests))
    ∙ whole_lists c.args.reservations.now c.args.groups.now
