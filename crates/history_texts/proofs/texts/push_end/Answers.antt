use Rattle.std.proofs.Common.{sym, ◌∙◌}
use Rattle.desk_model.specs.States.{opening}
use Rattle.desk_model.specs.Histories.{state}
use Rattle.desk_model.proofs.StateLaws.{opening-known}
use Rattle.desk_model.proofs.HistoryLaws.{state-known}
use Rattle.output_texts.proofs.WritableLaws.{least-names}
use Rattle.history_texts.proofs.texts.push_end.Goals as goal

pub push_broken-requires : goal.push_broken-requires
push_broken-requires c =
    let book = c.args.book.now in
    let S = state (opening book.opening) book.journal in
    let given = state-known (opening book.opening) book.journal (opening-known book.opening) in
    rw c.instance.ensures.now (least-names S.inst S.plan c.in-Some.item (sym given ∙ sym c.in-Some.ensures))
