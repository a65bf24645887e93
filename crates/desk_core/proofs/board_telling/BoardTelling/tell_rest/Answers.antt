use Rattle.std.proofs.Common.{drop, sym, ap, ◌∙◌, subst}
use Rattle.desk_data.specs.Situation.{Situation}
use Rattle.desk_model.specs.States.{opening}
use Rattle.desk_model.specs.Histories.{IsLegal}
use Rattle.desk_core.proofs.TellingLaws.{all_of}
use Rattle.desk_core.proofs.board_telling.BoardTelling.tell_rest.Goals as goal

pub publish-requires : goal.publish-requires
publish-requires g c =
    let t = c.requires.told in
    let h = c.args.book.now.journal in
    (t.0, h, t.2, subst (λ (I : Situation). IsLegal (opening I) h) (sym t.1) c.entries-count.ensures.legal, c.split_at.ensures.back ∙ ap (drop c.args.self.now.told) c.journal.ensures.entries, c.entries-count.ensures.count)

pub returns-clause-told : goal.returns-clause-told
returns-clause-told g c B told = c.publish.ensures.told B c.args.book.now.journal told (c.split_at.ensures.back ∙ ap (drop c.args.self.now.told) c.journal.ensures.entries)

pub returns-clause-all : goal.returns-clause-all
returns-clause-all g c =
    let t = c.requires.told in
    all_of c.publish.result _ _ (λ all. all t.0 c.args.book.now.journal t.2 (c.split_at.ensures.back ∙ ap (drop c.args.self.now.told) c.journal.ensures.entries)) c.publish.ensures.all
