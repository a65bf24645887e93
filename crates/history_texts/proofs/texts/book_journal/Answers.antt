use Rattle.std.proofs.Common.{◌≡◌, ℕ, List, sym, ap, subst, ◌∙◌}
use Rattle.std.specs.Prelude.{IfOk}
use Rattle.desk_model.specs.declared.answer.Entry.{Entry}
use Rattle.output_texts.specs.Lines.{journal_text}
use Rattle.output_texts.proofs.WritableLaws.{legal-written-of}
use Rattle.output_texts.proofs.PartsLaws.{journal-same}
use Rattle.history_texts.proofs.texts.book_journal.Goals as goal

pub journal_text-requires : goal.journal_text-requires
journal_text-requires c =
    rw c.journal.ensures.entries
    (legal-written-of c.args.book.now.opening c.instance.result.now (sym c.instance.ensures.parts) c.args.book.now.journal c.journal.ensures.legal)

pub returns : goal.returns
returns c =
    subst (λ (given : List ℕ). IfOk c.journal_text.result (λ text. text.items ≡ given))
    (ap (λ (h : List Entry). journal_text c.instance.result.now h) c.journal.ensures.entries
    ∙ journal-same c.instance.result.now c.args.book.now.opening c.instance.ensures.parts c.args.book.now.journal)
    c.journal_text.ensures
