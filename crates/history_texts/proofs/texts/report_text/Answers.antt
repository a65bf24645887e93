use Rattle.std.proofs.Common.{ℕ, List, ◌++◌, sym, ap, ◌∙◌, append_assoc}
use Rattle.desk_model.specs.declared.answer.Entry.{Entry}
use Rattle.desk_tasks.specs.Play.{batch_lines, search_line, end_lines, report_text}
use Rattle.output_texts.proofs.WritableLaws.{legal-written-of}
use Rattle.history_texts.proofs.BatchLaws.{lines-same}
use Rattle.history_texts.proofs.texts.report_text.Goals as goal

pub push_batches-requires : goal.push_batches-requires
push_batches-requires c =
    rw c.journal.ensures.entries
    (legal-written-of c.args.book.now.opening c.instance-inst.result.now (sym c.instance-inst.ensures.parts) c.args.book.now.journal c.journal.ensures.legal)

pub returns : goal.returns
unfolding report_text
returns c =
    let O = c.args.book.now.opening in
    let h = c.args.book.now.journal in
    let B = batch_lines O h in
    let S = search_line c.args.search in
    let E = end_lines O h in
    c.in_ok-push_end.ensures
    ∙ ap (λ (text : List ℕ). text ++ E)
    (c.in_ok-extend_from_slice.ensures.items
    ∙ ap (λ (text : List ℕ). text ++ c.args.lines.now)
    (c.in_ok-push_search.ensures
    ∙ ap (λ (text : List ℕ). text ++ S)
    (c.in_ok-push_batches.ensures
    ∙ ap (λ (text : List ℕ). text ++ batch_lines c.instance-inst.result.now c.journal.result.now) c.new-text.ensures.items
    ∙ ap (λ (h : List Entry). batch_lines c.instance-inst.result.now h) c.journal.ensures.entries
    ∙ lines-same c.instance-inst.result.now O c.instance-inst.ensures.parts h)))
    ∙ append_assoc (B ++ S) c.args.lines.now E
