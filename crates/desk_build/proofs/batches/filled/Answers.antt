use Rattle.std.proofs.Common.{ℕ, List, subst, ◌∙◌, arith}
use Rattle.std.proofs.lemmas.List.{take_all}
use Rattle.file_rows.specs.declared.disruptions.AltRow.{AltRow}
use Rattle.desk_build.proofs.FilledLemmas.{AreFilled, fed_facts, filled_more, all_filled}
use Rattle.desk_build.proofs.batches.filled.Goals as goal

pub loop-fed-preserved : goal.loop-fed-preserved
loop-fed-preserved c =
    let x = c.args.tables.now.files.now in
    let rows = c.as_slice-rows.result.now in
    let at = c.loop-fed.fed-index in
    let fed = c.fed-item.result in
    let facts = fed_facts x c.requires.rows c.requires.fit rows c.as_slice-rows.ensures at fed c.loop-fed-test.true c.fed-item.is in
    filled_more x rows at fed c.loop-fed.number c.loop-fed.done.items _ c.loop-fed.batch _ c.loop-fed.invariant c.loop-fed-test.true c.fed-item.is facts.0.least facts.1.least facts.1.most c.in_ok-batch.ensures.done c.in_ok-batch.ensures.taken

pub returns : goal.returns
returns c =
    let x = c.args.tables.now.files.now in
    let rows = c.as_slice-rows.result.now in
    let filled = subst (λ (feed : List (ℕ × AltRow)). AreFilled x feed c.loop-fed.number c.loop-fed.done.items c.loop-fed.batch) (take_all c.loop-fed.fed-index rows (omega (arith, c.loop-fed-test.false)) ∙ c.as_slice-rows.ensures) c.loop-fed.invariant in
    c.in_ok-push.ensures.items ∙ all_filled x c.loop-fed.number c.loop-fed.done.items c.loop-fed.batch filled
