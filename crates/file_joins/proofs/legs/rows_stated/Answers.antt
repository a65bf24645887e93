use Rattle.std.proofs.Common.{◌≡◌, ◌+◌, length, drop, arith, sym, refl, ap, ◌∙◌}
use Rattle.std.specs.Prelude.{replicate, None}
use Rattle.std.proofs.lemmas.List.{take_at}
use Rattle.desk_data.specs.Situation.{legs_of}
use Rattle.file_joins.specs.Legs.{statement_of_legs}
use Rattle.file_joins.proofs.LineLemmas.{stated_leg-within}
use Rattle.file_joins.proofs.StatementLemmas.{same_after, begins, goes_on, stops, ends}
use Rattle.file_joins.proofs.legs.rows_stated.Goals as goal

pub loop-line-init : goal.loop-line-init
loop-line-init c =
    let I = c.args.names.now in
    begins (statement_of_legs I) (legs_of I) c.args.lines.now c.in_ok-rows.rows.items (c.in_ok-rows.ensures ∙ ap (λ n. replicate n None) c.requires)

pub returns-in-Some : goal.returns-in-Some
returns-in-Some c =
    let I = c.args.names.now in
    let lines = c.args.lines.now in
    let here = c.loop-line in
    rw c.at.ensures (
    stops (statement_of_legs I) (legs_of I) lines here.line-index c.as_mut_slice.result.now c.line-item.result c.in-Some.cause c.loop-line-test.true c.line-item.is (stated_leg-within I c.line-item.result) c.in-Some.ensures.cause
    (same_after (statement_of_legs I) (legs_of I) lines here.line-index here.rows.items c.as_mut_slice.result.now (sym c.as_mut_slice.ensures.value) here.invariant)
    )

pub loop-line-preserved : goal.loop-line-preserved
loop-line-preserved c =
    let I = c.args.names.now in
    let lines = c.args.lines.now in
    let here = c.loop-line in
    let rows = c.put_line.new.rows in
    let long : length rows ≡ here.rows.len = omega (arith, c.as_mut_slice.ensures.len, c.put_line.auto.rows) in
    same_after (statement_of_legs I) (legs_of I) lines (here.line-index + 1) rows _ (sym (take_at rows (drop (length rows) here.rows.items) here.rows.len long))
    (goes_on (statement_of_legs I) (legs_of I) lines here.line-index c.as_mut_slice.result.now rows c.line-item.result None c.loop-line-test.true c.line-item.is (stated_leg-within I c.line-item.result) c.in_default.ensures.cause refl c.in_default.ensures.put
    (same_after (statement_of_legs I) (legs_of I) lines here.line-index here.rows.items c.as_mut_slice.result.now (sym c.as_mut_slice.ensures.value) here.invariant))

pub returns : goal.returns
returns c = ends (statement_of_legs c.args.names.now) (legs_of c.args.names.now) c.args.lines.now c.loop-line.line-index c.loop-line.rows.items (omega arith) c.loop-line.invariant
