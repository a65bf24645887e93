use Rattle.std.proofs.Common.{◌≡◌, ℕ, ◌+◌, Vec, Global, length, drop, arith, sym, ap, ◌∙◌}
use Rattle.std.specs.Prelude.{replicate, []}
use Rattle.std.proofs.lemmas.List.{take_at}
use Rattle.desk_data.specs.Situation.{reservations_of}
use Rattle.file_joins.specs.Groups.{Passengers, statement_of_groups}
use Rattle.file_joins.proofs.LineLemmas.{line_put, line_refused}
use Rattle.file_joins.proofs.StatementLemmas.{same_after, begins, ends}
use Rattle.file_joins.proofs.groups.passengers_stated.Goals as goal

pub loop-line-init : goal.loop-line-init
loop-line-init c =
    let I = c.args.names.now in
    begins (statement_of_groups I) (reservations_of I) c.args.lines.now c.in_ok-parties.parties.items (c.in_ok-parties.ensures ∙ ap (λ n. replicate n []) c.requires)

pub returns-in-Err : goal.returns-in-Err
returns-in-Err c =
    let I = c.args.names.now in
    let lines = c.args.lines.now in
    let here = c.loop-line in
    line_refused I lines here.line-index c.as_mut_slice.result.now c.line-item.result {A = Vec Passengers Global} (λ v. v.items) c.in-Err.fault c.at.result c.loop-line-test.true c.line-item.is c.in-Err.ensures.exact c.at.ensures
    (same_after (statement_of_groups I) (reservations_of I) lines here.line-index here.parties.items c.as_mut_slice.result.now (sym c.as_mut_slice.ensures.value) here.invariant)

pub loop-line-preserved : goal.loop-line-preserved
loop-line-preserved c =
    let I = c.args.names.now in
    let lines = c.args.lines.now in
    let here = c.loop-line in
    let parties = c.put_line.new.parties in
    let long : length parties ≡ here.parties.len = omega (arith, c.as_mut_slice.ensures.len, c.put_line.auto.parties) in
    same_after (statement_of_groups I) (reservations_of I) lines (here.line-index + 1) parties _ (sym (take_at parties (drop (length parties) here.parties.items) here.parties.len long))
    (line_put I lines here.line-index c.as_mut_slice.result.now c.line-item.result parties c.loop-line-test.true c.line-item.is c.in-Ok.ensures.exact c.in-Ok.ensures.put
    (same_after (statement_of_groups I) (reservations_of I) lines here.line-index here.parties.items c.as_mut_slice.result.now (sym c.as_mut_slice.ensures.value) here.invariant))

pub returns : goal.returns
returns c =
    let I = c.args.names.now in
    ends (statement_of_groups I) (reservations_of I) c.args.lines.now c.loop-line.line-index c.loop-line.parties.items (omega arith) c.loop-line.invariant
