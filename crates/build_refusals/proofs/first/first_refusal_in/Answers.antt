use Rattle.std.proofs.Common.{Some, ap, ◌∙◌, arith}
use Rattle.build_refusals.specs.First.{first_refusal_in}
use Rattle.build_refusals.proofs.FirstLemmas.{of_row, refused_more, refused_here, refused_end}
use Rattle.build_refusals.proofs.first.first_refusal_in.Goals as goal

pub returns-in-Some : goal.returns-in-Some
returns-in-Some g c =
    let cause = g.C.Check.cause_of c.args.check.now in
    let line = of_row g.Row.Lined.line_of in
    let rows = c.args.rows.now in
    ap (λ n. Some (n, c.in-Some.cause)) c.line.ensures
    ∙ refused_here cause line rows c.loop-place.place c.index-rows-place.result c.in-Some.cause (first_refusal_in cause g.Row.Lined.line_of rows) c.loop-place-test.true c.index-rows-place.is c.in-Some.ensures c.loop-place.invariant

pub loop-place-preserved : goal.loop-place-preserved
loop-place-preserved g c =
    let cause = g.C.Check.cause_of c.args.check.now in
    let line = of_row g.Row.Lined.line_of in
    let rows = c.args.rows.now in
    refused_more cause line rows c.loop-place.place c.index-rows-place.result (first_refusal_in cause g.Row.Lined.line_of rows) c.loop-place-test.true c.index-rows-place.is c.in_default.ensures c.loop-place.invariant

pub returns : goal.returns
returns g c =
    let cause = g.C.Check.cause_of c.args.check.now in
    let line = of_row g.Row.Lined.line_of in
    let rows = c.args.rows.now in
    refused_end cause line rows c.loop-place.place (first_refusal_in cause g.Row.Lined.line_of rows) (omega arith) c.loop-place.invariant
