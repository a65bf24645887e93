use Rattle.std.proofs.Common.{sym, ◌∙◌}
use Rattle.std.proofs.lemmas.Bool.{eqb-true}
use Rattle.near_pax.specs.Units.{path_at}
use Rattle.near_search.proofs.FirstLaws.{unit-ruled_out}
use Rattle.near_search.proofs.noted.is_known.Goals as goal

pub note-requires-clause-vain : goal.note-requires-clause-vain
note-requires-clause-vain c =
    let I = c.args.eval.now.inst in
    let P = c.args.eval.now.rows in
    let none = eqb-true _ 0 (sym c.costs_nothing.ensures ∙ c.if-not-costs_nothing.false) in
    unit-ruled_out I P c.args.res.0 (path_at P c.args.res.0 c.args.place) none

pub returns-clause-vain : goal.returns-clause-vain
returns-clause-vain c = λ is.
    (let I = c.args.eval.now.inst in
    let P = c.args.eval.now.rows in
    let none = eqb-true _ 0 (sym c.costs_nothing.ensures ∙ c.if-not-costs_nothing.false) in
    unit-ruled_out I P c.args.res.0 (path_at P c.args.res.0 c.args.place) none)
