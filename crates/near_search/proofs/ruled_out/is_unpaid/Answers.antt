use Rattle.std.proofs.Common.{sym, ◌∙◌}
use Rattle.desk_rules.specs.Least.{least}
use Rattle.near_search.proofs.OutLaws.{dear-out}
use Rattle.near_search.proofs.VainLaws.{none_left}
use Rattle.near_search.proofs.ruled_out.is_unpaid.Goals as goal

pub returns : goal.returns
returns c = λ known.
    (let I = c.args.eval.now.inst in
    let P = c.args.eval.now.rows in
    let feasible = none_left (least I P) (sym c.requires.rotations.feasible ∙ c.if-not-rotations.false) in
    dear-out I P c.args.m.now (rw (c.instance.ensures, c.plan.ensures.rows) at c.rule_out.ensures known feasible))
