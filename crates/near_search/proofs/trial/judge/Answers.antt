use Rattle.near_search.proofs.OutLaws.{verdict-by-rows, verdict-out}
use Rattle.near_search.proofs.trial.judge.Goals as goal

pub returns-then-gives_in_vain-clause-verdict : goal.returns-then-gives_in_vain-clause-verdict
returns-then-gives_in_vain-clause-verdict c =
    verdict-by-rows c.args.eval.now.inst c.args.eval.now.rows c.args.m.now _ c.out_by_rows.ensures.better (c.gives_in_vain.ensures c.if-gives_in_vain.true)

pub returns-then-ruled_out-clause-verdict : goal.returns-then-ruled_out-clause-verdict
returns-then-ruled_out-clause-verdict c =
    verdict-out c.args.eval.now.inst c.args.eval.now.rows c.args.m.now _ c.out.ensures.better c.out.ensures.by_rows (c.ruled_out.ensures c.if-ruled_out.true)
