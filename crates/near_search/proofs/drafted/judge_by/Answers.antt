use Rattle.std.proofs.Common.{◌≡◌, subst}
use Rattle.near_search.specs.declared.verdict.Verdict.{Verdict}
use Rattle.near_search.specs.Out.{IsVerdict}
use Rattle.near_search.proofs.OutLaws.{verdict-by-rows, verdict-out}
use Rattle.near_search.proofs.drafted.judge_by.Goals as goal

pub returns-then-dear : goal.returns-then-dear
returns-then-dear c = λ v is.
    (let I = c.args.eval.now.inst in
    let P = c.args.eval.now.rows in
    let m = c.args.m.now in
    let made : Verdict = c.out.result in
    let same : made ≡ v = cc is in
    subst (IsVerdict I P m) same (verdict-out I P m made c.out.ensures.better c.out.ensures.by_rows (c.in_ok-dear.ensures c.if-dear.true)))

pub returns-then-breaks : goal.returns-then-breaks
returns-then-breaks c = λ v is.
    (let I = c.args.eval.now.inst in
    let P = c.args.eval.now.rows in
    let m = c.args.m.now in
    let made : Verdict = c.out_by_rows.result in
    let same : made ≡ v = cc is in
    subst (IsVerdict I P m) same (verdict-by-rows I P m made c.out_by_rows.ensures.better (c.in_ok-breaks.ensures c.if-breaks.true)))
