use Rattle.std.proofs.Common.{◌≡◌, false, sym, subst, ◌∙◌}
use Rattle.plan_moves.specs.Fits.{Fits}
use Rattle.desk_eval.specs.Evaluated.{Evaluated}
use Rattle.near_moves.specs.Descent.{is_better}
use Rattle.std.proofs.lemmas.Bool.{true≢false}
use Rattle.near_search.specs.Out.{IsMoveOut, IsMoveOutByRows, IsRuledOut, IsRuledOutByRows, IsVerdict}
use Rattle.near_search.proofs.OutLaws.{more-out}
use Rattle.near_search.proofs.PassedLaws.{next-is, first-fits, rest-fits, rest-found}
use Rattle.near_search.proofs.trial.try_all.Goals as goal
use Rattle.near_search.proofs.trial.try_all.Goals.{then-out, else-out, then-by_rows, else-by_rows}

pub judge-requires-clause-fits : goal.judge-requires-clause-fits
judge-requires-clause-fits g c =
    let m = c.in-Some.m in
    let at = rw (c.instance.ensures, c.plan.ensures.rows, c.loop-m.invariant.eval) at c.in_ok-m.ensures.next in
    let next = next-is c.in_ok-m.field-0 m _ _ at c.in-Some.is in
    subst (λ (E : Evaluated). Fits E.inst m) (sym c.loop-m.invariant.eval) (first-fits c.args.eval.now.inst m _ _ next c.loop-m.invariant.fits)

pub returns-then-verdict-clause-fits : goal.returns-then-verdict-clause-fits
returns-then-verdict-clause-fits g c = λ x is.
    let m = c.in-Some.m in
    let at = rw (c.instance.ensures, c.plan.ensures.rows, c.loop-m.invariant.eval) at c.in_ok-m.ensures.next in
    let next = next-is c.in_ok-m.field-0 m _ _ at c.in-Some.is in
    let same : m ≡ x = cc is in
    subst (Fits c.args.eval.now.inst) same (first-fits c.args.eval.now.inst m _ _ next c.loop-m.invariant.fits)

pub loop-m-preserved : goal.loop-m-preserved
loop-m-preserved g c =
    let m = c.in-Some.m in
    let at = rw (c.instance.ensures, c.plan.ensures.rows, c.loop-m.invariant.eval) at c.in_ok-m.ensures.next in
    let next = next-is c.in_ok-m.field-0 m _ _ at c.in-Some.is in
    let verdict : IsVerdict c.args.eval.now.inst c.args.eval.now.rows m c.in_ok-verdict.verdict = rw c.loop-m.invariant.eval at c.in_ok-verdict.ensures.verdict in
    let worse : is_better c.args.eval.now.inst c.args.eval.now.rows m ≡ false = sym verdict.better ∙ c.if-verdict.false in
    record {
      of = rw (c.instance.ensures, c.plan.ensures.rows, c.loop-m.invariant.eval) at c.in_ok-m.ensures.of;
      eval = c.judge.ensures.eval ∙ c.loop-m.invariant.eval;
      units_after = (rw (c.instance.ensures, c.plan.ensures.rows, c.loop-m.invariant.eval) at c.in_ok-m.ensures.units_after) ∙ c.loop-m.invariant.units_after;
      same = rest-found c.args.eval.now.inst c.args.eval.now.rows m _ _ next worse ∙ c.loop-m.invariant.same;
      out = elim c.if-out.branch [
        | then-out w ↦ λ is rest.
            let ruled : IsRuledOut c.args.eval.now.inst c.args.eval.now.rows m = verdict.out (sym w.out-is ∙ is) in
            c.loop-m.invariant.out w.if-out.true (more-out (IsMoveOut c.args.eval.now.inst c.args.eval.now.rows) m _ _ next ruled.out rest)
        | else-out w ↦ λ is rest. absurd (true≢false (sym is ∙ w.out-is ∙ w.if-out.false))
      ];
      by_rows = elim c.if-by_rows.branch [
        | then-by_rows w ↦ λ is rest.
            let ruled : IsRuledOutByRows c.args.eval.now.inst c.args.eval.now.rows m = verdict.by_rows (sym w.by_rows-is ∙ is) in
            c.loop-m.invariant.by_rows w.if-by_rows.true (more-out (IsMoveOutByRows c.args.eval.now.inst c.args.eval.now.rows) m _ _ next ruled.out rest)
        | else-by_rows w ↦ λ is rest. absurd (true≢false (sym is ∙ w.by_rows-is ∙ w.if-by_rows.false))
      ];
      fits = rest-fits c.args.eval.now.inst m _ _ next c.loop-m.invariant.fits;
    }
