use Rattle.std.proofs.Common.{◌≡◌, ◌≤◌, ltb, refl, sym, ap, subst, ◌∙◌}
use Rattle.std.specs.Prelude.{is_none, ◌&&◌}
use Rattle.std.proofs.lemmas.Bool.{leb-true, true≢false}
use Rattle.desk_data.specs.Situation.{Situation}
use Rattle.desk_data.specs.PlanRows.{PlanRows}
use Rattle.desk_rules.specs.Cost.{cost}
use Rattle.desk_rules.specs.Least.{least}
use Rattle.near_moves.specs.Descent.{is_better}
use Rattle.near_search.proofs.FirstLaws.{trial-is, none_is}
use Rattle.near_search.proofs.OutLaws.{dear-out}
use Rattle.near_search.proofs.trial.try_move.Goals as goal
use Rattle.near_search.proofs.trial.try_move.Goals.{then-is_none, else-is_none}

pub returns-clause-verdict : goal.returns-clause-verdict
returns-clause-verdict c =
    let I = c.args.eval.now.inst in
    let P = c.args.eval.now.rows in
    let Q = c.apply.new.eval.rows in
    let made = c.in_ok-applied.ensures in
    let is : is_better I P c.args.m.now ≡ is_none (least I Q) && ltb (cost I Q) (cost I P) = trial-is I P Q c.args.m.now made.rows in
    let least_is : c.least_broken.result ≡ least I Q = c.least_broken.ensures ∙ ap (λ (J : Situation). least J Q) made.inst in
    let none : c.is_none.result ≡ is_none (least I Q) = none_is c.least_broken.result c.is_none.result c.is_none.ensures ∙ ap is_none least_is in
    let now : c.cost-now.result.0 ≡ cost I P = ap (λ g. g.0) c.cost-now.ensures in
    record {
      better = elim c.if-is_none.branch [
        | then-is_none w ↦
            let would : w.cost.result.0 ≡ cost I Q = ap (λ g. g.0) w.cost.ensures ∙ ap (λ (J : Situation). cost J Q) made.inst in
            w.better-is ∙ rw (would, now) (sym (is ∙ rw (sym none ∙ w.if-is_none.true) refl))
        | else-is_none w ↦ w.better-is ∙ w.if-is_none.false ∙ sym (is ∙ rw (sym none ∙ w.if-is_none.false) refl)
      ];
      out = λ known.
          (let would : c.cost-2.result.0 ≡ cost I Q = ap (λ g. g.0) c.cost-2.ensures ∙ ap (λ (J : Situation). cost J Q) made.inst in
          let less : cost I P ≤ cost I Q = rw (sym would, sym now) (leb-true _ _ known) in
          dear-out I P c.args.m.now (subst (λ (R : PlanRows). cost I P ≤ cost I R) made.rows less));
      by_rows = λ is_by. absurd (true≢false (sym is_by));
    }
