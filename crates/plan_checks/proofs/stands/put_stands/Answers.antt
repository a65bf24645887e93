use Rattle.std.proofs.Common.{rules, ℕ, ap, ◌∙◌, arith}
use Rattle.desk_data.specs.Situation.{legs_of}
use Rattle.plan_reads.specs.Last.{AreLasts}
use Rattle.plan_checks.specs.Stands.{is_there}
use Rattle.plan_checks.proofs.StandLaws.{stand_is}
use Rattle.plan_checks.proofs.stands.put_stands.Goals as goal

pub returns : goal.returns
returns g c =
    let I = c.args.inst.now in
    let P = g.P.ReadPlan.plan_of c.args.plan.now in
    let lasts : AreLasts I P (λ (p : ℕ). I.parts.to.0) (legs_of I) c.put_lasts.new.lasts = rw c.window.ensures at c.put_lasts.ensures in
    record {
      planes = search rules;
      each = λ p airport lt.
          ap (λ there. is_there there airport) (c.loop-p.invariant p (omega arith))
          ∙ stand_is I P p airport c.put_lasts.new.lasts lasts lt;
    }
