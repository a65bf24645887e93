use Rattle.std.proofs.Common.{◌≡◌, ℕ, sym, ap, ◌∙◌, arith}
use Rattle.tariff_prices.proofs.PriceLaws.{no_care_in_time, no_compensation_in_time}
use Rattle.desk_data.specs.Situation.{Situation}
use Rattle.desk_data.specs.Valid.{IsValid}
use Rattle.desk_rules.specs.Cost.{rows_of, legal_late, grains}
use Rattle.plan_checks.proofs.legal.late_cost.Goals as goal

-- nothing is owed to passengers who are in time
nothing_late : (I : Situation) (r count : ℕ) → IsValid I → legal_late I r 0 count ≡ 0
nothing_late I r count valid =
    rw (no_care_in_time (rows_of I) valid.parts.tariff.each _, no_compensation_in_time (rows_of I) valid.parts.tariff.each _) (omega arith)

pub returns-then-minutes-eq0 : goal.returns-then-minutes-eq0
returns-then-minutes-eq0 c =
    ap grains (sym (ap (λ minutes. legal_late c.args.inst.now c.args.res.0 minutes c.args.count) c.if-minutes-eq0.true ∙ nothing_late c.args.inst.now c.args.res.0 c.args.count c.parts-rows.ensures.valid))
