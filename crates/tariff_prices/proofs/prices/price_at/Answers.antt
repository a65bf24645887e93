use Rattle.std.proofs.Common.{◌≡◌, ℕ, ◌+◌, ◌-◌, true, false, leb, length, rules, sym, subst, arith}
use Rattle.std.specs.List.{AllWithin}
use Rattle.std.specs.List.Sorted.{IsPartitionPoint}
use Rattle.std.proofs.lemmas.List.Sorted.{IsPartitionPoint-from_clause, IsPartitionedBy-leb}
use Rattle.tariff_prices.specs.declared.purpose.Step.{Step}
use Rattle.tariff_prices.proofs.OwedLemmas.{none_reached, last_reached}
use Rattle.tariff_prices.proofs.prices.price_at.Goals as goal

pub returns-then-reached-eq0-clause-price : goal.returns-then-reached-eq0-clause-price
returns-then-reached-eq0-clause-price c = λ all are.
    let t = c.args.delay in
    let steps = c.args.steps.now in
    let point : IsPartitionPoint (λ (x : Step). leb x.from t ≡ true) (λ (x : Step). leb x.from t ≡ false) steps c.partition_point-reached.result
    = IsPartitionPoint-from_clause (λ (x : Step). leb x.from t) steps c.partition_point-reached.result c.partition_point-reached.ensures.partitioned (IsPartitionedBy-leb (λ (x : Step). x.from) steps t are.rising) (λ a r f q. search rules) in
    sym (none_reached all steps t are (subst (λ (k : ℕ). AllWithin (λ (x : Step). leb x.from t ≡ false) steps k (length steps)) c.if-reached-eq0.true point.1))

pub returns-else-reached-eq0-clause-price : goal.returns-else-reached-eq0-clause-price
returns-else-reached-eq0-clause-price c = λ all are.
    let t = c.args.delay in
    let steps = c.args.steps.now in
    let k = c.partition_point-reached.result in
    let point : IsPartitionPoint (λ (x : Step). leb x.from t ≡ true) (λ (x : Step). leb x.from t ≡ false) steps c.partition_point-reached.result
    = IsPartitionPoint-from_clause (λ (x : Step). leb x.from t) steps c.partition_point-reached.result c.partition_point-reached.ensures.partitioned (IsPartitionedBy-leb (λ (x : Step). x.from) steps t are.rising) (λ a r f q. search rules) in
    let one_less : k ≡ k - 1 + 1 = omega arith in
    sym (last_reached all steps t (k - 1) (record { from = 0; price = record { 0 = 0 } }) are (omega arith) (subst (λ (n : ℕ). AllWithin (λ (x : Step). leb x.from t ≡ true) steps 0 n) one_less point.0) (subst (λ (n : ℕ). AllWithin (λ (x : Step). leb x.from t ≡ false) steps n (length steps)) one_less point.1))
