use Rattle.std.proofs.Common.{subst, List, rules}
use Rattle.std.specs.List.Sorted.{IsPermutation}
use Rattle.std.proofs.lemmas.List.Elements.{All-same, All-weaker}
use Rattle.std.proofs.lemmas.List.Sorted.{IsNonDecreasingBy-from_sort_by_key, All-permutation}
use Rattle.tariff_prices.specs.Rows.{IsPrice}
use Rattle.tariff_prices.specs.Prices.{steps_by}
use Rattle.tariff_prices.specs.declared.purpose.Step.{Step}
use Rattle.tariff_prices.proofs.RateLemmas.{IsStep, steps_within}
use Rattle.tariff_prices.proofs.StepLemmas.{steps_apart}
use Rattle.tariff_prices.proofs.tables.steps_of.Goals as goal

pub returns : goal.returns
returns c =
    let unsorted = c.in_ok-steps.steps.items in
    let e = c.in_ok-sort_by_key.ensures in
    record {
      same = subst (λ (all : List Step). IsPermutation all c.sort_by_key.new.self.items) c.in_ok-steps.ensures e.permutation;
      apart = steps_apart c.args.ladder c.args.rows.now c.requires.distinct;
      rising = IsNonDecreasingBy-from_sort_by_key (λ (s : Step). s.from) c.sort_by_key.new.self.items e.sorted (λ a r q k. search rules);
      limits = All-permutation (λ (s : Step). IsPrice s.price.0) unsorted c.sort_by_key.new.self.items e.permutation (All-same (λ (s : Step). IsPrice s.price.0) unsorted (steps_by c.args.ladder c.args.rows.now) c.in_ok-steps.ensures (All-weaker IsStep (λ (s : Step). IsPrice s.price.0) (λ s is. is.price) (steps_by c.args.ladder c.args.rows.now) (steps_within c.args.ladder c.args.rows.now c.requires.each)));
    }
