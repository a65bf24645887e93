use Rattle.std.proofs.Common.{ℕ, List, length, sym, ap, ◌∙◌}
use Rattle.crew_duty.specs.Faults.{among}
use Rattle.crew_duty.proofs.JudgedLaws.{all_broken, all_below}
use Rattle.crew_duty.proofs.broken.broken_items.Goals as goal

pub judge_crews-requires-clause-numbers : goal.judge_crews-requires-clause-numbers
judge_crews-requires-clause-numbers c =
    all_below c.as_slice-numbers.result.now (length c.args.crews.now)
    (λ k is. sym (ap (λ (xs : List ℕ). among xs k) c.as_slice-numbers.ensures.value ∙ c.in_ok-all.ensures k) ∙ is)

pub returns : goal.returns
returns c =
    all_broken c.args.inst.now.parts c.args.crews.now c.args.rows.now c.as_slice-numbers.result.now c.new-broken.result.items c.judge_crews.new.broken.items c.new-broken.ensures
    (λ k. ap (λ (xs : List ℕ). among xs k) c.as_slice-numbers.ensures.value ∙ c.in_ok-all.ensures k)
    c.in_ok-judge_crews.ensures.ok
