use Rattle.std.proofs.Common.{List, ℕ, ap, ◌∙◌}
use Rattle.crew_duty.specs.Faults.{among}
use Rattle.crew_duty.proofs.UserLaws.{numbers_more}
use Rattle.crew_duty.proofs.broken.numbers_below.Goals as goal

pub loop-k-preserved : goal.loop-k-preserved
loop-k-preserved c = λ k. ap (λ (xs : List ℕ). among xs k) c.in_ok-push.ensures.items ∙ numbers_more c.loop-k.numbers.items c.loop-k.k c.loop-k.invariant k
