use Rattle.desk_model.proofs.FallbackLaws.{falls_back}
use Rattle.desk_model.proofs.fallbacks.the_fallback_is_the_first_that_is_feasible.Goals as goal

pub returns : goal.returns
returns c = falls_back
