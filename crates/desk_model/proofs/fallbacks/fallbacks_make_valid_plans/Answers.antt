use Rattle.desk_model.proofs.FallbackLaws.{settled-valid, shifted-valid, grounded-valid, fallback-valid}
use Rattle.desk_model.proofs.fallbacks.fallbacks_make_valid_plans.Goals as goal

pub returns : goal.returns
returns c = record { settled = settled-valid; shifted = shifted-valid; grounded = grounded-valid; chosen = fallback-valid }
