-- How long the names of a day are.
use Rattle.std.specs.Prelude.{length, All}
use Rattle.desk_units.specs.Padded.{IsNameLength}
use Rattle.desk_data.specs.Situation.{Situation}

-- each name has 1 to 32 bytes
pub record HasNames (I : Situation) : Type 0 where
  pub legs : All (λ leg. IsNameLength (length leg.flight)) I.parts.legs
  pub planes : All (λ plane. IsNameLength (length plane.name)) I.parts.planes
  pub res : All (λ r. IsNameLength (length r.name)) I.parts.res
