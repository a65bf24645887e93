-- Names with which the files that give a plan can be read again.
use Rattle.std.specs.Prelude.{◌≡◌, false, All}
use Rattle.desk_data.specs.Situation.{Situation}
use Rattle.desk_text.specs.Lines.{is_last}

-- names are plain: those of flights and of reservations do not begin with '#', as a line that ends a file does
pub record ArePlain (I : Situation) : Type 0 where
  pub flights : All (λ leg. is_last leg.flight ≡ false) I.parts.legs
  pub reservations : All (λ r. is_last r.name ≡ false) I.parts.res
