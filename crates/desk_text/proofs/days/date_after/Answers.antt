use Rattle.std.proofs.Common.{arith}
use Rattle.jiff_core.proofs.SignedLemmas.{signed_arith}
use Rattle.desk_text.proofs.days.date_after.Goals as goal

pub unwrap-date-requires : goal.unwrap-date-requires
unwrap-date-requires c = c.from_unix_epoch_day.ensures.succeeds.1 (omega (arith, signed_arith, c.from.ensures), omega (arith, signed_arith, c.from.ensures))

pub returns : goal.returns
returns c = rw c.from_plain.ensures (omega (arith, signed_arith, c.from.ensures, rw c.unwrap-date.ensures at c.from_unix_epoch_day.ensures.value))
