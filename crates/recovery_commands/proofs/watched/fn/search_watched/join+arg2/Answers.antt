use Rattle.std.proofs.Common.{arith}
use Rattle.recovery_commands.proofs.watched.fn.search_watched.join+arg2.Goals as goal

-- there is room for 63 notes
pub returns : goal.returns
returns g c = record {
  behind = c.watch.ensures.behind;
  rising = c.watch.ensures.rising;
  few = omega (arith, c.watch.ensures.few, c.requires.room);
  noted = λ low. c.watch.ensures.noted (omega (arith, low, c.requires.room));
}
