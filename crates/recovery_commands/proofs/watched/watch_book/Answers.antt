use Rattle.std.proofs.Common.{◌≡◌, All, ap, sym, subst}
use Rattle.desk_data.specs.Situation.{Situation}
use Rattle.desk_data.specs.Valid.{IsBatch}
use Rattle.desk_core.specs.Recorded.{Recorded}
use Rattle.desk_pool.specs.Workers.{day_of}
use Rattle.recovery_commands.proofs.watched.watch_book.Goals as goal

-- the book of the turn is the one that was opened
pub watch_turn-requires-clause-asked : goal.watch_turn-requires-clause-asked
watch_turn-requires-clause-asked g c κs within =
    let same : day_of c.in-Ok-open.opened.0 ≡ c.args.book.opening = ap (λ (B : Recorded). B.opening) c.in-Ok-open.ensures.book in
    subst (λ (I : Situation). All (IsBatch I.parts) c.args.batches.now) (sym same) c.requires.asked
