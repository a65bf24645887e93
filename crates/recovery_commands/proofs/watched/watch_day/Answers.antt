use Rattle.std.proofs.Common.{◌≡◌, All, ap, sym, subst}
use Rattle.desk_data.specs.Situation.{Situation}
use Rattle.desk_data.specs.Valid.{IsBatch}
use Rattle.desk_core.specs.Recorded.{Recorded}
use Rattle.recovery_commands.proofs.watched.watch_day.Goals as goal

-- the book is of the day that was given
pub watch_book-requires-clause-asked : goal.watch_book-requires-clause-asked
watch_book-requires-clause-asked g c κs within =
    let same : c.in_ok-book.book.opening ≡ c.args.inst = ap (λ (B : Recorded). B.opening) c.in_ok-book.ensures in
    subst (λ (I : Situation). All (IsBatch I.parts) c.args.batches.now) (sym same) c.requires.asked
