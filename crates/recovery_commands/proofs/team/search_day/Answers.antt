use Rattle.std.proofs.Common.{◌≡◌, All, rules, sym, subst}
use Rattle.desk_data.specs.Situation.{Situation}
use Rattle.desk_data.specs.Valid.{IsBatch}
use Rattle.turn_book.specs.Passes.{known}
use Rattle.desk_pool.specs.Workers.{day_of}
use Rattle.recovery_commands.proofs.Closing.{all_in}
use Rattle.recovery_commands.proofs.team.search_day.Goals as goal

-- the book of the turn is of the day that was given
pub search-pass-requires-clause-asked : goal.search-pass-requires-clause-asked
search-pass-requires-clause-asked g c κs within =
    let same : day_of c.in-Ok.opened.0 ≡ c.args.inst = search rules in
    subst (λ (I : Situation). All (IsBatch I.parts) c.args.batches.now) (sym same) c.requires.asked

pub close-book-requires-clause-all : goal.close-book-requires-clause-all
close-book-requires-clause-all g c κs = all_in (known c.in-Ok.opened.1) (known c.search-pass.result.0) c.in-Ok.ensures.first.1 c.search-pass.ensures.returned

pub close_day-requires-clause-all : goal.close_day-requires-clause-all
close_day-requires-clause-all g c = all_in (known c.in-Ok.opened.1) (known c.search-pass.result.0) c.in-Ok.ensures.first.1 c.search-pass.ensures.returned
